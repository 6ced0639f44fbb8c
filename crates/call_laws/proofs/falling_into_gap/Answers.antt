use Rattle.call_laws.proofs.Exclusive.{falling_into_gap}
use Rattle.call_laws.proofs.falling_into_gap.Goals as goal

pub returns : goal.returns
returns c = falling_into_gap
