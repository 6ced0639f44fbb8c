use Rattle.call_laws.proofs.Places.{placing_in_gap}
use Rattle.call_laws.proofs.placing_in_gap.Goals as goal

pub returns : goal.returns
returns c = placing_in_gap
