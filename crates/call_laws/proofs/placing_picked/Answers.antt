use Rattle.call_laws.proofs.Exclusive.{placing_picked}
use Rattle.call_laws.proofs.placing_picked.Goals as goal

pub returns : goal.returns
returns c = placing_picked
