use Rattle.call_laws.proofs.Places.{placing_large}
use Rattle.call_laws.proofs.placing_large.Goals as goal

pub returns : goal.returns
returns c = placing_large
