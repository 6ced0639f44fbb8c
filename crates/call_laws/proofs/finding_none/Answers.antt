use Rattle.call_laws.proofs.Places.{finding_none}
use Rattle.call_laws.proofs.finding_none.Goals as goal

pub returns : goal.returns
returns c = finding_none
