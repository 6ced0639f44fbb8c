use Rattle.call_laws.proofs.Told.{finding_stays}
use Rattle.call_laws.proofs.finding_stays.Goals as goal

pub returns : goal.returns
returns c = finding_stays
