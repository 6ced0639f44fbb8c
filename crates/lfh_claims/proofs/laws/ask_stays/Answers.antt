use Rattle.lfh_claims.proofs.Stays.{ask_stays}
use Rattle.lfh_claims.proofs.laws.ask_stays.Goals as goal

pub returns : goal.returns
returns c old new es addr head b t d stay plain inside may stands here = ask_stays old new es d stay plain inside addr head b t may stands here
