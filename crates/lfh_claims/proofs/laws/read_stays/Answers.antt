use Rattle.lfh_claims.proofs.Stays.{read_stays}
use Rattle.lfh_claims.proofs.laws.read_stays.Goals as goal

pub returns : goal.returns
returns c old new es head b t d stay plain inside read = read_stays old new es d stay plain inside head b t read
