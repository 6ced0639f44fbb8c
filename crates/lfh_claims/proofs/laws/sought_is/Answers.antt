use Rattle.lfh_claims.proofs.Known.{sought_is}
use Rattle.lfh_claims.proofs.laws.sought_is.Goals as goal

pub returns : goal.returns
returns c = sought_is
