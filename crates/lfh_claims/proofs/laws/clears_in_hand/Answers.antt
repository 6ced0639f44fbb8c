use Rattle.lfh_claims.proofs.Known.{clears_in_hand}
use Rattle.lfh_claims.proofs.laws.clears_in_hand.Goals as goal

pub returns : goal.returns
returns c = clears_in_hand
