use Rattle.lfh_claims.proofs.Known.{publishes_in_hand}
use Rattle.lfh_claims.proofs.laws.publishes_in_hand.Goals as goal

pub returns : goal.returns
returns c = publishes_in_hand
