use Rattle.lfh_claims.proofs.Known.{asks_by_tag}
use Rattle.lfh_claims.proofs.laws.asks_by_tag.Goals as goal

pub returns : goal.returns
returns c = asks_by_tag
