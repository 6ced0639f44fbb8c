use Rattle.lfh_claims.proofs.Known.{read_by_tag}
use Rattle.lfh_claims.proofs.laws.read_by_tag.Goals as goal

pub returns : goal.returns
returns c = read_by_tag
