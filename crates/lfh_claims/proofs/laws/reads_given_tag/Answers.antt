use Rattle.lfh_claims.proofs.Known.{reads_given_tag}
use Rattle.lfh_claims.proofs.laws.reads_given_tag.Goals as goal

pub returns : goal.returns
returns c = reads_given_tag
