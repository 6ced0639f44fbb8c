use Rattle.address_calls.proofs.TagRead as reads
use Rattle.address_calls.proofs.laws.reads_known_tag.Goals as goal

pub returns : goal.returns
returns c = reads.reads_known_tag
