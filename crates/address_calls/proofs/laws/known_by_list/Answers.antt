use Rattle.address_calls.proofs.TagRead as reads
use Rattle.address_calls.proofs.laws.known_by_list.Goals as goal

pub returns : goal.returns
returns c = reads.known_by_list
