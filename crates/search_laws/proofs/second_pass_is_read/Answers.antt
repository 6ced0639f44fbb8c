use Rattle.search_laws.proofs.Searching.{second_pass_is_read}
use Rattle.search_laws.proofs.second_pass_is_read.Goals as goal

pub returns : goal.returns
returns c = second_pass_is_read
