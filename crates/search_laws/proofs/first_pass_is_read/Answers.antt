use Rattle.search_laws.proofs.Searching.{first_pass_is_read}
use Rattle.search_laws.proofs.first_pass_is_read.Goals as goal

pub returns : goal.returns
returns c = first_pass_is_read
