use Rattle.search_laws.proofs.Searching.{hint_is_read}
use Rattle.search_laws.proofs.hint_is_read.Goals as goal

pub returns : goal.returns
returns c = hint_is_read
