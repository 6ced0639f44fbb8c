use Rattle.search_laws.proofs.Searching.{hint_is_missed}
use Rattle.search_laws.proofs.hint_is_missed.Goals as goal

pub returns : goal.returns
returns c = hint_is_missed
