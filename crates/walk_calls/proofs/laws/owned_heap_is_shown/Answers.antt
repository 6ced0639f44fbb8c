use Rattle.walk_calls.proofs.Tables.{owned_shows}
use Rattle.walk_calls.proofs.laws.owned_heap_is_shown.Goals as goal

pub returns : goal.returns
returns c = λ o t r n owner free. owned_shows o t r n owner free
