use Rattle.search_laws.proofs.Whole.{hint_allocation}
use Rattle.search_laws.proofs.hint_allocation_ends.Goals as goal

pub returns : goal.returns
returns c = hint_allocation
