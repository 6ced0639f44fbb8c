use Rattle.search_laws.proofs.Whole.{pass_allocation}
use Rattle.search_laws.proofs.pass_allocation_ends.Goals as goal

pub returns : goal.returns
returns c = pass_allocation
