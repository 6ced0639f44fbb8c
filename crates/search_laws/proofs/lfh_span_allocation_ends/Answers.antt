use Rattle.search_laws.proofs.Whole.{lfh_span_allocation}
use Rattle.search_laws.proofs.lfh_span_allocation_ends.Goals as goal

pub returns : goal.returns
returns c = lfh_span_allocation
