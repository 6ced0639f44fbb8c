use Rattle.search_laws.proofs.Whole.{reserving_lfh_span}
use Rattle.search_laws.proofs.reserving_lfh_span_ends.Goals as goal

pub returns : goal.returns
returns c = reserving_lfh_span
