use Rattle.search_laws.proofs.Activating.{activating_span}
use Rattle.search_laws.proofs.activating_span_ends.Goals as goal

pub returns : goal.returns
returns c = activating_span
