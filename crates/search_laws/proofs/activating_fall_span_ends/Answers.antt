use Rattle.search_laws.proofs.Activating.{activating_fall_span}
use Rattle.search_laws.proofs.activating_fall_span_ends.Goals as goal

pub returns : goal.returns
returns c = activating_fall_span
