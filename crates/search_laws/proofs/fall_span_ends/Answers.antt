use Rattle.search_laws.proofs.Fallen.{fall_span}
use Rattle.search_laws.proofs.fall_span_ends.Goals as goal

pub returns : goal.returns
returns c = fall_span
