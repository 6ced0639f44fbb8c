use Rattle.call_laws.proofs.Spans.{reserving_span}
use Rattle.call_laws.proofs.reserving_span.Goals as goal

pub returns : goal.returns
returns c = reserving_span
