use Rattle.call_laws.proofs.Spans.{placing_in_span}
use Rattle.call_laws.proofs.placing_in_span.Goals as goal

pub returns : goal.returns
returns c = placing_in_span
