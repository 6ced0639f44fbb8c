use Rattle.call_laws.proofs.Spans.{ending_span}
use Rattle.call_laws.proofs.ending_span.Goals as goal

pub returns : goal.returns
returns c = ending_span
