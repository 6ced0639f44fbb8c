use Rattle.call_laws.proofs.Spans.{reserving_back}
use Rattle.call_laws.proofs.reserving_back.Goals as goal

pub returns : goal.returns
returns c = reserving_back
