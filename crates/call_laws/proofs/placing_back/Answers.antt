use Rattle.call_laws.proofs.Spans.{placing_back}
use Rattle.call_laws.proofs.placing_back.Goals as goal

pub returns : goal.returns
returns c = placing_back
