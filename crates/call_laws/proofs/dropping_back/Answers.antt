use Rattle.call_laws.proofs.Spans.{dropping_back}
use Rattle.call_laws.proofs.dropping_back.Goals as goal

pub returns : goal.returns
returns c = dropping_back
