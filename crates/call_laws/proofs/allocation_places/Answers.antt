use Rattle.call_laws.proofs.Spans.{allocation_places}
use Rattle.call_laws.proofs.allocation_places.Goals as goal

pub returns : goal.returns
returns c = allocation_places
