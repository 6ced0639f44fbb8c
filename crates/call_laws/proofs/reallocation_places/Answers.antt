use Rattle.call_laws.proofs.Spans.{reallocation_places}
use Rattle.call_laws.proofs.reallocation_places.Goals as goal

pub returns : goal.returns
returns c = reallocation_places
