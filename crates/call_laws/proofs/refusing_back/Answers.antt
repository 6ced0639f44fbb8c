use Rattle.call_laws.proofs.Places.{refusing_back}
use Rattle.call_laws.proofs.refusing_back.Goals as goal

pub returns : goal.returns
returns c = refusing_back
