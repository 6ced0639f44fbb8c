use Rattle.call_laws.proofs.Places.{refusing_vs}
use Rattle.call_laws.proofs.refusing_vs.Goals as goal

pub returns : goal.returns
returns c = refusing_vs
