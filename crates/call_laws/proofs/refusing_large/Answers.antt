use Rattle.call_laws.proofs.Places.{refusing_large}
use Rattle.call_laws.proofs.refusing_large.Goals as goal

pub returns : goal.returns
returns c = refusing_large
