use Rattle.call_laws.proofs.Exclusive.{refusing_searched}
use Rattle.call_laws.proofs.refusing_searched.Goals as goal

pub returns : goal.returns
returns c = refusing_searched
