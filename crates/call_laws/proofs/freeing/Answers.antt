use Rattle.call_laws.proofs.TakenBlocks.{freeing}
use Rattle.call_laws.proofs.freeing.Goals as goal

pub returns : goal.returns
returns c = freeing
