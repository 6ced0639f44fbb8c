use Rattle.call_laws.proofs.TakenBlocks.{freeing_back}
use Rattle.call_laws.proofs.freeing_back.Goals as goal

pub returns : goal.returns
returns c = freeing_back
