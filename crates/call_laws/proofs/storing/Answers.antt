use Rattle.call_laws.proofs.Blocks.{storing}
use Rattle.call_laws.proofs.storing.Goals as goal

pub returns : goal.returns
returns c = storing
