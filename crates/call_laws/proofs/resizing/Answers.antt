use Rattle.call_laws.proofs.Blocks.{resizing}
use Rattle.call_laws.proofs.resizing.Goals as goal

pub returns : goal.returns
returns c = resizing
