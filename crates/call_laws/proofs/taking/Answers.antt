use Rattle.call_laws.proofs.Blocks.{taking}
use Rattle.call_laws.proofs.taking.Goals as goal

pub returns : goal.returns
returns c = taking
