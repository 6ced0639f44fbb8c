use Rattle.call_laws.proofs.Blocks.{sizing}
use Rattle.call_laws.proofs.sizing.Goals as goal

pub returns : goal.returns
returns c = sizing
