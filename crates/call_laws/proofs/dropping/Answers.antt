use Rattle.call_laws.proofs.Blocks.{dropping}
use Rattle.call_laws.proofs.dropping.Goals as goal

pub returns : goal.returns
returns c = dropping
