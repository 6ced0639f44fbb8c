use Rattle.call_laws.proofs.Blocks.{giving}
use Rattle.call_laws.proofs.giving.Goals as goal

pub returns : goal.returns
returns c = giving
