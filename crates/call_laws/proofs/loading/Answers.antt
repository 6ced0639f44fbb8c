use Rattle.call_laws.proofs.Blocks.{loading}
use Rattle.call_laws.proofs.loading.Goals as goal

pub returns : goal.returns
returns c = loading
