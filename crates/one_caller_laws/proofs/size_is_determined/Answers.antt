use Rattle.one_caller_laws.proofs.Asks.{size_determined}
use Rattle.one_caller_laws.proofs.size_is_determined.Goals as goal

pub returns : goal.returns
returns c = size_determined
