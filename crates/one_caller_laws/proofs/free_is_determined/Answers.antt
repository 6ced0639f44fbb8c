use Rattle.one_caller_laws.proofs.Freeing.{free_determined}
use Rattle.one_caller_laws.proofs.free_is_determined.Goals as goal

pub returns : goal.returns
returns c = free_determined
