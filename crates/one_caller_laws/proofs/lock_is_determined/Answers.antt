use Rattle.one_caller_laws.proofs.Words.{lock_determined}
use Rattle.one_caller_laws.proofs.lock_is_determined.Goals as goal

pub returns : goal.returns
returns c = lock_determined
