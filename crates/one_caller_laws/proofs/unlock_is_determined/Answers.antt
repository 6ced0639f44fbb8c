use Rattle.one_caller_laws.proofs.Words.{unlock_determined}
use Rattle.one_caller_laws.proofs.unlock_is_determined.Goals as goal

pub returns : goal.returns
returns c = unlock_determined
