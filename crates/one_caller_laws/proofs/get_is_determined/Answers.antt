use Rattle.one_caller_laws.proofs.Words.{get_determined}
use Rattle.one_caller_laws.proofs.get_is_determined.Goals as goal

pub returns : goal.returns
returns c = get_determined
