use Rattle.one_caller_laws.proofs.Words.{walk_determined}
use Rattle.one_caller_laws.proofs.walk_is_determined.Goals as goal

pub returns : goal.returns
returns c = walk_determined
