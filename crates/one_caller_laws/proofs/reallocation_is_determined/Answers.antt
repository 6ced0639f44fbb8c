use Rattle.one_caller_laws.proofs.Reallocs.{reallocation_determined}
use Rattle.one_caller_laws.proofs.reallocation_is_determined.Goals as goal

pub returns : goal.returns
returns c = reallocation_determined
