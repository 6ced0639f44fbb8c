use Rattle.one_caller_laws.proofs.Allocs.{allocation_determined}
use Rattle.one_caller_laws.proofs.allocation_is_determined.Goals as goal

pub returns : goal.returns
returns c = allocation_determined
