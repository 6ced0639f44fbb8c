use Rattle.one_caller_laws.proofs.SmallAllocs.{allocation_under_back}
use Rattle.one_caller_laws.proofs.allocation_under_back_is_determined.Goals as goal

pub returns : goal.returns
returns c = allocation_under_back
