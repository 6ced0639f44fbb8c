use Rattle.one_caller_laws.proofs.FrontReturns.{reallocation_under_back}
use Rattle.one_caller_laws.proofs.reallocation_under_back_is_determined.Goals as goal

pub returns : goal.returns
returns c = reallocation_under_back
