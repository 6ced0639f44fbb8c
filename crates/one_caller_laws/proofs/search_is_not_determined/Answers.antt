use Rattle.one_caller_laws.proofs.WorkedPairs.{search_is_not_determined}
use Rattle.one_caller_laws.proofs.search_is_not_determined.Goals as goal

pub returns : goal.returns
returns c = search_is_not_determined
