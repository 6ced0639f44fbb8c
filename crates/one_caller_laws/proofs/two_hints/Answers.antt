use Rattle.one_caller_laws.proofs.WorkedPairs.{two_hints}
use Rattle.one_caller_laws.proofs.two_hints.Goals as goal

pub returns : goal.returns
returns c = two_hints
