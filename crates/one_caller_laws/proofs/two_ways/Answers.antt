use Rattle.one_caller_laws.proofs.WorkedPairs.{two_ways}
use Rattle.one_caller_laws.proofs.two_ways.Goals as goal

pub returns : goal.returns
returns c = two_ways
