use Rattle.call_laws.proofs.KeptWords.{allocation_zeroes}
use Rattle.call_laws.proofs.allocation_zeroes.Goals as goal

pub returns : goal.returns
returns c = allocation_zeroes
