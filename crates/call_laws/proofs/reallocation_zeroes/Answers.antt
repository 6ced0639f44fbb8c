use Rattle.call_laws.proofs.KeptWords.{reallocation_zeroes}
use Rattle.call_laws.proofs.reallocation_zeroes.Goals as goal

pub returns : goal.returns
returns c = reallocation_zeroes
