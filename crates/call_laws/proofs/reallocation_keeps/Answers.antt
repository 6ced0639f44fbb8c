use Rattle.call_laws.proofs.KeptWords.{reallocation_keeps}
use Rattle.call_laws.proofs.reallocation_keeps.Goals as goal

pub returns : goal.returns
returns c = reallocation_keeps
