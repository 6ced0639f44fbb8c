use Rattle.call_laws.proofs.Words.{others_stay}
use Rattle.call_laws.proofs.others_stay.Goals as goal

pub returns : goal.returns
returns c = others_stay
