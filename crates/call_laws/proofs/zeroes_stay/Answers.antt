use Rattle.call_laws.proofs.Words.{zeroes_stay}
use Rattle.call_laws.proofs.zeroes_stay.Goals as goal

pub returns : goal.returns
returns c = zeroes_stay
