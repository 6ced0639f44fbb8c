use Rattle.lock_steps.proofs.Locks.{take_law}
use Rattle.lock_steps.proofs.laws.take_keeps.Goals as goal

pub returns : goal.returns
returns g c = take_law g.T.Stands.stands
