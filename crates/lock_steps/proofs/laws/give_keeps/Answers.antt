use Rattle.lock_steps.proofs.Locks.{give_law}
use Rattle.lock_steps.proofs.laws.give_keeps.Goals as goal

pub returns : goal.returns
returns g c = give_law g.T.Stands.stands
