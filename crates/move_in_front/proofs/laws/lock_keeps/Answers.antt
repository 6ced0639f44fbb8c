use Rattle.move_in_front.proofs.Keeping.{lock_keeps}
use Rattle.move_in_front.proofs.laws.lock_keeps.Goals as goal

pub returns : goal.returns
returns c = lock_keeps
