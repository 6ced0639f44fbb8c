use Rattle.move_taken.proofs.Keeping.{lock_keeps}
use Rattle.move_taken.proofs.laws.lock_keeps.Goals as goal

pub returns : goal.returns
returns c = lock_keeps
