use Rattle.move_taken.proofs.Found.{taken_holds}
use Rattle.move_taken.proofs.laws.taken_holds.Goals as goal

pub returns : goal.returns
returns c = taken_holds
