use Rattle.move_in_front.proofs.Keeping.{taken_has}
use Rattle.move_in_front.proofs.laws.taken_has.Goals as goal

pub returns : goal.returns
returns c = taken_has
