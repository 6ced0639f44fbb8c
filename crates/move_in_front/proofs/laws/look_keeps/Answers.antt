use Rattle.move_in_front.proofs.Keeping.{look_keeps}
use Rattle.move_in_front.proofs.laws.look_keeps.Goals as goal

pub returns : goal.returns
returns c = look_keeps
