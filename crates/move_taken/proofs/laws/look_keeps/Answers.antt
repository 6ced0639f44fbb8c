use Rattle.move_taken.proofs.Keeping.{look_keeps}
use Rattle.move_taken.proofs.laws.look_keeps.Goals as goal

pub returns : goal.returns
returns c = look_keeps
