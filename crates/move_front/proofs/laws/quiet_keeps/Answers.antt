use Rattle.move_front.proofs.Quiet.{quiet_keeps}
use Rattle.move_front.proofs.laws.quiet_keeps.Goals as goal

pub returns : goal.returns
returns c = quiet_keeps
