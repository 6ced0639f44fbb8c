use Rattle.move_taken.proofs.Keeping.{said_keeps}
use Rattle.move_taken.proofs.laws.said_keeps.Goals as goal

pub returns : goal.returns
returns c = said_keeps
