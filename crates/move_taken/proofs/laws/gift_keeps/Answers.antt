use Rattle.move_taken.proofs.Keeping.{gift_keeps}
use Rattle.move_taken.proofs.laws.gift_keeps.Goals as goal

pub returns : goal.returns
returns c = gift_keeps
