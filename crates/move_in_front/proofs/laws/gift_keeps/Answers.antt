use Rattle.move_in_front.proofs.Keeping.{gift_keeps}
use Rattle.move_in_front.proofs.laws.gift_keeps.Goals as goal

pub returns : goal.returns
returns c = gift_keeps
