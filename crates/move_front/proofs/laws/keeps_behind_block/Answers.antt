use Rattle.move_front.proofs.Movers.{keeps_behind_block}
use Rattle.move_front.proofs.laws.keeps_behind_block.Goals as goal

pub returns : goal.returns
returns c = keeps_behind_block
