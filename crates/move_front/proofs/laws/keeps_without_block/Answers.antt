use Rattle.move_front.proofs.Movers.{keeps_without_block}
use Rattle.move_front.proofs.laws.keeps_without_block.Goals as goal

pub returns : goal.returns
returns c = keeps_without_block
