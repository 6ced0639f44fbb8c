use Rattle.block_steps.proofs.BlockLaws.{take_block_law}
use Rattle.block_steps.proofs.laws.take_block_keeps.Goals as goal

pub returns : goal.returns
returns g c = take_block_law g.T.Stands.stands
