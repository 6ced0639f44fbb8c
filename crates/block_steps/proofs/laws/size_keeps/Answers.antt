use Rattle.block_steps.proofs.BlockLaws.{size_law}
use Rattle.block_steps.proofs.laws.size_keeps.Goals as goal

pub returns : goal.returns
returns g c = size_law g.T.Stands.stands
