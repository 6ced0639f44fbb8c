use Rattle.block_steps.proofs.BlockLaws.{clear_law}
use Rattle.block_steps.proofs.laws.clear_keeps.Goals as goal

pub returns : goal.returns
returns g c = clear_law g.T.Stands.stands
