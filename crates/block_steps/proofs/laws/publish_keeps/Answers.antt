use Rattle.block_steps.proofs.BlockLaws.{publish_law}
use Rattle.block_steps.proofs.laws.publish_keeps.Goals as goal

pub returns : goal.returns
returns g c = publish_law g.T.Stands.stands
