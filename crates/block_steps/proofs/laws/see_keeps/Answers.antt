use Rattle.block_steps.proofs.Searches.{see_law}
use Rattle.block_steps.proofs.laws.see_keeps.Goals as goal

pub returns : goal.returns
returns g c = see_law g.T.Stands.stands
