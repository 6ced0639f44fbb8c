use Rattle.block_steps.proofs.Searches.{hint_law}
use Rattle.block_steps.proofs.laws.hint_keeps.Goals as goal

pub returns : goal.returns
returns g c = hint_law g.T.Stands.stands
