use Rattle.look_steps.proofs.Looks.{look_size_law}
use Rattle.look_steps.proofs.laws.look_size_keeps.Goals as goal

pub returns : goal.returns
returns g c = look_size_law g.T.Stands.stands
