use Rattle.look_steps.proofs.Looks.{look_tag_law}
use Rattle.look_steps.proofs.laws.look_tag_keeps.Goals as goal

pub returns : goal.returns
returns g c = look_tag_law g.T.Stands.stands
