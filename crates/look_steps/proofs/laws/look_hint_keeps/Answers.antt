use Rattle.look_steps.proofs.Looks.{look_hint_law}
use Rattle.look_steps.proofs.laws.look_hint_keeps.Goals as goal

pub returns : goal.returns
returns g c = look_hint_law g.T.Stands.stands
