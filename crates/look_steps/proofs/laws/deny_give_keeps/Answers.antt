use Rattle.look_steps.proofs.Denials.{deny_give_law}
use Rattle.look_steps.proofs.laws.deny_give_keeps.Goals as goal

pub returns : goal.returns
returns g c = deny_give_law g.T.Stands.stands
