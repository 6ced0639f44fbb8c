use Rattle.look_steps.proofs.Denials.{deny_law}
use Rattle.look_steps.proofs.laws.deny_keeps.Goals as goal

pub returns : goal.returns
returns g c = deny_law g.T.Stands.stands
