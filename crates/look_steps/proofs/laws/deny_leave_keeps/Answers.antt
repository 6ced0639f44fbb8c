use Rattle.look_steps.proofs.Denials.{deny_leave_law}
use Rattle.look_steps.proofs.laws.deny_leave_keeps.Goals as goal

pub returns : goal.returns
returns g c = deny_leave_law g.T.Stands.stands
