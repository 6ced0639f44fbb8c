use Rattle.look_steps.proofs.Looks.{ask_active_law}
use Rattle.look_steps.proofs.laws.ask_active_keeps.Goals as goal

pub returns : goal.returns
returns g c = ask_active_law g.T.Stands.stands
