use Rattle.span_steps.proofs.Stores.{activate_law}
use Rattle.span_steps.proofs.laws.activate_keeps.Goals as goal

pub returns : goal.returns
returns g c = activate_law g.T.Stands.stands
