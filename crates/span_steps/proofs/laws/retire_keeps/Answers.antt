use Rattle.span_steps.proofs.Retires.{retire_law}
use Rattle.span_steps.proofs.laws.retire_keeps.Goals as goal

pub returns : goal.returns
returns g c = retire_law g.T.Stands.stands
