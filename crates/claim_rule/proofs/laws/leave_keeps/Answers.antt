use Rattle.claim_rule.proofs.Gate.{leaves}
use Rattle.claim_rule.proofs.laws.leave_keeps.Goals as goal

pub returns : goal.returns
returns g c = leaves g.T.Stands.stands
