use Rattle.claim_rule.proofs.Gate.{enters}
use Rattle.claim_rule.proofs.laws.enter_keeps.Goals as goal

pub returns : goal.returns
returns g c = enters g.T.Stands.stands
