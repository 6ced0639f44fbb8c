use Rattle.claim_rule.proofs.Advance.{acts_law}
use Rattle.claim_rule.proofs.laws.step_goes_on.Goals as goal

pub returns : goal.returns
returns g c = acts_law g.T.Stands.stands
