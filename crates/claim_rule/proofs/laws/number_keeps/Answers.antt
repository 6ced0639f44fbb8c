use Rattle.claim_rule.proofs.Seats.{numbers}
use Rattle.claim_rule.proofs.laws.number_keeps.Goals as goal

pub returns : goal.returns
returns g c = numbers g.T.Stands.stands
