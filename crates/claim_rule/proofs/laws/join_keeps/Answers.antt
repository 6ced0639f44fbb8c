use Rattle.claim_rule.proofs.Seats.{tells, takes_in}
use Rattle.claim_rule.proofs.laws.join_keeps.Goals as goal

pub returns : goal.returns
returns g c = record { tells = tells g.T.Stands.stands; takes_in = takes_in g.T.Stands.stands }
