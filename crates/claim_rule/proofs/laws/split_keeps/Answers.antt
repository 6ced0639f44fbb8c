use Rattle.claim_rule.proofs.Seats.{relays, deals}
use Rattle.claim_rule.proofs.laws.split_keeps.Goals as goal

pub returns : goal.returns
returns g c = record { relays = relays g.T.Stands.stands; deals = deals g.T.Stands.stands }
