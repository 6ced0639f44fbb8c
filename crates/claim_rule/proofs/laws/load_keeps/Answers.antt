use Rattle.claim_rule.proofs.Gate.{looks}
use Rattle.claim_rule.proofs.Seats.{hears, agrees}
use Rattle.claim_rule.proofs.laws.load_keeps.Goals as goal

pub returns : goal.returns
returns g c = record { looks = looks g.T.Stands.stands; hears = hears g.T.Stands.stands; agrees = agrees g.T.Stands.stands }
