use Rattle.claim_rule.proofs.Seats.{opens}
use Rattle.claim_rule.proofs.laws.open_is_ruled.Goals as goal

pub returns : goal.returns
returns g c = λ o vs back large valid a b d. opens g.T.Stands.stands o vs back large valid a b d
