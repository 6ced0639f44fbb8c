use Rattle.step_parts.proofs.Stays.{seen_still}
use Rattle.step_parts.proofs.laws.seen_stays.Goals as goal

pub returns : goal.returns
returns g c = λ o st r id n v es at h s q inside head b t seen. seen_still g.T.Stands.stands o st r id n v es at h s q inside head b t seen
