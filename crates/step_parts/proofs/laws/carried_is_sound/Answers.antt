use Rattle.step_parts.proofs.FrontEnd.{keeps_here}
use Rattle.step_parts.proofs.laws.carried_is_sound.Goals as goal

pub returns : goal.returns
returns g c = λ o st r id n v es at h s q. keeps_here g.T.Stands.stands o st r id n v es at h s q
