use Rattle.look_steps.proofs.Looks.{look_bits_law}
use Rattle.look_steps.proofs.laws.look_bits_keeps.Goals as goal

pub returns : goal.returns
returns g c = look_bits_law g.T.Stands.stands
