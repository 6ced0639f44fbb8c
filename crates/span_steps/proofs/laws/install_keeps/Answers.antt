use Rattle.span_steps.proofs.Installs.{install_law}
use Rattle.span_steps.proofs.laws.install_keeps.Goals as goal

pub returns : goal.returns
returns g c = install_law g.T.Stands.stands
