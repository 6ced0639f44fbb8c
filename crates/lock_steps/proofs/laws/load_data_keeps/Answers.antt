use Rattle.lock_steps.proofs.Data.{load_data_law}
use Rattle.lock_steps.proofs.laws.load_data_keeps.Goals as goal

pub returns : goal.returns
returns g c = load_data_law g.T.Stands.stands
