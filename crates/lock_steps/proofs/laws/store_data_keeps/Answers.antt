use Rattle.lock_steps.proofs.Data.{store_data_law}
use Rattle.lock_steps.proofs.laws.store_data_keeps.Goals as goal

pub returns : goal.returns
returns g c = store_data_law g.T.Stands.stands
