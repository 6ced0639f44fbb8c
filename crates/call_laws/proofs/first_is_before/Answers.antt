use Rattle.call_laws.proofs.Told.{first_is_before}
use Rattle.call_laws.proofs.first_is_before.Goals as goal

pub returns : goal.returns
returns c = first_is_before
