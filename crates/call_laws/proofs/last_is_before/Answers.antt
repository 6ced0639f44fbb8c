use Rattle.call_laws.proofs.Told.{last_is_before}
use Rattle.call_laws.proofs.last_is_before.Goals as goal

pub returns : goal.returns
returns c = last_is_before
