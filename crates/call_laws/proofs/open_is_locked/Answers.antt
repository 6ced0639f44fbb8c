use Rattle.call_laws.proofs.Exclusive.{open_is_locked}
use Rattle.call_laws.proofs.open_is_locked.Goals as goal

pub returns : goal.returns
returns c = open_is_locked
