use Rattle.call_laws.proofs.Exclusive.{reallocation_holds_old}
use Rattle.call_laws.proofs.reallocation_holds_old.Goals as goal

pub returns : goal.returns
returns c = reallocation_holds_old
