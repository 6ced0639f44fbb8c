use Rattle.call_laws.proofs.Exclusive.{allocation_holds_old}
use Rattle.call_laws.proofs.allocation_holds_old.Goals as goal

pub returns : goal.returns
returns c = allocation_holds_old
