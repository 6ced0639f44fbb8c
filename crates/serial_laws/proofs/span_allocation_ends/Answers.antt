use Rattle.serial_laws.proofs.VsAllocate.{span_allocation}
use Rattle.serial_laws.proofs.span_allocation_ends.Goals as goal

pub returns : goal.returns
returns c = span_allocation
