use Rattle.serial_laws.proofs.VsAllocate.{gap_allocation}
use Rattle.serial_laws.proofs.gap_allocation_ends.Goals as goal

pub returns : goal.returns
returns c = gap_allocation
