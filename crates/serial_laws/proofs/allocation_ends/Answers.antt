use Rattle.serial_laws.proofs.Allocate.{allocation}
use Rattle.serial_laws.proofs.allocation_ends.Goals as goal

pub returns : goal.returns
returns c = allocation
