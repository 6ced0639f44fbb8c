use Rattle.serial_laws.proofs.Allocate.{reserving}
use Rattle.serial_laws.proofs.reserving_ends.Goals as goal

pub returns : goal.returns
returns c = reserving
