use Rattle.serial_laws.proofs.Free.{frees}
use Rattle.serial_laws.proofs.free_ends.Goals as goal

pub returns : goal.returns
returns c = frees
