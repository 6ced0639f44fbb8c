use Rattle.serial_laws.proofs.Free.{sizes}
use Rattle.serial_laws.proofs.size_ends.Goals as goal

pub returns : goal.returns
returns c = sizes
