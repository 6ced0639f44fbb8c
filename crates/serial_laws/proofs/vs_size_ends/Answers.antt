use Rattle.serial_laws.proofs.VsFree.{vs_sizes}
use Rattle.serial_laws.proofs.vs_size_ends.Goals as goal

pub returns : goal.returns
returns c = vs_sizes
