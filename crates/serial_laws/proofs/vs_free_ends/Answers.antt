use Rattle.serial_laws.proofs.VsFree.{vs_frees}
use Rattle.serial_laws.proofs.vs_free_ends.Goals as goal

pub returns : goal.returns
returns c = vs_frees
