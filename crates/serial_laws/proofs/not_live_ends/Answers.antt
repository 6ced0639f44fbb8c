use Rattle.serial_laws.proofs.Free.{not_live}
use Rattle.serial_laws.proofs.not_live_ends.Goals as goal

pub returns : goal.returns
returns c = not_live
