use Rattle.serial_laws.proofs.VsAllocate.{reserving_span}
use Rattle.serial_laws.proofs.reserving_span_ends.Goals as goal

pub returns : goal.returns
returns c = reserving_span
