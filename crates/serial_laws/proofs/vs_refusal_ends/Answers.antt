use Rattle.serial_laws.proofs.VsAllocate.{vs_refusal}
use Rattle.serial_laws.proofs.vs_refusal_ends.Goals as goal

pub returns : goal.returns
returns c = vs_refusal
