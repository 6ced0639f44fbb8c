use Rattle.serial_laws.proofs.Allocate.{refusal}
use Rattle.serial_laws.proofs.refusal_ends.Goals as goal

pub returns : goal.returns
returns c = refusal
