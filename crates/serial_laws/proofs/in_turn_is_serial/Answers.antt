use Rattle.serial_laws.proofs.Turns.{serial}
use Rattle.serial_laws.proofs.in_turn_is_serial.Goals as goal

pub returns : goal.returns
returns c = serial
