use Rattle.one_caller_laws.proofs.WorkedPairs.{serial_is_no_function}
use Rattle.one_caller_laws.proofs.serial_is_no_function.Goals as goal

pub returns : goal.returns
returns c = serial_is_no_function
