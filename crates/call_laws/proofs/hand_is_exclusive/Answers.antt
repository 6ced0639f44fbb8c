use Rattle.call_laws.proofs.Exclusive.{hand_is_exclusive}
use Rattle.call_laws.proofs.hand_is_exclusive.Goals as goal

pub returns : goal.returns
returns c = hand_is_exclusive
