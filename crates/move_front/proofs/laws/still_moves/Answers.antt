use Rattle.move_front.proofs.Quiet.{still_moves}
use Rattle.move_front.proofs.laws.still_moves.Goals as goal

pub returns : goal.returns
returns c = still_moves
