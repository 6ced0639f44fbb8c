use Rattle.move_front.proofs.Movers.{mover_places}
use Rattle.move_front.proofs.laws.mover_places.Goals as goal

pub returns : goal.returns
returns c = mover_places
