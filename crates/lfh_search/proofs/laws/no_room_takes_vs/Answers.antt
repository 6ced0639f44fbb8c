use Rattle.lfh_search.proofs.Taking.{no_room_takes_vs}
use Rattle.lfh_search.proofs.laws.no_room_takes_vs.Goals as goal

pub returns : goal.returns
returns c = no_room_takes_vs
