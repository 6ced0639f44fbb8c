use Rattle.lfh_search.proofs.Taking.{no_room_goes_again}
use Rattle.lfh_search.proofs.laws.no_room_goes_again.Goals as goal

pub returns : goal.returns
returns c = no_room_goes_again
