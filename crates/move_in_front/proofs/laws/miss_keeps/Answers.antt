use Rattle.move_in_front.proofs.Keeping.{miss_keeps}
use Rattle.move_in_front.proofs.laws.miss_keeps.Goals as goal

pub returns : goal.returns
returns c = miss_keeps
