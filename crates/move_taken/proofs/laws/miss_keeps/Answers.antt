use Rattle.move_taken.proofs.Keeping.{miss_keeps}
use Rattle.move_taken.proofs.laws.miss_keeps.Goals as goal

pub returns : goal.returns
returns c = miss_keeps
