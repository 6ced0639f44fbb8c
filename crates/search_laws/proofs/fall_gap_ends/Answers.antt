use Rattle.search_laws.proofs.Fallen.{fall_gap}
use Rattle.search_laws.proofs.fall_gap_ends.Goals as goal

pub returns : goal.returns
returns c = fall_gap
