use Rattle.search_laws.proofs.Activating.{activating_fall_gap}
use Rattle.search_laws.proofs.activating_fall_gap_ends.Goals as goal

pub returns : goal.returns
returns c = activating_fall_gap
