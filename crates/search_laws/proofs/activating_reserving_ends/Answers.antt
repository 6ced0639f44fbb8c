use Rattle.search_laws.proofs.Activating.{activating_reserving}
use Rattle.search_laws.proofs.activating_reserving_ends.Goals as goal

pub returns : goal.returns
returns c = activating_reserving
