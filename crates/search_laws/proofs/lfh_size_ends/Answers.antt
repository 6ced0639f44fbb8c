use Rattle.search_laws.proofs.Freeing.{lfh_sizes}
use Rattle.search_laws.proofs.lfh_size_ends.Goals as goal

pub returns : goal.returns
returns c = lfh_sizes
