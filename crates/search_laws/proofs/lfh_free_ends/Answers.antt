use Rattle.search_laws.proofs.Freeing.{lfh_frees}
use Rattle.search_laws.proofs.lfh_free_ends.Goals as goal

pub returns : goal.returns
returns c = lfh_frees
