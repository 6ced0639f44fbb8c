use Rattle.lfh_search.proofs.Spent.{pass_spends}
use Rattle.lfh_search.proofs.laws.pass_spends.Goals as goal

pub returns : goal.returns
returns c = pass_spends
