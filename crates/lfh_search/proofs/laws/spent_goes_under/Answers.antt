use Rattle.lfh_search.proofs.Taking.{spent_goes_under}
use Rattle.lfh_search.proofs.laws.spent_goes_under.Goals as goal

pub returns : goal.returns
returns c = spent_goes_under
