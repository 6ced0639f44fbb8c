use Rattle.lfh_search.proofs.Spent.{eight_losses_spend}
use Rattle.lfh_search.proofs.laws.eight_losses_spend.Goals as goal

pub returns : goal.returns
returns c = eight_losses_spend
