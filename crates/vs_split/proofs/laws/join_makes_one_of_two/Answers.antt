use Rattle.vs_split.proofs.RowLemmas.{join_row}
use Rattle.vs_split.proofs.laws.join_makes_one_of_two.Goals as goal

pub returns : goal.returns
returns c = join_row
