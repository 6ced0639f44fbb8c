use Rattle.vs_split.proofs.RowLemmas.{split_outside}
use Rattle.vs_split.proofs.laws.split_leaves_other_spans.Goals as goal

pub returns : goal.returns
returns c = split_outside
