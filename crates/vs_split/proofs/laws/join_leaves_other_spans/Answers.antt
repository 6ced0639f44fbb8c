use Rattle.vs_split.proofs.RowLemmas.{join_outside}
use Rattle.vs_split.proofs.laws.join_leaves_other_spans.Goals as goal

pub returns : goal.returns
returns c = join_outside
