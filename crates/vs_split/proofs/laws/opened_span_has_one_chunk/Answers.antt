use Rattle.vs_split.proofs.RowLemmas.{opened_row}
use Rattle.vs_split.proofs.laws.opened_span_has_one_chunk.Goals as goal

pub returns : goal.returns
returns c = opened_row
