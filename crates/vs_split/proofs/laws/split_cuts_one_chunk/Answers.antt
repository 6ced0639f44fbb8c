use Rattle.vs_split.proofs.RowLemmas.{split_row}
use Rattle.vs_split.proofs.laws.split_cuts_one_chunk.Goals as goal

pub returns : goal.returns
returns c = split_row
