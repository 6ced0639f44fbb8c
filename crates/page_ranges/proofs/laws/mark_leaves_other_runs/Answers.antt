use Rattle.page_ranges.proofs.LawLemmas.{left}
use Rattle.page_ranges.proofs.laws.mark_leaves_other_runs.Goals as goal

pub returns : goal.returns
returns c = left
