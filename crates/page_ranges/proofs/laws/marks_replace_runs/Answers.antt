use Rattle.page_ranges.proofs.LawLemmas.{replaced}
use Rattle.page_ranges.proofs.laws.marks_replace_runs.Goals as goal

pub returns : goal.returns
returns c = replaced
