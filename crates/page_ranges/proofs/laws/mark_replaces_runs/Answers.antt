use Rattle.page_ranges.proofs.LawLemmas.{replaced_by_one}
use Rattle.page_ranges.proofs.laws.mark_replaces_runs.Goals as goal

pub returns : goal.returns
returns c = replaced_by_one
