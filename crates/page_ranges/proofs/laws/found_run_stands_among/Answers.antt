use Rattle.page_ranges.proofs.LawLemmas.{stands_among}
use Rattle.page_ranges.proofs.laws.found_run_stands_among.Goals as goal

pub returns : goal.returns
returns c = stands_among
