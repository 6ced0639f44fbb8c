use Rattle.page_ranges.proofs.LawLemmas.{read_back}
use Rattle.page_ranges.proofs.laws.marked_run_is_read_back.Goals as goal

pub returns : goal.returns
returns c = read_back
