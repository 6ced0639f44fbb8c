use Rattle.page_ranges.proofs.LawLemmas.{read_in_order}
use Rattle.page_ranges.proofs.laws.runs_are_read_in_order.Goals as goal

pub returns : goal.returns
returns c = read_in_order
