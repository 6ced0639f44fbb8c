use Rattle.report_text.proofs.Ranges.{ranges_are}
use Rattle.report_text.proofs.laws.ranges_are_of_the_state.Goals as goal

pub returns : goal.returns
returns c = ranges_are
