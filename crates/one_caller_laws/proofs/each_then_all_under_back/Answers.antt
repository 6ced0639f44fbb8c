use Rattle.one_caller_laws.proofs.UnderBackRuns.{each_under_back}
use Rattle.one_caller_laws.proofs.each_then_all_under_back.Goals as goal

pub returns : goal.returns
returns c = each_under_back
