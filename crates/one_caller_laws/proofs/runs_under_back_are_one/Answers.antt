use Rattle.one_caller_laws.proofs.UnderBackRuns.{runs_under_back}
use Rattle.one_caller_laws.proofs.runs_under_back_are_one.Goals as goal

pub returns : goal.returns
returns c = runs_under_back
