use Rattle.one_caller_laws.proofs.AllRuns.{all_runs_under_back}
use Rattle.one_caller_laws.proofs.all_runs_under_back_are_one.Goals as goal

pub returns : goal.returns
returns c = all_runs_under_back
