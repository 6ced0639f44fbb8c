use Rattle.one_caller_laws.proofs.Others.{runs_of_others}
use Rattle.one_caller_laws.proofs.runs_of_others_are_one.Goals as goal

pub returns : goal.returns
returns c = runs_of_others
