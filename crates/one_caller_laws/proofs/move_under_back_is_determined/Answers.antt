use Rattle.one_caller_laws.proofs.FrontAnswers.{move_under_back}
use Rattle.one_caller_laws.proofs.move_under_back_is_determined.Goals as goal

pub returns : goal.returns
returns c = move_under_back
