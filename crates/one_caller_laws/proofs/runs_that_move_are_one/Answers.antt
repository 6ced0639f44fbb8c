use Rattle.one_caller_laws.proofs.Moving.{runs_that_move}
use Rattle.one_caller_laws.proofs.runs_that_move_are_one.Goals as goal

pub returns : goal.returns
returns c = runs_that_move
