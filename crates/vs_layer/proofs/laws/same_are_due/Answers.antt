use Rattle.vs_layer.proofs.Told.{due_is}
use Rattle.vs_layer.proofs.laws.same_are_due.Goals as goal

pub returns : goal.returns
returns c = λ o st k bucket t. due_is o st k t bucket
