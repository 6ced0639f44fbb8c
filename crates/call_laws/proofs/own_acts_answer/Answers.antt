use Rattle.call_laws.proofs.Told.{own_acts_answer}
use Rattle.call_laws.proofs.own_acts_answer.Goals as goal

pub returns : goal.returns
returns c = own_acts_answer
