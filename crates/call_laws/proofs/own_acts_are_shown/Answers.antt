use Rattle.call_laws.proofs.Told.{own_acts_are_shown}
use Rattle.call_laws.proofs.own_acts_are_shown.Goals as goal

pub returns : goal.returns
returns c = own_acts_are_shown
