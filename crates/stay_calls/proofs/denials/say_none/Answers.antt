use Rattle.front_calls.proofs.Steps.{found_none}
use Rattle.stay_calls.proofs.Nowhere.{may_deny_none}
use Rattle.stay_calls.proofs.denials.say_none.Goals as goal

pub deny-requires-clause-none : goal.deny-requires-clause-none
deny-requires-clause-none c = may_deny_none c.args.c.now c.args.addr c.requires.free.0 c.requires.free.1 c.check.ensures.stands c.requires.none

pub returns : goal.returns
returns c = found_none c.args.c.now c.deny.new.c c.requires.free.0 c.args.addr c.requires.free.1 c.deny.ensures
