use Rattle.vs_calls.proofs.Asked.{holds_may}
use Rattle.vs_calls.proofs.requests.hold_new.Goals as goal

pub hold_in_gap-requires-clause-may : goal.hold_in_gap-requires-clause-may
hold_in_gap-requires-clause-may c = holds_may c.args.c.now c.args.vs.now c.args.n c.requires.holds.0 c.requires.holds.1 c.check.ensures.stands c.requires.size c.requires.vs
