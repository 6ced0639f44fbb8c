use Rattle.vs_calls.proofs.Asked.{has_both, refuses_may, refused}
use Rattle.vs_calls.proofs.Backward.{refusal_leaves}
use Rattle.vs_calls.proofs.requests.refuse_new.Goals as goal

pub refuse-requires-clause-both : goal.refuse-requires-clause-both
refuse-requires-clause-both c = has_both c.args.c.now c.args.vs c.args.back c.args.n c.requires.holds.0 c.requires.holds.1 c.requires.used

pub refuse-requires-clause-may : goal.refuse-requires-clause-may
refuse-requires-clause-may c =
    refuses_may c.args.c.now c.args.vs c.args.back c.args.n c.requires.holds.0 c.requires.holds.1 c.check.ensures.stands c.requires.size c.requires.vs c.requires.no_gap c.requires.no_pages

pub returns-clause-leaves : goal.returns-clause-leaves
returns-clause-leaves c = refusal_leaves c.args.c.now c.refuse.new.c c.args.n c.refuse.ensures

pub returns-clause-refused : goal.returns-clause-refused
returns-clause-refused c = refused c.args.c.now c.args.vs c.args.back c.args.n c.requires.holds.0 c.requires.holds.1 c.refuse.new.c c.refuse.ensures
