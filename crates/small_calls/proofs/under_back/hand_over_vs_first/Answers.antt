use Rattle.std.proofs.Common.{◌∙◌, [], ◌∷◌, refl}
use Rattle.claim_rule.specs.Places.{back_slot}
use Rattle.small_calls.proofs.BackHeld.{out_b, under_b, keeps_b, added_d, under_d, tells_d, vs_first}
use Rattle.small_calls.proofs.under_back.hand_over_vs_first.Goals as goal

pub give_vs-requires-clause-table : goal.give_vs-requires-clause-table
give_vs-requires-clause-table c = c.hand_over_front.ensures.ended.added.goes.table ∙ c.requires.table.0

pub give_vs-requires-clause-whole : goal.give_vs-requires-clause-whole
give_vs-requires-clause-whole c = c.hand_over_front.ensures.ended.whole

pub give_vs-requires-clause-inside : goal.give_vs-requires-clause-inside
give_vs-requires-clause-inside c = under_b c.args.c.now c.hand_over_front.new.c c.args.vs c.args.back c.args.addr c.args.n c.args.zero c.requires.one.3.inside c.requires.locks c.check.ensures.stands c.requires.back c.requires.vs c.hand_over_front.ensures c.check-2.ensures.stands

pub give_vs-requires-clause-lock : goal.give_vs-requires-clause-lock
give_vs-requires-clause-lock c = (back_slot ∷ [], out_b c.args.c.now c.hand_over_front.new.c c.args.vs c.args.back c.args.addr c.args.n c.args.zero c.requires.one.3.inside c.requires.locks c.check.ensures.stands c.requires.back c.requires.vs c.hand_over_front.ensures c.check-2.ensures.stands, refl)

pub give_vs-requires-clause-tells : goal.give_vs-requires-clause-tells
give_vs-requires-clause-tells c s q = let k = keeps_b c.args.c.now c.hand_over_front.new.c c.args.vs c.args.back c.args.addr c.args.n c.args.zero c.requires.one.3.inside c.requires.locks c.check.ensures.stands c.requires.back c.requires.vs c.hand_over_front.ensures c.check-2.ensures.stands in (k.used s q, k.tells s q)

pub give_back-requires-clause-table : goal.give_back-requires-clause-table
give_back-requires-clause-table c = (added_d c.args.c.now c.hand_over_front.new.c c.args.vs c.args.back c.args.addr c.args.n c.args.zero c.requires.one.3.inside c.requires.locks c.check.ensures.stands c.requires.back c.requires.vs c.hand_over_front.ensures c.check-2.ensures.stands c.give_vs.new.c c.give_vs.ensures).added.goes.table ∙ c.requires.table.0

pub give_back-requires-clause-whole : goal.give_back-requires-clause-whole
give_back-requires-clause-whole c = (added_d c.args.c.now c.hand_over_front.new.c c.args.vs c.args.back c.args.addr c.args.n c.args.zero c.requires.one.3.inside c.requires.locks c.check.ensures.stands c.requires.back c.requires.vs c.hand_over_front.ensures c.check-2.ensures.stands c.give_vs.new.c c.give_vs.ensures).whole

pub give_back-requires-clause-inside : goal.give_back-requires-clause-inside
give_back-requires-clause-inside c = under_d c.args.c.now c.hand_over_front.new.c c.args.vs c.args.back c.args.addr c.args.n c.args.zero c.requires.one.3.inside c.requires.locks c.check.ensures.stands c.requires.back c.requires.vs c.hand_over_front.ensures c.check-2.ensures.stands c.give_vs.new.c c.give_vs.ensures

pub give_back-requires-clause-lock : goal.give_back-requires-clause-lock
give_back-requires-clause-lock c = ([], (added_d c.args.c.now c.hand_over_front.new.c c.args.vs c.args.back c.args.addr c.args.n c.args.zero c.requires.one.3.inside c.requires.locks c.check.ensures.stands c.requires.back c.requires.vs c.hand_over_front.ensures c.check-2.ensures.stands c.give_vs.new.c c.give_vs.ensures).out_is, refl)

pub give_back-requires-clause-tells : goal.give_back-requires-clause-tells
give_back-requires-clause-tells c = tells_d c.args.c.now c.hand_over_front.new.c c.args.vs c.args.back c.args.addr c.args.n c.args.zero c.requires.one.3.inside c.requires.locks c.check.ensures.stands c.requires.back c.requires.vs c.hand_over_front.ensures c.check-2.ensures.stands c.give_vs.new.c c.give_vs.ensures

pub give_back-requires-clause-paid : goal.give_back-requires-clause-paid
give_back-requires-clause-paid c = (added_d c.args.c.now c.hand_over_front.new.c c.args.vs c.args.back c.args.addr c.args.n c.args.zero c.requires.one.3.inside c.requires.locks c.check.ensures.stands c.requires.back c.requires.vs c.hand_over_front.ensures c.check-2.ensures.stands c.give_vs.new.c c.give_vs.ensures).added.steady.owes ∙ c.requires.paid

pub returns : goal.returns
returns c = vs_first c.args.c.now c.hand_over_front.new.c c.args.vs c.args.back c.args.addr c.args.n c.args.zero c.requires.one.3.inside c.requires.locks c.check.ensures.stands c.requires.back c.requires.vs c.hand_over_front.ensures c.check-2.ensures.stands c.give_vs.new.c c.give_vs.ensures c.give_back.new.c c.give_back.ensures
