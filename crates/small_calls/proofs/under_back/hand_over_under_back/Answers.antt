use Rattle.std.proofs.Common.{◌∙◌}
use Rattle.small_calls.proofs.BackHeld.{out_still, under_still, tells_still, given_under}
use Rattle.small_calls.proofs.under_back.hand_over_under_back.Goals as goal

pub give_back-requires-clause-table : goal.give_back-requires-clause-table
give_back-requires-clause-table c = c.hand_over_front.ensures.ended.added.goes.table ∙ c.requires.table.0

pub give_back-requires-clause-whole : goal.give_back-requires-clause-whole
give_back-requires-clause-whole c = c.hand_over_front.ensures.ended.whole

pub give_back-requires-clause-inside : goal.give_back-requires-clause-inside
give_back-requires-clause-inside c =
    under_still c.args.c.now c.hand_over_front.new.c c.args.back c.args.addr c.args.n c.args.zero c.requires.lock.0 c.requires.lock.1 c.check.ensures.stands c.requires.back c.hand_over_front.ensures c.requires.one.3.inside

pub give_back-requires-clause-lock : goal.give_back-requires-clause-lock
give_back-requires-clause-lock c =
    (c.requires.lock.0, out_still c.args.c.now c.hand_over_front.new.c c.args.back c.args.addr c.args.n c.args.zero c.requires.lock.0 c.requires.lock.1 c.check.ensures.stands c.requires.back c.hand_over_front.ensures, c.requires.lock.2)

pub give_back-requires-clause-tells : goal.give_back-requires-clause-tells
give_back-requires-clause-tells c =
    tells_still c.args.c.now c.hand_over_front.new.c c.args.back c.args.addr c.args.n c.args.zero c.requires.lock.0 c.requires.lock.1 c.check.ensures.stands c.requires.back c.hand_over_front.ensures

pub give_back-requires-clause-paid : goal.give_back-requires-clause-paid
give_back-requires-clause-paid c = c.hand_over_front.ensures.ended.added.steady.owes ∙ c.requires.paid

pub returns : goal.returns
returns c more out =
    given_under c.args.c.now c.hand_over_front.new.c c.args.back c.args.addr c.args.n c.args.zero more out c.check.ensures.stands c.requires.back c.hand_over_front.ensures c.check-2.ensures.stands c.give_back.new.c c.give_back.ensures
