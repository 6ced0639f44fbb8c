use Rattle.std.proofs.Common.{◌∙◌, [], ◌∷◌, refl}
use Rattle.claim_rule.specs.Places.{vs_slot}
use Rattle.small_calls.proofs.BackHeld.{under_vs, keeps_vs, back_first}
use Rattle.small_calls.proofs.under_back.hand_over_back_first.Goals as goal

pub hand_over_under_back-requires-clause-lock : goal.hand_over_under_back-requires-clause-lock
hand_over_under_back-requires-clause-lock c = (vs_slot ∷ [], c.requires.locks, refl)

pub give_vs-requires-clause-table : goal.give_vs-requires-clause-table
give_vs-requires-clause-table c = (c.hand_over_under_back.ensures (vs_slot ∷ []) c.requires.locks).ended.added.goes.table ∙ c.requires.table.0

pub give_vs-requires-clause-whole : goal.give_vs-requires-clause-whole
give_vs-requires-clause-whole c = (c.hand_over_under_back.ensures (vs_slot ∷ []) c.requires.locks).ended.whole

pub give_vs-requires-clause-inside : goal.give_vs-requires-clause-inside
give_vs-requires-clause-inside c =
    under_vs c.args.c.now c.hand_over_under_back.new.c c.hand_over_under_back.new.c c.args.vs c.args.addr c.args.n c.args.zero c.requires.one.3.inside c.requires.locks c.requires.vs (c.hand_over_under_back.ensures (vs_slot ∷ []) c.requires.locks)

pub give_vs-requires-clause-lock : goal.give_vs-requires-clause-lock
give_vs-requires-clause-lock c = ([], (c.hand_over_under_back.ensures (vs_slot ∷ []) c.requires.locks).ended.out_is, refl)

pub give_vs-requires-clause-tells : goal.give_vs-requires-clause-tells
give_vs-requires-clause-tells c s q =
    let k = keeps_vs c.args.c.now c.hand_over_under_back.new.c c.hand_over_under_back.new.c c.args.vs c.args.addr c.args.n c.args.zero c.requires.one.3.inside c.requires.locks c.requires.vs (c.hand_over_under_back.ensures (vs_slot ∷ []) c.requires.locks) in
    (k.used s q, k.tells s q)

pub returns : goal.returns
returns c =
    back_first c.args.c.now c.hand_over_under_back.new.c c.give_vs.new.c c.args.vs c.args.addr c.args.n c.args.zero c.requires.one.3.inside c.requires.locks c.requires.vs (c.hand_over_under_back.ensures (vs_slot ∷ []) c.requires.locks) c.give_vs.ensures
