use Rattle.std.proofs.Common.{[], ◌∷◌, ◌∙◌, refl}
use Rattle.claim_rule.specs.Places.{vs_slot}
use Rattle.small_calls.proofs.VsHeld.{back_free, keeps_then, out_then, under_then, given_places, given_leaves, spent_with}
use Rattle.small_calls.proofs.under_vs.serve_with_vs.Goals as goal

pub serve_by_hint-requires-clause-asking : goal.serve_by_hint-requires-clause-asking
serve_by_hint-requires-clause-asking c = (vs_slot ∷ [], c.requires.asks.asking)

pub serve_by_hint-requires-clause-free : goal.serve_by_hint-requires-clause-free
serve_by_hint-requires-clause-free c = back_free c.args.c.now c.args.vs c.args.n c.args.bucket c.args.zero c.requires.asks c.check.ensures.stands

pub give_vs-requires-clause-table : goal.give_vs-requires-clause-table
give_vs-requires-clause-table c = (c.in-Placed.ensures (vs_slot ∷ []) c.requires.asks.asking).goes.table ∙ c.requires.table.0

pub give_vs-requires-clause-whole : goal.give_vs-requires-clause-whole
give_vs-requires-clause-whole c = (c.in-Placed.ensures (vs_slot ∷ []) c.requires.asks.asking).rests.whole

pub give_vs-requires-clause-inside : goal.give_vs-requires-clause-inside
give_vs-requires-clause-inside c =
    under_then c.args.c.now c.args.vs c.args.n c.args.bucket c.args.zero c.requires.asks c.check.ensures.stands c.serve_by_hint.new.c c.in-Placed.addr (c.in-Placed.ensures (vs_slot ∷ []) c.requires.asks.asking)

pub give_vs-requires-clause-lock : goal.give_vs-requires-clause-lock
give_vs-requires-clause-lock c =
    ([], out_then c.args.c.now c.args.vs c.args.n c.args.bucket c.args.zero c.requires.asks c.check.ensures.stands c.serve_by_hint.new.c c.in-Placed.addr (c.in-Placed.ensures (vs_slot ∷ []) c.requires.asks.asking), refl)

pub give_vs-requires-clause-tells : goal.give_vs-requires-clause-tells
give_vs-requires-clause-tells c s q =
    let k = keeps_then c.args.c.now c.args.vs c.args.n c.args.bucket c.args.zero c.requires.asks c.check.ensures.stands c.serve_by_hint.new.c c.in-Placed.addr (c.in-Placed.ensures (vs_slot ∷ []) c.requires.asks.asking) in
    (k.used s q, k.tells s q)

pub returns-in-Placed-clause-serves : goal.returns-in-Placed-clause-serves
returns-in-Placed-clause-serves c =
    given_places c.args.c.now c.args.vs c.args.n c.args.bucket c.args.zero c.requires.asks c.check.ensures.stands c.serve_by_hint.new.c c.in-Placed.addr (c.in-Placed.ensures (vs_slot ∷ []) c.requires.asks.asking) c.give_vs.new.c c.give_vs.ensures

pub returns-in-Spent-clause-serves : goal.returns-in-Spent-clause-serves
returns-in-Spent-clause-serves c =
    spent_with c.args.c.now c.args.vs c.args.n c.args.bucket c.args.zero c.requires.asks c.check.ensures.stands c.serve_by_hint.new.c c.in-Spent.draw.value c.in-Spent.lost (c.in-Spent.ensures (vs_slot ∷ []) c.requires.asks.asking)

pub returns-in-Placed-clause-leaves : goal.returns-in-Placed-clause-leaves
returns-in-Placed-clause-leaves c =
    given_leaves c.args.c.now c.args.vs c.args.n c.args.bucket c.args.zero c.requires.asks c.check.ensures.stands c.serve_by_hint.new.c c.in-Placed.addr (c.in-Placed.ensures (vs_slot ∷ []) c.requires.asks.asking) c.give_vs.new.c c.give_vs.ensures
