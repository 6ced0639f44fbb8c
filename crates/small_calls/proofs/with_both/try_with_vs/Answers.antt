use Rattle.std.proofs.Common.{[], ◌∷◌, ◌∙◌, refl}
use Rattle.heap_model.specs.declared.Call.TheVariants as calls
use Rattle.claim_rule.specs.Places.{vs_slot}
use Rattle.small_calls.specs.declared.spent.BehindSpent.TheVariants as behind
use Rattle.small_calls.proofs.BehindVs.{has_spent, back_free, vs_held, out_m, gate_m, keeps_m, busy_with, gate_p, keeps_p, placed_p, goes_busy, goes_placed}
use Rattle.small_calls.proofs.Late.{late_under}
use Rattle.small_calls.proofs.with_both.try_with_vs.Goals as goal

pub go_under_back-requires-clause-spent : goal.go_under_back-requires-clause-spent
go_under_back-requires-clause-spent c =
    let x = c.requires.spent in (vs_slot ∷ [], has_spent x.0 c.args.c.now c.args.vs c.args.n c.args.course.now.bucket c.args.course.now.draw.value c.args.lost c.args.zero x.1)

pub go_under_back-requires-clause-free : goal.go_under_back-requires-clause-free
go_under_back-requires-clause-free c =
    let x = c.requires.spent in back_free x.0 c.args.c.now c.args.vs c.args.n c.args.course.now.bucket c.args.course.now.draw.value c.args.lost c.args.zero x.1

pub give_vs-requires-clause-table : goal.give_vs-requires-clause-table
give_vs-requires-clause-table c =
    let x = c.requires.spent in (c.in-Busy.ensures (vs_slot ∷ []) (has_spent x.0 c.args.c.now c.args.vs c.args.n c.args.course.now.bucket c.args.course.now.draw.value c.args.lost c.args.zero x.1)).runs.does.table ∙ c.requires.table.0

pub give_vs-requires-clause-whole : goal.give_vs-requires-clause-whole
give_vs-requires-clause-whole c =
    let x = c.requires.spent in (c.in-Busy.ensures (vs_slot ∷ []) (has_spent x.0 c.args.c.now c.args.vs c.args.n c.args.course.now.bucket c.args.course.now.draw.value c.args.lost c.args.zero x.1)).stands.whole

pub give_vs-requires-clause-inside : goal.give_vs-requires-clause-inside
give_vs-requires-clause-inside c =
    let x = c.requires.spent in gate_m x.0 c.args.c.now c.args.vs c.args.n c.args.course.now.bucket c.args.course.now.draw.value c.args.lost c.args.zero x.1 c.check.ensures.stands c.go_under_back.new.c c.in-Busy.busy (c.in-Busy.ensures (vs_slot ∷ []) (has_spent x.0 c.args.c.now c.args.vs c.args.n c.args.course.now.bucket c.args.course.now.draw.value c.args.lost c.args.zero x.1))

pub give_vs-requires-clause-lock : goal.give_vs-requires-clause-lock
give_vs-requires-clause-lock c =
    let x = c.requires.spent in ([], out_m x.0 c.args.c.now c.args.vs c.args.n c.args.course.now.bucket c.args.course.now.draw.value c.args.lost c.args.zero x.1 c.check.ensures.stands c.go_under_back.new.c c.in-Busy.busy (c.in-Busy.ensures (vs_slot ∷ []) (has_spent x.0 c.args.c.now c.args.vs c.args.n c.args.course.now.bucket c.args.course.now.draw.value c.args.lost c.args.zero x.1)), refl)

pub give_vs-requires-clause-tells : goal.give_vs-requires-clause-tells
give_vs-requires-clause-tells c s q =
    let x = c.requires.spent in let k = keeps_m x.0 c.args.c.now c.args.vs c.args.n c.args.course.now.bucket c.args.course.now.draw.value c.args.lost c.args.zero x.1 c.check.ensures.stands c.go_under_back.new.c c.in-Busy.busy (c.in-Busy.ensures (vs_slot ∷ []) (has_spent x.0 c.args.c.now c.args.vs c.args.n c.args.course.now.bucket c.args.course.now.draw.value c.args.lost c.args.zero x.1)) in (k.used s q, k.tells s q)

pub returns-in-Busy-clause-tries : goal.returns-in-Busy-clause-tries
returns-in-Busy-clause-tries c first x =
    busy_with first c.args.c.now c.args.vs c.args.n c.args.course.now.bucket c.args.course.now.draw.value c.args.lost c.args.zero x c.check.ensures.stands c.go_under_back.new.c c.in-Busy.busy (c.in-Busy.ensures (vs_slot ∷ []) (has_spent first c.args.c.now c.args.vs c.args.n c.args.course.now.bucket c.args.course.now.draw.value c.args.lost c.args.zero x)) c.give_vs.new.c c.give_vs.ensures

pub give_vs-requires-in-Placed-clause-table : goal.give_vs-requires-in-Placed-clause-table
give_vs-requires-in-Placed-clause-table c =
    let x = c.requires.spent in (c.in-Placed.ensures (vs_slot ∷ []) (has_spent x.0 c.args.c.now c.args.vs c.args.n c.args.course.now.bucket c.args.course.now.draw.value c.args.lost c.args.zero x.1)).goes.table ∙ c.requires.table.0

pub give_vs-requires-in-Placed-clause-whole : goal.give_vs-requires-in-Placed-clause-whole
give_vs-requires-in-Placed-clause-whole c =
    let x = c.requires.spent in (c.in-Placed.ensures (vs_slot ∷ []) (has_spent x.0 c.args.c.now c.args.vs c.args.n c.args.course.now.bucket c.args.course.now.draw.value c.args.lost c.args.zero x.1)).rests.whole

pub give_vs-requires-in-Placed-clause-inside : goal.give_vs-requires-in-Placed-clause-inside
give_vs-requires-in-Placed-clause-inside c =
    let x = c.requires.spent in gate_p x.0 c.args.c.now c.args.vs c.args.n c.args.course.now.bucket c.args.course.now.draw.value c.args.lost c.args.zero x.1 c.go_under_back.new.c c.in-Placed.addr (c.in-Placed.ensures (vs_slot ∷ []) (has_spent x.0 c.args.c.now c.args.vs c.args.n c.args.course.now.bucket c.args.course.now.draw.value c.args.lost c.args.zero x.1))

pub give_vs-requires-in-Placed-clause-lock : goal.give_vs-requires-in-Placed-clause-lock
give_vs-requires-in-Placed-clause-lock c =
    let x = c.requires.spent in ([], (c.in-Placed.ensures (vs_slot ∷ []) (has_spent x.0 c.args.c.now c.args.vs c.args.n c.args.course.now.bucket c.args.course.now.draw.value c.args.lost c.args.zero x.1)).rests.out_is, refl)

pub give_vs-requires-in-Placed-clause-tells : goal.give_vs-requires-in-Placed-clause-tells
give_vs-requires-in-Placed-clause-tells c s q =
    let x = c.requires.spent in let k = keeps_p x.0 c.args.c.now c.args.vs c.args.n c.args.course.now.bucket c.args.course.now.draw.value c.args.lost c.args.zero x.1 c.go_under_back.new.c c.in-Placed.addr (c.in-Placed.ensures (vs_slot ∷ []) (has_spent x.0 c.args.c.now c.args.vs c.args.n c.args.course.now.bucket c.args.course.now.draw.value c.args.lost c.args.zero x.1)) in (k.used s q, k.tells s q)

pub returns-in-Placed-clause-tries : goal.returns-in-Placed-clause-tries
returns-in-Placed-clause-tries c first x =
    placed_p first c.args.c.now c.args.vs c.args.n c.args.course.now.bucket c.args.course.now.draw.value c.args.lost c.args.zero x c.go_under_back.new.c c.in-Placed.addr (c.in-Placed.ensures (vs_slot ∷ []) (has_spent first c.args.c.now c.args.vs c.args.n c.args.course.now.bucket c.args.course.now.draw.value c.args.lost c.args.zero x)) c.give_vs-in-Placed.new.c c.give_vs-in-Placed.ensures

pub returns-in-NoRoom-clause-tries : goal.returns-in-NoRoom-clause-tries
returns-in-NoRoom-clause-tries c first x =
    let w = c.in-NoRoom.ensures (vs_slot ∷ []) (has_spent first c.args.c.now c.args.vs c.args.n c.args.course.now.bucket c.args.course.now.draw.value c.args.lost c.args.zero x) in record { none = w; keeps = w.keeps c.args.vs (vs_held first c.args.c.now c.args.vs c.args.n c.args.course.now.bucket c.args.course.now.draw.value c.args.lost c.args.zero x) x.spent.keeps }

pub returns-in-Busy-clause-goes : goal.returns-in-Busy-clause-goes
returns-in-Busy-clause-goes c =
    let x = c.requires.spent in
    goes_busy x.0 c.args.c.now c.args.vs c.args.n c.args.course.now.bucket c.args.course.now.draw.value c.args.lost c.args.zero x.1 c.check.ensures.stands c.go_under_back.new.c c.in-Busy.busy (c.in-Busy.ensures (vs_slot ∷ []) (has_spent x.0 c.args.c.now c.args.vs c.args.n c.args.course.now.bucket c.args.course.now.draw.value c.args.lost c.args.zero x.1)) c.give_vs.new.c c.give_vs.ensures

pub returns-in-Placed-clause-goes : goal.returns-in-Placed-clause-goes
returns-in-Placed-clause-goes c =
    let x = c.requires.spent in
    goes_placed x.0 c.args.c.now c.args.vs c.args.n c.args.course.now.bucket c.args.course.now.draw.value c.args.lost c.args.zero x.1 c.go_under_back.new.c c.in-Placed.addr (c.in-Placed.ensures (vs_slot ∷ []) (has_spent x.0 c.args.c.now c.args.vs c.args.n c.args.course.now.bucket c.args.course.now.draw.value c.args.lost c.args.zero x.1)) c.give_vs-in-Placed.new.c c.give_vs-in-Placed.ensures

pub returns-in-NoRoom-clause-goes : goal.returns-in-NoRoom-clause-goes
returns-in-NoRoom-clause-goes c =
    let x = c.requires.spent in
    let h = has_spent x.0 c.args.c.now c.args.vs c.args.n c.args.course.now.bucket c.args.course.now.draw.value c.args.lost c.args.zero x.1 in
    let g = late_under c.args.c.now c.go_under_back.new.c c.args.course.now c.args.lost (calls.Alloc c.args.n h.asking.flags) c.args.n c.args.zero (vs_slot ∷ []) (behind.NoRoom c.in-NoRoom.back c.in-NoRoom.lost) (c.in-NoRoom.ensures (vs_slot ∷ []) h) in
    (g.rest, g.goes)
