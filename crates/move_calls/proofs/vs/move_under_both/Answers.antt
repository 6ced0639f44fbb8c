use Rattle.std.proofs.Common.{[], ◌∷◌, refl, ap, ◌∙◌, arith, inr}
use Rattle.heap_model.specs.declared.Act.TheVariants as acts
use Rattle.heap_model.specs.declared.What.TheVariants as whats
use Rattle.claim_rule.specs.Places.{vs_slot, back_slot}
use Rattle.heap_gate.specs.Token.{is_out}
use Rattle.move_calls.specs.declared.held.Held.TheVariants as helds
use Rattle.move_calls.proofs.Arms.{looks_taken, same_heap, missed}
use Rattle.move_calls.proofs.Behind.{moves_behind}
use Rattle.move_calls.proofs.vs.move_under_both.Goals as goal

pub also_large-requires-clause-gathering : goal.also_large-requires-clause-gathering
also_large-requires-clause-gathering c = let z = c.requires.gathering in (c.args.addr, c.args.size, c.args.n, c.args.flags, z.0, back_slot ∷ vs_slot ∷ [], z.1, refl)

pub move_low-requires-clause-size : goal.move_low-requires-clause-size
move_low-requires-clause-size c = omega (arith, c.if-n-le-MOST_PAGED.true)

pub move_far-requires-clause-table : goal.move_far-requires-clause-table
move_far-requires-clause-table c =
    let z = c.requires.gathering in let k = c.also_large.new.c in
    let x = c.in-Ok.ensures.ok c.args.addr c.args.size c.args.n c.args.flags z.0 (back_slot ∷ vs_slot ∷ []) z.1 in
    same_heap c.args.c.now k (acts.TakeLock whats.Large ∷ []) c.args.heap.now.table c.args.heap.now.opening x.added c.requires.table

pub move_far-requires-clause-size : goal.move_far-requires-clause-size
move_far-requires-clause-size c = omega (arith, c.if-n-le-MOST_PAGED.false)

pub move_far-requires-clause-gathering : goal.move_far-requires-clause-gathering
move_far-requires-clause-gathering c =
    let z = c.requires.gathering in let k = c.also_large.new.c in
    let x = c.in-Ok.ensures.ok c.args.addr c.args.size c.args.n c.args.flags z.0 (back_slot ∷ vs_slot ∷ []) z.1 in
    (z.0, x.gathering, z.2, (x.still.vs (ap (is_out whats.Vs) z.1.serving.out_is) (ap (is_out whats.Vs) x.gathering.serving.out_is) c.args.vs z.3), (x.still.back (ap (is_out whats.Back) z.1.serving.out_is) (ap (is_out whats.Back) x.gathering.serving.out_is) c.args.back z.4), c.in-Ok.ensures.tells)

pub returns-in-Ok : goal.returns-in-Ok
returns-in-Ok c =
    let z = c.requires.gathering in let k = c.also_large.new.c in
    let x = c.in-Ok.ensures.ok c.args.addr c.args.size c.args.n c.args.flags z.0 (back_slot ∷ vs_slot ∷ []) z.1 in
    moves_behind c.args.c.now k c.move_far.new.c (looks_taken c.args.c.now k whats.Large x.added) z.1.serving.prepared x.gathering.serving.prepared c.args.addr c.args.n c.args.flags c.move_far.result c.move_far.ensures

pub end_busy-requires-clause-table : goal.end_busy-requires-clause-table
end_busy-requires-clause-table c = c.in-Err.ensures.busy.ended.added.goes.table ∙ c.requires.table.0

pub end_busy-requires-clause-behind : goal.end_busy-requires-clause-behind
end_busy-requires-clause-behind c =
    let z = c.requires.gathering in let k = c.also_large.new.c in let m = c.in-Err.ensures.busy in
    (c.args.c.now, c.args.addr, c.args.n, c.args.flags, missed c.args.c.now k c.args.addr c.args.size c.args.n c.args.flags z.0 (helds.Low c.args.vs c.args.back) whats.Large c.in-Err.busy z.1 m (inr (omega (arith, c.if-n-le-MOST_PAGED.false))) ((m.still.vs (ap (is_out whats.Vs) z.1.serving.out_is) (ap (is_out whats.Vs) (m.ended.out_is ∙ z.1.serving.out_is)) c.args.vs z.3), (m.still.back (ap (is_out whats.Back) z.1.serving.out_is) (ap (is_out whats.Back) (m.ended.out_is ∙ z.1.serving.out_is)) c.args.back z.4)))

pub returns-in-Err : goal.returns-in-Err
returns-in-Err c =
    let z = c.requires.gathering in let k = c.also_large.new.c in let m = c.in-Err.ensures.busy in
    c.end_busy.ensures c.args.c.now c.args.addr c.args.n c.args.flags (missed c.args.c.now k c.args.addr c.args.size c.args.n c.args.flags z.0 (helds.Low c.args.vs c.args.back) whats.Large c.in-Err.busy z.1 m (inr (omega (arith, c.if-n-le-MOST_PAGED.false))) ((m.still.vs (ap (is_out whats.Vs) z.1.serving.out_is) (ap (is_out whats.Vs) (m.ended.out_is ∙ z.1.serving.out_is)) c.args.vs z.3), (m.still.back (ap (is_out whats.Back) z.1.serving.out_is) (ap (is_out whats.Back) (m.ended.out_is ∙ z.1.serving.out_is)) c.args.back z.4)))
