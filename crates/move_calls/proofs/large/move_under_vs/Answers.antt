use Rattle.std.proofs.Common.{[], ◌∷◌, refl, ap, ◌∙◌, inr}
use Rattle.heap_model.specs.declared.Act.TheVariants as acts
use Rattle.heap_model.specs.declared.What.TheVariants as whats
use Rattle.claim_rule.specs.Places.{vs_slot, large_slot}
use Rattle.heap_gate.specs.Token.{is_out}
use Rattle.move_calls.specs.declared.held.Held.TheVariants as helds
use Rattle.move_calls.proofs.Arms.{looks_taken, same_heap, missed}
use Rattle.move_calls.proofs.Behind.{moves_behind}
use Rattle.move_calls.proofs.large.move_under_vs.Goals as goal

pub also_back-requires-clause-gathering : goal.also_back-requires-clause-gathering
also_back-requires-clause-gathering c = let z = c.requires.gathering in (c.args.addr, c.args.size, c.args.n, c.args.flags, z.0, vs_slot ∷ large_slot ∷ [], z.1, refl)

pub move_low-requires-clause-table : goal.move_low-requires-clause-table
move_low-requires-clause-table c =
    let z = c.requires.gathering in let k = c.also_back.new.c in
    let x = c.in-Ok.ensures.ok c.args.addr c.args.size c.args.n c.args.flags z.0 (vs_slot ∷ large_slot ∷ []) z.1 in
    same_heap c.args.c.now k (acts.TakeLock whats.Back ∷ []) c.args.heap.now.table c.args.heap.now.opening x.added c.requires.table

pub move_low-requires-clause-gathering : goal.move_low-requires-clause-gathering
move_low-requires-clause-gathering c =
    let z = c.requires.gathering in let k = c.also_back.new.c in
    let x = c.in-Ok.ensures.ok c.args.addr c.args.size c.args.n c.args.flags z.0 (vs_slot ∷ large_slot ∷ []) z.1 in
    (z.0, x.gathering, z.2, (x.still.vs (ap (is_out whats.Vs) z.1.serving.out_is) (ap (is_out whats.Vs) x.gathering.serving.out_is) c.args.vs z.3), c.in-Ok.ensures.tells, (x.still.large (ap (is_out whats.Large) z.1.serving.out_is) (ap (is_out whats.Large) x.gathering.serving.out_is) c.args.large z.4))

pub returns-in-Ok : goal.returns-in-Ok
returns-in-Ok c =
    let z = c.requires.gathering in let k = c.also_back.new.c in
    let x = c.in-Ok.ensures.ok c.args.addr c.args.size c.args.n c.args.flags z.0 (vs_slot ∷ large_slot ∷ []) z.1 in
    moves_behind c.args.c.now k c.move_low.new.c (looks_taken c.args.c.now k whats.Back x.added) z.1.serving.prepared x.gathering.serving.prepared c.args.addr c.args.n c.args.flags c.move_low.result c.move_low.ensures

pub end_busy-requires-clause-table : goal.end_busy-requires-clause-table
end_busy-requires-clause-table c = c.in-Err.ensures.busy.ended.added.goes.table ∙ c.requires.table.0

pub end_busy-requires-clause-behind : goal.end_busy-requires-clause-behind
end_busy-requires-clause-behind c =
    let z = c.requires.gathering in let k = c.also_back.new.c in let m = c.in-Err.ensures.busy in
    (c.args.c.now, c.args.addr, c.args.n, c.args.flags, missed c.args.c.now k c.args.addr c.args.size c.args.n c.args.flags z.0 (helds.LargeThenVs c.args.large c.args.vs) whats.Back c.in-Err.busy z.1 m (inr c.requires.size) ((m.still.vs (ap (is_out whats.Vs) z.1.serving.out_is) (ap (is_out whats.Vs) (m.ended.out_is ∙ z.1.serving.out_is)) c.args.vs z.3), (m.still.large (ap (is_out whats.Large) z.1.serving.out_is) (ap (is_out whats.Large) (m.ended.out_is ∙ z.1.serving.out_is)) c.args.large z.4)))

pub returns-in-Err : goal.returns-in-Err
returns-in-Err c =
    let z = c.requires.gathering in let k = c.also_back.new.c in let m = c.in-Err.ensures.busy in
    c.end_busy.ensures c.args.c.now c.args.addr c.args.n c.args.flags (missed c.args.c.now k c.args.addr c.args.size c.args.n c.args.flags z.0 (helds.LargeThenVs c.args.large c.args.vs) whats.Back c.in-Err.busy z.1 m (inr c.requires.size) ((m.still.vs (ap (is_out whats.Vs) z.1.serving.out_is) (ap (is_out whats.Vs) (m.ended.out_is ∙ z.1.serving.out_is)) c.args.vs z.3), (m.still.large (ap (is_out whats.Large) z.1.serving.out_is) (ap (is_out whats.Large) (m.ended.out_is ∙ z.1.serving.out_is)) c.args.large z.4)))
