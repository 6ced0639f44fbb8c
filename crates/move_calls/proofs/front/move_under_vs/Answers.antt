use Rattle.std.proofs.Common.{[], ◌∷◌, refl, ap}
use Rattle.heap_model.specs.declared.What.TheVariants as whats
use Rattle.claim_rule.specs.Places.{vs_slot}
use Rattle.heap_gate.specs.Token.{is_out}
use Rattle.move_calls.proofs.Carrying.{heap_carried, heap_met}
use Rattle.move_calls.proofs.front.move_under_vs.Goals as goal

pub back_too-requires-clause-carrying : goal.back_too-requires-clause-carrying
back_too-requires-clause-carrying c = let z = c.requires.carrying in (z.0, c.args.tag, c.args.addr, c.args.size, c.args.n, c.args.flags, vs_slot ∷ [], z.1, refl)

pub move_low-requires-clause-table : goal.move_low-requires-clause-table
move_low-requires-clause-table c =
    let z = c.requires.carrying in let k = c.args.c.now in let m = c.back_too.new.c in let out = vs_slot ∷ [] in
    let v = c.in-Ok.ensures.ok z.0 c.args.tag c.args.addr c.args.size c.args.n c.args.flags out z.1 in heap_carried z.0 k m c.args.tag c.args.addr c.args.size c.args.n c.args.flags out (Rattle.claim_rule.specs.Places.back_slot ∷ out) z.1 v c.args.heap.now.table c.args.heap.now.opening c.requires.table

pub move_low-requires-clause-carrying : goal.move_low-requires-clause-carrying
move_low-requires-clause-carrying c =
    let z = c.requires.carrying in let out = vs_slot ∷ [] in
    let v = c.in-Ok.ensures.ok z.0 c.args.tag c.args.addr c.args.size c.args.n c.args.flags out z.1 in
    (z.0, v, c.in-Ok.ensures.still.vs (ap (is_out whats.Vs) z.1.bringing.holds.out_is) (ap (is_out whats.Vs) v.bringing.holds.out_is) c.args.vs z.2, c.in-Ok.ensures.tells)

pub returns-in-Ok : goal.returns-in-Ok
returns-in-Ok c = λ first w. c.move_low.ensures first (c.in-Ok.ensures.ok first c.args.tag c.args.addr c.args.size c.args.n c.args.flags (vs_slot ∷ []) w)

pub end_met_under-requires-clause-table : goal.end_met_under-requires-clause-table
end_met_under-requires-clause-table c =
    let z = c.requires.carrying in let k = c.args.c.now in let m = c.back_too.new.c in let out = vs_slot ∷ [] in
    let x = c.in-Err.ensures.busy z.0 c.args.tag c.args.addr c.args.size c.args.n c.args.flags out z.1 in heap_met z.0 k m c.args.tag c.args.addr c.args.size c.args.n c.args.flags out whats.Back c.in-Err.busy z.1 x c.args.heap.now.table c.args.heap.now.opening c.requires.table

pub end_met_under-requires-clause-met : goal.end_met_under-requires-clause-met
end_met_under-requires-clause-met c =
    let z = c.requires.carrying in let out = vs_slot ∷ [] in
    let x = c.in-Err.ensures.busy z.0 c.args.tag c.args.addr c.args.size c.args.n c.args.flags out z.1 in
    (z.0, c.args.tag, c.args.n, c.args.flags, whats.Back, x, c.requires.size, c.in-Err.ensures.still.vs (ap (is_out whats.Vs) z.1.bringing.holds.out_is) (ap (is_out whats.Vs) x.holds.out_is) c.args.vs z.2)

pub returns-in-Err : goal.returns-in-Err
returns-in-Err c = λ first w. c.end_met_under.ensures first c.args.tag c.args.n c.args.flags whats.Back (c.in-Err.ensures.busy first c.args.tag c.args.addr c.args.size c.args.n c.args.flags (vs_slot ∷ []) w) c.requires.size
