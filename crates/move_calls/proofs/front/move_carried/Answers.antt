use Rattle.std.proofs.Common.{[], ◌∷◌, refl, arith}
use Rattle.heap_model.specs.declared.What.TheVariants as whats
use Rattle.claim_rule.specs.Places.{vs_slot}
use Rattle.move_calls.proofs.Carrying.{heap_carried, heap_met}
use Rattle.move_calls.proofs.front.move_carried.Goals as goal

pub vs_too-requires-clause-carrying : goal.vs_too-requires-clause-carrying
vs_too-requires-clause-carrying c = let z = c.requires.carrying in (z.0, c.args.tag, c.args.addr, c.args.size, c.args.n, c.args.flags, [], z.1, refl)

pub move_to_large-requires-clause-size : goal.move_to_large-requires-clause-size
move_to_large-requires-clause-size c = omega (arith, c.if-n-gt-MOST_PAGED.true)

pub move_under_vs-requires-clause-size : goal.move_under_vs-requires-clause-size
move_under_vs-requires-clause-size c = omega (arith, c.if-n-gt-MOST_PAGED.false)

pub move_under_vs-requires-clause-table : goal.move_under_vs-requires-clause-table
move_under_vs-requires-clause-table c =
    let z = c.requires.carrying in let k = c.args.c.now in let m = c.vs_too.new.c in
    let v = c.in-Ok.ensures.ok z.0 c.args.tag c.args.addr c.args.size c.args.n c.args.flags [] z.1 in heap_carried z.0 k m c.args.tag c.args.addr c.args.size c.args.n c.args.flags [] (vs_slot ∷ []) z.1 v c.args.heap.now.table c.args.heap.now.opening c.requires.table

pub move_under_vs-requires-clause-carrying : goal.move_under_vs-requires-clause-carrying
move_under_vs-requires-clause-carrying c = let z = c.requires.carrying in (z.0, c.in-Ok.ensures.ok z.0 c.args.tag c.args.addr c.args.size c.args.n c.args.flags [] z.1, c.in-Ok.ensures.tells)

pub returns-in-Ok : goal.returns-in-Ok
returns-in-Ok c = λ first w. c.move_under_vs.ensures first (c.in-Ok.ensures.ok first c.args.tag c.args.addr c.args.size c.args.n c.args.flags [] w)

pub end_met-requires-clause-table : goal.end_met-requires-clause-table
end_met-requires-clause-table c =
    let z = c.requires.carrying in let k = c.args.c.now in let m = c.vs_too.new.c in
    let x = c.in-Err.ensures.busy z.0 c.args.tag c.args.addr c.args.size c.args.n c.args.flags [] z.1 in heap_met z.0 k m c.args.tag c.args.addr c.args.size c.args.n c.args.flags [] whats.Vs c.in-Err.busy z.1 x c.args.heap.now.table c.args.heap.now.opening c.requires.table

pub end_met-requires-clause-met : goal.end_met-requires-clause-met
end_met-requires-clause-met c = let z = c.requires.carrying in (z.0, c.args.tag, c.args.n, c.args.flags, whats.Vs, c.in-Err.ensures.busy z.0 c.args.tag c.args.addr c.args.size c.args.n c.args.flags [] z.1, omega (arith, c.if-n-gt-MOST_PAGED.false))

pub returns-in-Err : goal.returns-in-Err
returns-in-Err c = λ first w. c.end_met.ensures first c.args.tag c.args.n c.args.flags whats.Vs (c.in-Err.ensures.busy first c.args.tag c.args.addr c.args.size c.args.n c.args.flags [] w) (omega (arith, c.if-n-gt-MOST_PAGED.false))
