use Rattle.std.proofs.Common.{[], ◌∷◌, refl}
use Rattle.heap_model.specs.declared.What.TheVariants as whats
use Rattle.claim_rule.specs.Places.{large_slot}
use Rattle.move_calls.proofs.Carrying.{heap_carried, heap_met}
use Rattle.move_calls.proofs.front.move_to_large.Goals as goal

pub large_too-requires-clause-carrying : goal.large_too-requires-clause-carrying
large_too-requires-clause-carrying c = let z = c.requires.carrying in (z.0, c.args.tag, c.args.addr, c.args.size, c.args.n, c.args.flags, [], z.1, refl)

pub move_far-requires-clause-table : goal.move_far-requires-clause-table
move_far-requires-clause-table c =
    let z = c.requires.carrying in let k = c.args.c.now in let m = c.large_too.new.c in
    let v = c.in-Ok.ensures.ok z.0 c.args.tag c.args.addr c.args.size c.args.n c.args.flags [] z.1 in heap_carried z.0 k m c.args.tag c.args.addr c.args.size c.args.n c.args.flags [] (large_slot ∷ []) z.1 v c.args.heap.now.table c.args.heap.now.opening c.requires.table

pub move_far-requires-clause-carrying : goal.move_far-requires-clause-carrying
move_far-requires-clause-carrying c = let z = c.requires.carrying in (z.0, c.in-Ok.ensures.ok z.0 c.args.tag c.args.addr c.args.size c.args.n c.args.flags [] z.1, c.in-Ok.ensures.tells)

pub returns-in-Ok : goal.returns-in-Ok
returns-in-Ok c = λ first w. c.move_far.ensures first (c.in-Ok.ensures.ok first c.args.tag c.args.addr c.args.size c.args.n c.args.flags [] w)

pub end_met-requires-clause-table : goal.end_met-requires-clause-table
end_met-requires-clause-table c =
    let z = c.requires.carrying in let k = c.args.c.now in let m = c.large_too.new.c in
    let x = c.in-Err.ensures.busy z.0 c.args.tag c.args.addr c.args.size c.args.n c.args.flags [] z.1 in heap_met z.0 k m c.args.tag c.args.addr c.args.size c.args.n c.args.flags [] whats.Large c.in-Err.busy z.1 x c.args.heap.now.table c.args.heap.now.opening c.requires.table

pub end_met-requires-clause-met : goal.end_met-requires-clause-met
end_met-requires-clause-met c = let z = c.requires.carrying in (z.0, c.args.tag, c.args.n, c.args.flags, whats.Large, c.in-Err.ensures.busy z.0 c.args.tag c.args.addr c.args.size c.args.n c.args.flags [] z.1, c.requires.size)

pub returns-in-Err : goal.returns-in-Err
returns-in-Err c = λ first w. c.end_met.ensures first c.args.tag c.args.n c.args.flags whats.Large (c.in-Err.ensures.busy first c.args.tag c.args.addr c.args.size c.args.n c.args.flags [] w) (c.requires.size)
