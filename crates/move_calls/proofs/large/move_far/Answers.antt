use Rattle.std.proofs.Common.{[], ◌∷◌, refl, ap, ◌∙◌}
use Rattle.heap_model.specs.declared.What.TheVariants as whats
use Rattle.claim_rule.specs.Places.{large_slot}
use Rattle.heap_gate.specs.Token.{is_out}
use Rattle.move_parts.specs.Moved.{HasMovedLarge}
use Rattle.move_calls.proofs.Arms.{looks_nothing, same_heap}
use Rattle.move_calls.proofs.Behind.{moves_behind}
use Rattle.move_calls.proofs.Tried.{some_then, tried_large, tried_table}
use Rattle.move_calls.proofs.large.move_far.Goals as goal

pub listen-requires-clause-gathering : goal.listen-requires-clause-gathering
listen-requires-clause-gathering c = let z = c.requires.gathering in (c.args.addr, c.args.size, c.args.n, c.args.flags, z.0, large_slot ∷ [], z.1)

pub move_large-moved-requires-clause-table : goal.move_large-moved-requires-clause-table
move_large-moved-requires-clause-table c =
    let z = c.requires.gathering in let out = large_slot ∷ [] in let k = c.listen.new.c in let flags = c.args.flags in
    let x = c.listen.ensures c.args.addr c.args.size c.args.n flags z.0 out z.1 c.requires.may in
    same_heap c.args.c.now k [] c.args.heap.now.table c.args.heap.now.opening x.added c.requires.table

pub move_large-moved-requires-clause-moving : goal.move_large-moved-requires-clause-moving
move_large-moved-requires-clause-moving c =
    let z = c.requires.gathering in let out = large_slot ∷ [] in let k = c.listen.new.c in let flags = c.args.flags in
    let x = c.listen.ensures c.args.addr c.args.size c.args.n flags z.0 out z.1 c.requires.may in
    let tlarge = x.still.large (ap (is_out whats.Large) z.1.serving.out_is) (ap (is_out whats.Large) x.moving.serving.out_is) c.args.large z.3 in
    (flags, z.0, out, x.moving, z.2, refl, tlarge)

pub end_move-requires-clause-table : goal.end_move-requires-clause-table
end_move-requires-clause-table c =
    let z = c.requires.gathering in let out = large_slot ∷ [] in let k = c.listen.new.c in let flags = c.args.flags in
    let x = c.listen.ensures c.args.addr c.args.size c.args.n flags z.0 out z.1 c.requires.may in
    let tlarge = x.still.large (ap (is_out whats.Large) z.1.serving.out_is) (ap (is_out whats.Large) x.moving.serving.out_is) c.args.large z.3 in
    let d = c.move_large-moved.new.c in let o = c.move_large-moved.result in
    let y = tried_large k d c.args.addr c.args.size c.args.n flags z.0 c.args.large c.move_large-moved.new.large o (some_then o _ (λ b. HasMovedLarge k d c.args.addr c.args.size c.args.n flags z.0 b c.move_large-moved.new.large) (λ b h. h flags z.0 out refl x.moving z.2 refl tlarge) c.move_large-moved.ensures.moved) c.move_large-moved.ensures.none tlarge in
    tried_table k d c.args.addr c.args.size c.args.n flags z.0 o y.0 ∙ (x.added.goes.table ∙ c.requires.table.0)

pub end_move-requires-clause-behind : goal.end_move-requires-clause-behind
end_move-requires-clause-behind c =
    let z = c.requires.gathering in let out = large_slot ∷ [] in let k = c.listen.new.c in let flags = c.args.flags in
    let x = c.listen.ensures c.args.addr c.args.size c.args.n flags z.0 out z.1 c.requires.may in
    let tlarge = x.still.large (ap (is_out whats.Large) z.1.serving.out_is) (ap (is_out whats.Large) x.moving.serving.out_is) c.args.large z.3 in
    let d = c.move_large-moved.new.c in let o = c.move_large-moved.result in
    let y = tried_large k d c.args.addr c.args.size c.args.n flags z.0 c.args.large c.move_large-moved.new.large o (some_then o _ (λ b. HasMovedLarge k d c.args.addr c.args.size c.args.n flags z.0 b c.move_large-moved.new.large) (λ b h. h flags z.0 out refl x.moving z.2 refl tlarge) c.move_large-moved.ensures.moved) c.move_large-moved.ensures.none tlarge in
    (k, c.args.addr, c.args.size, flags, z.0, record { moving = x.moving; tried = y.0; tells = y.1 })

pub returns : goal.returns
returns c =
    let z = c.requires.gathering in let out = large_slot ∷ [] in let k = c.listen.new.c in let flags = c.args.flags in
    let x = c.listen.ensures c.args.addr c.args.size c.args.n flags z.0 out z.1 c.requires.may in
    let tlarge = x.still.large (ap (is_out whats.Large) z.1.serving.out_is) (ap (is_out whats.Large) x.moving.serving.out_is) c.args.large z.3 in
    let d = c.move_large-moved.new.c in let o = c.move_large-moved.result in
    let y = tried_large k d c.args.addr c.args.size c.args.n flags z.0 c.args.large c.move_large-moved.new.large o (some_then o _ (λ b. HasMovedLarge k d c.args.addr c.args.size c.args.n flags z.0 b c.move_large-moved.new.large) (λ b h. h flags z.0 out refl x.moving z.2 refl tlarge) c.move_large-moved.ensures.moved) c.move_large-moved.ensures.none tlarge in
    moves_behind c.args.c.now k c.end_move.new.c (looks_nothing c.args.c.now k x.added) z.1.serving.prepared x.moving.serving.prepared c.args.addr c.args.n flags c.end_move.result
    (c.end_move.ensures k c.args.addr c.args.size flags z.0 (record { moving = x.moving; tried = y.0; tells = y.1 }))
