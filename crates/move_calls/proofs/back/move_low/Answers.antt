use Rattle.std.proofs.Common.{[], ◌∷◌, refl, ap, ◌∙◌}
use Rattle.heap_model.specs.declared.What.TheVariants as whats
use Rattle.claim_rule.specs.Places.{vs_slot, back_slot}
use Rattle.heap_gate.specs.Token.{is_out}
use Rattle.move_calls.proofs.Arms.{looks_nothing, same_heap}
use Rattle.move_calls.proofs.Behind.{moves_behind}
use Rattle.move_calls.proofs.Tried.{tried_table}
use Rattle.move_calls.proofs.back.move_low.Goals as goal

pub listen-requires-clause-gathering : goal.listen-requires-clause-gathering
listen-requires-clause-gathering c = let z = c.requires.gathering in (c.args.addr, c.args.size, c.args.n, c.args.flags, z.0, back_slot ∷ vs_slot ∷ [], z.1)

pub try_back-moved-requires-clause-table : goal.try_back-moved-requires-clause-table
try_back-moved-requires-clause-table c =
    let z = c.requires.gathering in let out = back_slot ∷ vs_slot ∷ [] in let k = c.listen.new.c in let flags = c.args.flags in
    let x = c.listen.ensures c.args.addr c.args.size c.args.n flags z.0 out z.1 c.requires.may in
    same_heap c.args.c.now k [] c.args.heap.now.table c.args.heap.now.opening x.added c.requires.table

pub try_back-moved-requires-clause-moving : goal.try_back-moved-requires-clause-moving
try_back-moved-requires-clause-moving c =
    let z = c.requires.gathering in let out = back_slot ∷ vs_slot ∷ [] in let k = c.listen.new.c in let flags = c.args.flags in
    let x = c.listen.ensures c.args.addr c.args.size c.args.n flags z.0 out z.1 c.requires.may in
    let tvs = x.still.vs (ap (is_out whats.Vs) z.1.serving.out_is) (ap (is_out whats.Vs) x.moving.serving.out_is) c.args.vs z.3 in
    let tback = x.still.back (ap (is_out whats.Back) z.1.serving.out_is) (ap (is_out whats.Back) x.moving.serving.out_is) c.args.back z.4 in
    (flags, z.0, out, refl, x.moving, z.2, refl, tvs, refl, tback)

pub end_move-requires-clause-table : goal.end_move-requires-clause-table
end_move-requires-clause-table c =
    let z = c.requires.gathering in let out = back_slot ∷ vs_slot ∷ [] in let k = c.listen.new.c in let flags = c.args.flags in
    let x = c.listen.ensures c.args.addr c.args.size c.args.n flags z.0 out z.1 c.requires.may in
    let tvs = x.still.vs (ap (is_out whats.Vs) z.1.serving.out_is) (ap (is_out whats.Vs) x.moving.serving.out_is) c.args.vs z.3 in
    let tback = x.still.back (ap (is_out whats.Back) z.1.serving.out_is) (ap (is_out whats.Back) x.moving.serving.out_is) c.args.back z.4 in
    let d = c.try_back-moved.new.c in let o = c.try_back-moved.result in
    let y = c.try_back-moved.ensures flags z.0 out refl x.moving z.2 refl tvs refl tback in
    tried_table k d c.args.addr c.args.size c.args.n flags z.0 o y.0 ∙ (x.added.goes.table ∙ c.requires.table.0)

pub end_move-requires-clause-behind : goal.end_move-requires-clause-behind
end_move-requires-clause-behind c =
    let z = c.requires.gathering in let out = back_slot ∷ vs_slot ∷ [] in let k = c.listen.new.c in let flags = c.args.flags in
    let x = c.listen.ensures c.args.addr c.args.size c.args.n flags z.0 out z.1 c.requires.may in
    let tvs = x.still.vs (ap (is_out whats.Vs) z.1.serving.out_is) (ap (is_out whats.Vs) x.moving.serving.out_is) c.args.vs z.3 in
    let tback = x.still.back (ap (is_out whats.Back) z.1.serving.out_is) (ap (is_out whats.Back) x.moving.serving.out_is) c.args.back z.4 in
    let d = c.try_back-moved.new.c in let o = c.try_back-moved.result in
    let y = c.try_back-moved.ensures flags z.0 out refl x.moving z.2 refl tvs refl tback in
    (k, c.args.addr, c.args.size, flags, z.0, record { moving = x.moving; tried = y.0; tells = (y.1, y.2) })

pub returns : goal.returns
returns c =
    let z = c.requires.gathering in let out = back_slot ∷ vs_slot ∷ [] in let k = c.listen.new.c in let flags = c.args.flags in
    let x = c.listen.ensures c.args.addr c.args.size c.args.n flags z.0 out z.1 c.requires.may in
    let tvs = x.still.vs (ap (is_out whats.Vs) z.1.serving.out_is) (ap (is_out whats.Vs) x.moving.serving.out_is) c.args.vs z.3 in
    let tback = x.still.back (ap (is_out whats.Back) z.1.serving.out_is) (ap (is_out whats.Back) x.moving.serving.out_is) c.args.back z.4 in
    let d = c.try_back-moved.new.c in let o = c.try_back-moved.result in
    let y = c.try_back-moved.ensures flags z.0 out refl x.moving z.2 refl tvs refl tback in
    moves_behind c.args.c.now k c.end_move.new.c (looks_nothing c.args.c.now k x.added) z.1.serving.prepared x.moving.serving.prepared c.args.addr c.args.n flags c.end_move.result
    (c.end_move.ensures k c.args.addr c.args.size flags z.0 (record { moving = x.moving; tried = y.0; tells = (y.1, y.2) }))
