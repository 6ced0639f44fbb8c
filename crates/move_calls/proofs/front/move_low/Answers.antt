use Rattle.std.proofs.Common.{[], ◌∷◌, ap, ◌∙◌}
use Rattle.heap_model.specs.declared.What.TheVariants as whats
use Rattle.claim_rule.specs.Places.{vs_slot, back_slot}
use Rattle.heap_gate.specs.Token.{is_out}
use Rattle.move_calls.proofs.Brought.{heap_brought}
use Rattle.move_calls.proofs.Carrying.{heap_carried}
use Rattle.move_calls.proofs.front.move_low.Goals as goal

pub listen_too-requires-clause-carrying : goal.listen_too-requires-clause-carrying
listen_too-requires-clause-carrying c = let z = c.requires.carrying in (z.0, c.args.tag, c.args.addr, c.args.size, c.args.n, c.args.flags, back_slot ∷ vs_slot ∷ [], z.1)

pub bring_low-brought-requires-clause-table : goal.bring_low-brought-requires-clause-table
bring_low-brought-requires-clause-table c =
    let z = c.requires.carrying in let out = back_slot ∷ vs_slot ∷ [] in let k = c.args.c.now in let m = c.listen_too.new.c in
    let v = c.listen_too.ensures.carrying z.0 c.args.tag c.args.addr c.args.size c.args.n c.args.flags out z.1 in let still = c.listen_too.ensures.still in
    let tvs = still.vs (ap (is_out whats.Vs) z.1.bringing.holds.out_is) (ap (is_out whats.Vs) v.bringing.holds.out_is) c.args.vs z.2 in
    let tback = still.back (ap (is_out whats.Back) z.1.bringing.holds.out_is) (ap (is_out whats.Back) v.bringing.holds.out_is) c.args.back z.3 in
    heap_carried z.0 k m c.args.tag c.args.addr c.args.size c.args.n c.args.flags out out z.1 v c.args.heap.now.table c.args.heap.now.opening c.requires.table

pub bring_low-brought-requires-clause-carrying : goal.bring_low-brought-requires-clause-carrying
bring_low-brought-requires-clause-carrying c =
    let z = c.requires.carrying in let out = back_slot ∷ vs_slot ∷ [] in let k = c.args.c.now in let m = c.listen_too.new.c in
    let v = c.listen_too.ensures.carrying z.0 c.args.tag c.args.addr c.args.size c.args.n c.args.flags out z.1 in let still = c.listen_too.ensures.still in
    let tvs = still.vs (ap (is_out whats.Vs) z.1.bringing.holds.out_is) (ap (is_out whats.Vs) v.bringing.holds.out_is) c.args.vs z.2 in
    let tback = still.back (ap (is_out whats.Back) z.1.bringing.holds.out_is) (ap (is_out whats.Back) v.bringing.holds.out_is) c.args.back z.3 in
    (z.0, v, tvs, tback)

pub end_brought-requires-clause-table : goal.end_brought-requires-clause-table
end_brought-requires-clause-table c =
    let z = c.requires.carrying in let out = back_slot ∷ vs_slot ∷ [] in let k = c.args.c.now in let m = c.listen_too.new.c in
    let v = c.listen_too.ensures.carrying z.0 c.args.tag c.args.addr c.args.size c.args.n c.args.flags out z.1 in let still = c.listen_too.ensures.still in
    let tvs = still.vs (ap (is_out whats.Vs) z.1.bringing.holds.out_is) (ap (is_out whats.Vs) v.bringing.holds.out_is) c.args.vs z.2 in
    let tback = still.back (ap (is_out whats.Back) z.1.bringing.holds.out_is) (ap (is_out whats.Back) v.bringing.holds.out_is) c.args.back z.3 in
    let x = c.bring_low-brought.ensures z.0 v tvs tback in heap_brought z.0 m c.bring_low-brought.new.c c.args.tag c.args.addr c.args.size c.args.n c.args.flags out c.bring_low-brought.result v x.0 ∙ (heap_carried z.0 k m c.args.tag c.args.addr c.args.size c.args.n c.args.flags out out z.1 v c.args.heap.now.table c.args.heap.now.opening c.requires.table).0

pub end_brought-requires-clause-brought : goal.end_brought-requires-clause-brought
end_brought-requires-clause-brought c =
    let z = c.requires.carrying in let out = back_slot ∷ vs_slot ∷ [] in let k = c.args.c.now in let m = c.listen_too.new.c in
    let v = c.listen_too.ensures.carrying z.0 c.args.tag c.args.addr c.args.size c.args.n c.args.flags out z.1 in let still = c.listen_too.ensures.still in
    let tvs = still.vs (ap (is_out whats.Vs) z.1.bringing.holds.out_is) (ap (is_out whats.Vs) v.bringing.holds.out_is) c.args.vs z.2 in
    let tback = still.back (ap (is_out whats.Back) z.1.bringing.holds.out_is) (ap (is_out whats.Back) v.bringing.holds.out_is) c.args.back z.3 in
    let x = c.bring_low-brought.ensures z.0 v tvs tback in (z.0, c.args.addr, c.args.n, c.args.flags, x.0, (x.1, x.2))

pub returns : goal.returns
returns c = λ first w.
    let z = c.requires.carrying in let out = back_slot ∷ vs_slot ∷ [] in let k = c.args.c.now in
    let v = c.listen_too.ensures.carrying first c.args.tag c.args.addr c.args.size c.args.n c.args.flags out w in let still = c.listen_too.ensures.still in
    let tvs = still.vs (ap (is_out whats.Vs) w.bringing.holds.out_is) (ap (is_out whats.Vs) v.bringing.holds.out_is) c.args.vs z.2 in
    let tback = still.back (ap (is_out whats.Back) w.bringing.holds.out_is) (ap (is_out whats.Back) v.bringing.holds.out_is) c.args.back z.3 in
    c.end_brought.ensures first c.args.addr c.args.n c.args.flags (c.bring_low-brought.ensures first v tvs tback).0
