use Rattle.std.proofs.Common.{[], ◌∷◌, ap, ◌∙◌}
use Rattle.heap_model.specs.declared.What.TheVariants as whats
use Rattle.claim_rule.specs.Places.{large_slot}
use Rattle.heap_gate.specs.Token.{is_out}
use Rattle.move_calls.proofs.Brought.{heap_brought}
use Rattle.move_calls.proofs.Carrying.{heap_carried}
use Rattle.move_calls.proofs.front.move_far.Goals as goal

pub listen_too-requires-clause-carrying : goal.listen_too-requires-clause-carrying
listen_too-requires-clause-carrying c = let z = c.requires.carrying in (z.0, c.args.tag, c.args.addr, c.args.size, c.args.n, c.args.flags, large_slot ∷ [], z.1)

pub bring_far-brought-requires-clause-table : goal.bring_far-brought-requires-clause-table
bring_far-brought-requires-clause-table c =
    let z = c.requires.carrying in let out = large_slot ∷ [] in let k = c.args.c.now in let m = c.listen_too.new.c in
    let v = c.listen_too.ensures.carrying z.0 c.args.tag c.args.addr c.args.size c.args.n c.args.flags out z.1 in
    let tlarge = c.listen_too.ensures.still.large (ap (is_out whats.Large) z.1.bringing.holds.out_is) (ap (is_out whats.Large) v.bringing.holds.out_is) c.args.large z.2 in
    heap_carried z.0 k m c.args.tag c.args.addr c.args.size c.args.n c.args.flags out out z.1 v c.args.heap.now.table c.args.heap.now.opening c.requires.table

pub bring_far-brought-requires-clause-bringing : goal.bring_far-brought-requires-clause-bringing
bring_far-brought-requires-clause-bringing c =
    let z = c.requires.carrying in let out = large_slot ∷ [] in let k = c.args.c.now in let m = c.listen_too.new.c in
    let v = c.listen_too.ensures.carrying z.0 c.args.tag c.args.addr c.args.size c.args.n c.args.flags out z.1 in
    let tlarge = c.listen_too.ensures.still.large (ap (is_out whats.Large) z.1.bringing.holds.out_is) (ap (is_out whats.Large) v.bringing.holds.out_is) c.args.large z.2 in
    (z.0, v.bringing, tlarge)

pub end_brought-requires-clause-table : goal.end_brought-requires-clause-table
end_brought-requires-clause-table c =
    let z = c.requires.carrying in let out = large_slot ∷ [] in let k = c.args.c.now in let m = c.listen_too.new.c in
    let v = c.listen_too.ensures.carrying z.0 c.args.tag c.args.addr c.args.size c.args.n c.args.flags out z.1 in
    let tlarge = c.listen_too.ensures.still.large (ap (is_out whats.Large) z.1.bringing.holds.out_is) (ap (is_out whats.Large) v.bringing.holds.out_is) c.args.large z.2 in
    let x = c.bring_far-brought.ensures z.0 v.bringing tlarge in heap_brought z.0 m c.bring_far-brought.new.c c.args.tag c.args.addr c.args.size c.args.n c.args.flags out c.bring_far-brought.result v x.0 ∙ (heap_carried z.0 k m c.args.tag c.args.addr c.args.size c.args.n c.args.flags out out z.1 v c.args.heap.now.table c.args.heap.now.opening c.requires.table).0

pub end_brought-requires-clause-brought : goal.end_brought-requires-clause-brought
end_brought-requires-clause-brought c =
    let z = c.requires.carrying in let out = large_slot ∷ [] in let k = c.args.c.now in let m = c.listen_too.new.c in
    let v = c.listen_too.ensures.carrying z.0 c.args.tag c.args.addr c.args.size c.args.n c.args.flags out z.1 in
    let tlarge = c.listen_too.ensures.still.large (ap (is_out whats.Large) z.1.bringing.holds.out_is) (ap (is_out whats.Large) v.bringing.holds.out_is) c.args.large z.2 in
    let x = c.bring_far-brought.ensures z.0 v.bringing tlarge in (z.0, c.args.addr, c.args.n, c.args.flags, x.0, x.1)

pub returns : goal.returns
returns c = λ first w.
    let z = c.requires.carrying in let out = large_slot ∷ [] in
    let v = c.listen_too.ensures.carrying first c.args.tag c.args.addr c.args.size c.args.n c.args.flags out w in
    let tlarge = c.listen_too.ensures.still.large (ap (is_out whats.Large) w.bringing.holds.out_is) (ap (is_out whats.Large) v.bringing.holds.out_is) c.args.large z.2 in
    c.end_brought.ensures first c.args.addr c.args.n c.args.flags (c.bring_far-brought.ensures first v.bringing tlarge).0
