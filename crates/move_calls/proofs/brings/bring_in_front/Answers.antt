use Rattle.std.proofs.Common.{◌≡◌, true, [], ◌∷◌, None, refl, sym, ap, ◌∙◌, subst, arith}
use Rattle.heap_model.specs.declared.What.TheVariants as whats
use Rattle.claim_rule.specs.Places.{vs_slot, back_slot}
use Rattle.search_laws.proofs.Blocks.{bucket_fits}
use Rattle.heap_gate.specs.Token.{Token, is_out}
use Rattle.claim_rule.specs.Entries.{have_slots}
use Rattle.move_calls.specs.Carries.{IsBringing}
use Rattle.move_calls.proofs.Brought.{brought_rests, come_in_front}
use Rattle.move_calls.proofs.Carrying.{brings_on, taken_of}
use Rattle.move_calls.proofs.Tried.{vs_same, back_same}
use Rattle.move_calls.proofs.brings.bring_in_front.Goals as goal

pub move_taken_to_front-requires-clause-size : goal.move_taken_to_front-requires-clause-size
move_taken_to_front-requires-clause-size c = (bucket_fits c.args.n c.args.bucket c.requires.bucket).0

pub move_taken_to_front-requires-clause-taken : goal.move_taken_to_front-requires-clause-taken
move_taken_to_front-requires-clause-taken c = let z = c.requires.carrying in let out = back_slot ∷ vs_slot ∷ [] in (c.args.flags, out, taken_of z.0 c.args.c.now c.args.tag c.args.addr c.args.size c.args.n c.args.flags out z.1, refl, z.2, refl, z.3)

pub returns-in-Moved : goal.returns-in-Moved
returns-in-Moved c = λ first v tvs tback.
    let out = back_slot ∷ vs_slot ∷ [] in let k = c.args.c.now in let flags = c.args.flags in
    let x = c.in-Moved.ensures flags out refl (taken_of first k c.args.tag c.args.addr c.args.size c.args.n flags out v) refl tvs refl tback in
    (come_in_front first k c.move_taken_to_front.new.c c.args.tag c.args.addr c.args.size c.args.n flags out c.in-Moved.b v.bringing x.0, x.1.vs, x.1.back)

pub say_none-requires-clause-table : goal.say_none-requires-clause-table
say_none-requires-clause-table c =
    let z = c.requires.carrying in let out = back_slot ∷ vs_slot ∷ [] in let k = c.args.c.now in let flags = c.args.flags in
    let x = c.in-NoFit.ensures flags out refl (taken_of z.0 k c.args.tag c.args.addr c.args.size c.args.n flags out z.1) refl z.2 refl z.3 in
    (x.0.goes.table ∙ c.requires.table.0, x.0.goes.opening ∙ c.requires.table.1)

pub say_none-requires-clause-bringing : goal.say_none-requires-clause-bringing
say_none-requires-clause-bringing c =
    let z = c.requires.carrying in let out = back_slot ∷ vs_slot ∷ [] in let k = c.args.c.now in let flags = c.args.flags in let m = c.move_taken_to_front.new.c in
    let x = c.in-NoFit.ensures flags out refl (taken_of z.0 k c.args.tag c.args.addr c.args.size c.args.n flags out z.1) refl z.2 refl z.3 in
    (z.0, c.args.tag, flags, out, brings_on z.0 k m c.args.tag c.args.addr c.args.size c.args.n flags out out x.0.its z.1.bringing x.0.goes x.0.are.no_begin x.0.are.shape_is x.0.holds)

pub say_none-requires-clause-may : goal.say_none-requires-clause-may
say_none-requires-clause-may c =
    let z = c.requires.carrying in let out = back_slot ∷ vs_slot ∷ [] in let k = c.args.c.now in let flags = c.args.flags in
    let x = c.in-NoFit.ensures flags out refl (taken_of z.0 k c.args.tag c.args.addr c.args.size c.args.n flags out z.1) refl z.2 refl z.3 in x.0.may

pub returns-in-NoFit : goal.returns-in-NoFit
returns-in-NoFit c = λ first v tvs tback.
    let out = back_slot ∷ vs_slot ∷ [] in let k = c.args.c.now in let flags = c.args.flags in let m = c.move_taken_to_front.new.c in let d = c.say_none.new.c in
    let x = c.in-NoFit.ensures flags out refl (taken_of first k c.args.tag c.args.addr c.args.size c.args.n flags out v) refl tvs refl tback in
    let v2 = brings_on first k m c.args.tag c.args.addr c.args.size c.args.n flags out out x.0.its v.bringing x.0.goes x.0.are.no_begin x.0.are.shape_is x.0.holds in
    let y = c.say_none.ensures.brought first c.args.tag flags out v2 in
    let outs = (brought_rests first d c.args.addr c.args.n flags out None y).out_is in let still = c.say_none.ensures.still in
    (y, still.vs (ap (is_out whats.Vs) v2.holds.out_is) (ap (is_out whats.Vs) outs) c.move_taken_to_front.new.vs x.1.vs, still.back (ap (is_out whats.Back) v2.holds.out_is) (ap (is_out whats.Back) outs) c.move_taken_to_front.new.back x.1.back)

pub bring_behind-requires-clause-table : goal.bring_behind-requires-clause-table
bring_behind-requires-clause-table c =
    let z = c.requires.carrying in let out = back_slot ∷ vs_slot ∷ [] in let k = c.args.c.now in let flags = c.args.flags in let m = c.move_taken_to_front.new.c in
    let i = c.in-Idle.ensures flags out refl (taken_of z.0 k c.args.tag c.args.addr c.args.size c.args.n flags out z.1) refl z.2 refl z.3 in
    (ap (λ (t : Token). t.table) i.same ∙ c.requires.table.0, ap (λ (t : Token). t.opening) i.same ∙ c.requires.table.1)

pub bring_behind-requires-clause-slots : goal.bring_behind-requires-clause-slots
bring_behind-requires-clause-slots c =
    let z = c.requires.carrying in let out = back_slot ∷ vs_slot ∷ [] in let k = c.args.c.now in let flags = c.args.flags in let m = c.move_taken_to_front.new.c in
    let i = c.in-Idle.ensures flags out refl (taken_of z.0 k c.args.tag c.args.addr c.args.size c.args.n flags out z.1) refl z.2 refl z.3 in
    subst (λ (t : Token). have_slots t.opening.limits.slots t.roll ≡ true) (sym i.same) c.requires.slots

pub bring_behind-requires-clause-bringing : goal.bring_behind-requires-clause-bringing
bring_behind-requires-clause-bringing c =
    let z = c.requires.carrying in let out = back_slot ∷ vs_slot ∷ [] in let k = c.args.c.now in let flags = c.args.flags in let m = c.move_taken_to_front.new.c in
    let i = c.in-Idle.ensures flags out refl (taken_of z.0 k c.args.tag c.args.addr c.args.size c.args.n flags out z.1) refl z.2 refl z.3 in
    (z.0, subst (λ (t : Token). IsBringing z.0 t c.args.tag c.args.addr c.args.size c.args.n flags out) (sym i.same) z.1.bringing, vs_same k m c.args.vs.now c.move_taken_to_front.new.vs i.same i.vs_is z.2, back_same k m c.args.back.now c.move_taken_to_front.new.back i.same i.back_is z.3)

pub bring_behind-requires-clause-bucket : goal.bring_behind-requires-clause-bucket
bring_behind-requires-clause-bucket c =
    let z = c.requires.carrying in let out = back_slot ∷ vs_slot ∷ [] in let k = c.args.c.now in let flags = c.args.flags in let m = c.move_taken_to_front.new.c in
    let i = c.in-Idle.ensures flags out refl (taken_of z.0 k c.args.tag c.args.addr c.args.size c.args.n flags out z.1) refl z.2 refl z.3 in
    λ small. i.for_vs

pub bring_behind-requires-clause-size : goal.bring_behind-requires-clause-size
bring_behind-requires-clause-size c =
    let z = c.requires.carrying in let out = back_slot ∷ vs_slot ∷ [] in let k = c.args.c.now in let flags = c.args.flags in let m = c.move_taken_to_front.new.c in
    let i = c.in-Idle.ensures flags out refl (taken_of z.0 k c.args.tag c.args.addr c.args.size c.args.n flags out z.1) refl z.2 refl z.3 in
    let e = (bucket_fits c.args.n c.args.bucket c.requires.bucket).0 in omega (arith, e)

pub returns-in-Idle : goal.returns-in-Idle
returns-in-Idle c = λ first v tvs tback.
    let out = back_slot ∷ vs_slot ∷ [] in let k = c.args.c.now in let flags = c.args.flags in let m = c.move_taken_to_front.new.c in
    let i = c.in-Idle.ensures flags out refl (taken_of first k c.args.tag c.args.addr c.args.size c.args.n flags out v) refl tvs refl tback in
    c.bring_behind.ensures first (subst (λ (t : Token). IsBringing first t c.args.tag c.args.addr c.args.size c.args.n flags out) (sym i.same) v.bringing) (vs_same k m c.args.vs.now c.move_taken_to_front.new.vs i.same i.vs_is tvs) (back_same k m c.args.back.now c.move_taken_to_front.new.back i.same i.back_is tback)
