use Rattle.std.proofs.Common.{◌≡◌, ℕ, true, false, [], ◌∷◌, Some, refl, sym, ap, subst}
use Rattle.heap_model.specs.declared.Act.TheVariants as acts
use Rattle.heap_model.specs.declared.Layer.{Layer}
use Rattle.heap_model.specs.declared.Layer.TheVariants as layers
use Rattle.heap_model.specs.declared.What.TheVariants as whats
use Rattle.heap_model.specs.Layers.{StandsForVs}
use Rattle.heap_model.specs.Legal.{leaves_whole}
use Rattle.heap_model.specs.State.{Place, is_layer}
use Rattle.claim_rule.specs.Entries.{entry}
use Rattle.claim_rule.specs.Places.{vs_slot}
use Rattle.vs_layer.specs.Kept.{VsKept, block_at, lets_stay}
use Rattle.vs_layer.specs.Standing.{layer_of}
use Rattle.heap_gate.specs.Calls.{HasGiven, with_prepared}
use Rattle.heap_gate.specs.Token.{Token, Always, now, IsStanding}
use Rattle.call_parts.proofs.Tokens.{ended_given}
use Rattle.vs_calls.specs.Blocks.{HasVs}
use Rattle.stay_calls.proofs.Ending.{AllFound, is_off, is_on, looks_none, has_to_move, leave_may, no_room_at}
use Rattle.stay_calls.proofs.VsStays.{IsLiveBlock, live_block, vs_found, vs_there, sized_tells}
use Rattle.stay_calls.proofs.vs.leave.Goals as goal

found_so : (k : Token) (vs : VsKept) (h : HasVs k vs) (st : IsStanding k) (addr size n : ℕ) (b : IsLiveBlock vs addr size) → ((p : Place) → block_at vs addr ≡ Some p → lets_stay vs p n ≡ false) → AllFound k addr b.place size n false
found_so k vs h st addr size n b told = vs_found k vs h st addr size n b false (told b.place b.there)

pub returns-then-not-flags : goal.returns-then-not-flags
returns-then-not-flags c =
    let k = c.args.c.now in let b = live_block c.args.vs c.args.addr c.args.size c.requires.found in
    let x = found_so k c.args.vs c.requires.vs.has c.check.ensures.stands c.args.addr c.args.size c.args.n b c.requires.leaves in
    (is_off c.args.flags.in_place c.if-not-flags.true, (looks_none k, c.requires.vs, has_to_move k c.args.addr b.place c.args.size c.args.n layers.Vs b.layer b.live (ap (λ (l : Layer). is_layer l layers.Lfh) b.layer) (vs_there k c.args.vs c.requires.vs.has c.check.ensures.stands c.args.addr c.args.size c.args.n b) x))

pub prepare-requires-clause-may : goal.prepare-requires-clause-may
prepare-requires-clause-may c =
    let k = c.args.c.now in let h = c.requires.vs.has in let b = live_block c.args.vs c.args.addr c.args.size c.requires.found in
    let x = found_so k c.args.vs h c.check.ensures.stands c.args.addr c.args.size c.args.n b c.requires.leaves in
    leave_may k c.args.addr b.place c.args.size c.args.n c.args.flags (vs_slot ∷ []) h.call h.holds.serving x c.check.ensures.stands

pub give_vs-requires-clause-tells : goal.give_vs-requires-clause-tells
give_vs-requires-clause-tells c =
    let k = c.args.c.now in let h = c.requires.vs.has in let b = live_block c.args.vs c.args.addr c.args.size c.requires.found in
    subst (λ (t : Token). Always t (λ s. (leaves_whole (now s t).state whats.Vs ≡ true) × StandsForVs t.opening (now s t).state (layer_of c.args.vs))) (sym c.prepare.ensures)
    (sized_tells k c.args.vs h c.check.ensures.stands c.args.addr c.args.size c.args.n b)

pub returns : goal.returns
returns c =
    let k = c.args.c.now in let h = c.requires.vs.has in let d = c.give_vs.new.c in let b = live_block c.args.vs c.args.addr c.args.size c.requires.found in
    let x = found_so k c.args.vs h c.check.ensures.stands c.args.addr c.args.size c.args.n b c.requires.leaves in
    let t = with_prepared k (acts.Sized c.args.addr c.args.size) in
    let g = subst (λ (y : Token). HasGiven y d whats.Vs (entry y.number (acts.GiveLock whats.Vs) ∷ [])) c.prepare.ensures c.give_vs.ensures in
    no_room_at k c.args.addr b.place c.args.size c.args.n c.args.flags (vs_slot ∷ []) h.call h.holds.serving x c.check.ensures.stands d (acts.GiveLock whats.Vs ∷ []) refl refl
    (ended_given t d whats.Vs [] (acts.GiveLock whats.Vs ∷ []) g h.holds.serving.out_is h.holds.serving.free) c.give_vs.ensures.runs.does.legal c.requires.call (is_on c.args.flags.in_place c.if-not-flags.false)
