use Rattle.std.proofs.Common.{◌≡◌, ℕ, ◌+◌, ◌-◌, ◌/◌, ◌<◌, ◌∙◌, true, [], ◌∷◌, refl, sym, ap, subst, arith}
use Rattle.std.specs.Prelude.{is_some}
use Rattle.heap_model.specs.declared.Act.TheVariants as acts
use Rattle.heap_model.specs.declared.Limits.{Limits}
use Rattle.heap_model.specs.declared.What.TheVariants as whats
use Rattle.heap_model.specs.Geometry.{words_of}
use Rattle.heap_model.specs.Layers.{StandsForVs}
use Rattle.heap_model.specs.Legal.{leaves_whole}
use Rattle.heap_model.specs.State.{Place, has_address}
use Rattle.heap_soundness.specs.Sound.{IsInVs, AreAt}
use Rattle.heap_soundness.proofs.Lists.{all_at, found_in}
use Rattle.claim_rule.specs.Entries.{entry}
use Rattle.claim_rule.specs.Places.{vs_slot}
use Rattle.vs_layer.specs.Kept.{VsKept, places_of}
use Rattle.vs_layer.specs.Standing.{layer_of}
use Rattle.heap_gate.specs.Calls.{HasGiven, HasRested, rested}
use Rattle.heap_gate.specs.Token.{Token, Always, now}
use Rattle.call_parts.proofs.Handing.{zeroed}
use Rattle.call_parts.proofs.Tokens.{ended_given}
use Rattle.vs_calls.specs.Blocks.{LiesWithin}
use Rattle.stay_calls.proofs.Ending.{grow_later, grow_may, grown_rests, stays_at}
use Rattle.stay_calls.proofs.VsStays.{IsLiveBlock, live_block, new_block, new_size, vs_limits, vs_grows, long_tells}
use Rattle.stay_calls.proofs.vs.stay_vs.Goals as goal

some_there : (vs : VsKept) (addr size : ℕ) (b : IsLiveBlock vs addr size) → AreAt (IsInVs vs.spans) (places_of vs) → 0 < b.place.granules
some_there vs addr size b inside =
    let two = (all_at (λ (p : Place). IsInVs vs.spans p.start p.granules) b.place (places_of vs) inside (found_in (has_address addr) (places_of vs) b.place b.there)).two in
    omega (arith, two)

pub lies_within-requires : goal.lies_within-requires
lies_within-requires c =
    let k = c.args.c.now in let vs = c.args.vs in let addr = c.args.addr in let size = c.unwrap-size.result in let b = live_block vs addr size (sym c.find.ensures ∙ c.unwrap-size.ensures) in
    ap is_some (new_size k vs c.requires.vs.has c.check.ensures.stands addr size c.args.n b c.resize_in_place.new.self c.if-not-resize_in_place.ensures.resizes)

pub granules_at-granules-requires : goal.granules_at-granules-requires
granules_at-granules-requires c =
    let k = c.args.c.now in let vs = c.args.vs in let addr = c.args.addr in let size = c.unwrap-size.result in let b = live_block vs addr size (sym c.find.ensures ∙ c.unwrap-size.ensures) in
    (_, new_block k vs c.requires.vs.has c.check.ensures.stands addr size c.args.n b c.resize_in_place.new.self c.if-not-resize_in_place.ensures.resizes)

pub zero_gained-requires-clause-there : goal.zero_gained-requires-clause-there
zero_gained-requires-clause-there c =
    let k = c.args.c.now in let vs = c.args.vs in let addr = c.args.addr in let size = c.unwrap-size.result in let b = live_block vs addr size (sym c.find.ensures ∙ c.unwrap-size.ensures) in
    let e = new_size k vs c.requires.vs.has c.check.ensures.stands addr size c.args.n b c.resize_in_place.new.self c.if-not-resize_in_place.ensures.resizes in
    subst (λ (l : Limits). LiesWithin l addr c.args.n) (c.if-not-resize_in_place.ensures.limits ∙ vs_limits k vs c.requires.vs.has.holds.tells) (c.lies_within.ensures c.args.n e)

pub prepare-requires-clause-may : goal.prepare-requires-clause-may
prepare-requires-clause-may c =
    let k = c.args.c.now in let vs = c.args.vs in let addr = c.args.addr in let size = c.unwrap-size.result in let n = c.args.n in let flags = c.args.flags in let z = c.zero_gained.new.c in let h = c.requires.vs.has in
    let b = live_block vs addr size (sym c.find.ensures ∙ c.unwrap-size.ensures) in let new = c.resize_in_place.new.self in let r = c.if-not-resize_in_place.ensures.resizes in
    let st = c.check.ensures.stands in let sz = c.check-2.ensures.stands in let g = c.granules_at-granules.result in
    let same = c.granules_at-granules.ensures _ (new_block k vs h st addr size n b new r) in
    let zz = zeroed k z (addr / 8 + words_of size) (words_of n - words_of size) flags.zero h.holds.serving.whole c.zero_gained.ensures in
    let x = grow_later k z addr b.place size n g flags (vs_slot ∷ []) h.call h.holds.serving zz (vs_grows k vs h st addr size n b new r g same) in
    grow_may k z addr b.place size n g flags (vs_slot ∷ []) h.call h.holds.serving zz x st sz

pub rest-requires : goal.rest-requires
rest-requires c =
    let k = c.args.c.now in let vs = c.args.vs in let addr = c.args.addr in let size = c.unwrap-size.result in let n = c.args.n in let flags = c.args.flags in let z = c.zero_gained.new.c in let h = c.requires.vs.has in
    let b = live_block vs addr size (sym c.find.ensures ∙ c.unwrap-size.ensures) in let new = c.resize_in_place.new.self in let r = c.if-not-resize_in_place.ensures.resizes in
    let st = c.check.ensures.stands in let sz = c.check-2.ensures.stands in let g = c.granules_at-granules.result in
    let same = c.granules_at-granules.ensures _ (new_block k vs h st addr size n b new r) in
    let zz = zeroed k z (addr / 8 + words_of size) (words_of n - words_of size) flags.zero h.holds.serving.whole c.zero_gained.ensures in
    let x = grow_later k z addr b.place size n g flags (vs_slot ∷ []) h.call h.holds.serving zz (vs_grows k vs h st addr size n b new r g same) in
    record { rests = subst (λ (t : Token). Always t (λ s. HasRested (now s t) t.number)) (sym c.prepare.ensures) (grown_rests k z addr b.place size n g flags (vs_slot ∷ []) h.call h.holds.serving zz x st sz) }

pub give_vs-requires-clause-tells : goal.give_vs-requires-clause-tells
give_vs-requires-clause-tells c =
    let k = c.args.c.now in let vs = c.args.vs in let addr = c.args.addr in let size = c.unwrap-size.result in let n = c.args.n in let flags = c.args.flags in let z = c.zero_gained.new.c in let h = c.requires.vs.has in
    let b = live_block vs addr size (sym c.find.ensures ∙ c.unwrap-size.ensures) in let new = c.resize_in_place.new.self in let r = c.if-not-resize_in_place.ensures.resizes in
    let st = c.check.ensures.stands in let sz = c.check-2.ensures.stands in let g = c.granules_at-granules.result in
    let same = c.granules_at-granules.ensures _ (new_block k vs h st addr size n b new r) in
    let zz = zeroed k z (addr / 8 + words_of size) (words_of n - words_of size) flags.zero h.holds.serving.whole c.zero_gained.ensures in
    let x = grow_later k z addr b.place size n g flags (vs_slot ∷ []) h.call h.holds.serving zz (vs_grows k vs h st addr size n b new r g same) in
    let e = c.rest.ensures ∙ ap rested c.prepare.ensures in
    subst (λ (t : Token). Always t (λ s. (leaves_whole (now s t).state whats.Vs ≡ true) × StandsForVs t.opening (now s t).state (layer_of new))) (sym e)
    (long_tells k vs h st addr size n b new r z flags g zz x sz same (some_there vs addr size b c.heads-before.ensures.inside) c.heads-heads.ensures.in_order c.heads-heads.ensures.inside (c.if-not-resize_in_place.ensures.stands b.place b.there))

pub returns : goal.returns
returns c =
    let k = c.args.c.now in let vs = c.args.vs in let addr = c.args.addr in let size = c.unwrap-size.result in let n = c.args.n in let flags = c.args.flags in let z = c.zero_gained.new.c in let h = c.requires.vs.has in
    let b = live_block vs addr size (sym c.find.ensures ∙ c.unwrap-size.ensures) in let new = c.resize_in_place.new.self in let r = c.if-not-resize_in_place.ensures.resizes in
    let st = c.check.ensures.stands in let sz = c.check-2.ensures.stands in let g = c.granules_at-granules.result in let d = c.give_vs.new.c in
    let same = c.granules_at-granules.ensures _ (new_block k vs h st addr size n b new r) in
    let zz = zeroed k z (addr / 8 + words_of size) (words_of n - words_of size) flags.zero h.holds.serving.whole c.zero_gained.ensures in
    let x = grow_later k z addr b.place size n g flags (vs_slot ∷ []) h.call h.holds.serving zz (vs_grows k vs h st addr size n b new r g same) in
    let t = rested (Rattle.heap_gate.specs.Calls.with_prepared z (acts.Resize addr g n)) in
    let e = c.rest.ensures ∙ ap rested c.prepare.ensures in
    let given = subst (λ (y : Token). HasGiven y d whats.Vs (entry y.number (acts.GiveLock whats.Vs) ∷ [])) e c.give_vs.ensures in
    stays_at k z addr b.place size n g flags (vs_slot ∷ []) h.call h.holds.serving zz x st sz d (acts.GiveLock whats.Vs ∷ []) refl refl
    (ended_given t d whats.Vs [] (acts.GiveLock whats.Vs ∷ []) given (zz.out_is ∙ h.holds.serving.out_is) refl) c.give_vs.ensures.runs.does.legal c.requires.call
