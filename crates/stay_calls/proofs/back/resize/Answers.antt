use Rattle.std.proofs.Common.{◌≡◌, ℕ, ◌+◌, ◌*◌, ◌-◌, ◌/◌, ◌∙◌, true, [], ◌∷◌, refl, sym, ap, subst}
use Rattle.heap_model.specs.declared.Act.TheVariants as acts
use Rattle.heap_model.specs.declared.What.TheVariants as whats
use Rattle.heap_model.specs.Geometry.{pages_of, words_of}
use Rattle.heap_model.specs.Layers.{StandsForVs, StandsForBack}
use Rattle.heap_model.specs.Legal.{leaves_whole}
use Rattle.claim_rule.specs.Entries.{may_prepare}
use Rattle.claim_rule.specs.Places.{vs_slot, back_slot}
use Rattle.vs_layer.specs.Standing as vss
use Rattle.backend_fit.specs.Effects.{place_of}
use Rattle.backend_fit.specs.Kept as backs
use Rattle.heap_gate.specs.Calls.{HasRested, with_prepared, rested}
use Rattle.heap_gate.specs.Token.{Token, Always, now}
use Rattle.call_parts.specs.Entries.{Zeroes, HasEnded}
use Rattle.call_parts.proofs.Handing.{zeroed}
use Rattle.stay_calls.proofs.Ending.{grow_later, grow_may, grown_rests, stays_at}
use Rattle.stay_calls.proofs.BackStays.{run_kind, run_span, back_grows, words_then, long_vs, long_used, long_back}
use Rattle.stay_calls.proofs.back.resize.Goals as goal

pub widen-requires-clause-there : goal.widen-requires-clause-there
widen-requires-clause-there c =
    let k = c.args.c.now in let y = c.requires.back in let x = y.has in
    run_span k x.call c.args.vs c.args.back x.holds c.check.ensures.stands c.region-before.ensures.sound c.args.addr y.not_vs c.args.run c.requires.found c.args.n

pub widen-requires-clause-kind : goal.widen-requires-clause-kind
widen-requires-clause-kind c =
    let k = c.args.c.now in let y = c.requires.back in let x = y.has in
    run_kind k x.call c.args.vs c.args.back x.holds c.check.ensures.stands c.region-before.ensures.sound c.args.addr y.not_vs c.args.run c.requires.found c.args.n

pub zero_gained-requires-clause-there : goal.zero_gained-requires-clause-there
zero_gained-requires-clause-there c =
    let k = c.args.c.now in let y = c.requires.back in let x = y.has in let w = c.widen.ensures in let did = c.if-not-widen.false in
    words_then k x.call c.args.vs c.args.back x.holds c.check.ensures.stands c.region-before.ensures.sound c.args.addr y.not_vs c.args.run c.requires.found c.args.n c.widen.new.back w.limits c.region-region.ensures.sound (w.spans did)

pub prepare-requires-clause-may : goal.prepare-requires-clause-may
prepare-requires-clause-may c =
    let k = c.args.c.now in let y = c.requires.back in let h = y.has in let vs = c.args.vs in let back = c.args.back in let addr = c.args.addr in let r = c.args.run in let n = c.args.n in let flags = c.args.flags in let z = c.zero_gained.new.c in
    let st = c.check.ensures.stands in let sz = c.check-2.ensures.stands in let sound = c.region-before.ensures.sound in let w = c.widen.ensures in let did = c.if-not-widen.false in
    let size = 4096 * r.pages - r.mark.unused in
    let zeroes = subst (λ (m : ℕ). Zeroes k z (addr / 8 + words_of m) (words_of n - words_of m) flags.zero) c.size_of-size.ensures c.zero_gained.ensures in
    let zz = zeroed k z (addr / 8 + words_of size) (words_of n - words_of size) flags.zero h.holds.serving.whole zeroes in
    let first = back_grows k h.call vs back h.holds st sound addr y.not_vs r c.requires.found n (sym w.told ∙ did) in
    let x = grow_later k z addr (place_of r) size n (256 * pages_of n) flags (back_slot ∷ vs_slot ∷ []) h.call h.holds.serving zz first in
    subst (λ (g : ℕ). Always z (λ s. may_prepare s (now s z) z.number (acts.Resize addr g n) ≡ true)) (sym c.granules_for-granules.ensures) (grow_may k z addr (place_of r) size n (256 * pages_of n) flags (back_slot ∷ vs_slot ∷ []) h.call h.holds.serving zz x st sz)

pub rest-requires : goal.rest-requires
rest-requires c =
    let k = c.args.c.now in let y = c.requires.back in let h = y.has in let vs = c.args.vs in let back = c.args.back in let addr = c.args.addr in let r = c.args.run in let n = c.args.n in let flags = c.args.flags in let z = c.zero_gained.new.c in
    let st = c.check.ensures.stands in let sz = c.check-2.ensures.stands in let sound = c.region-before.ensures.sound in let w = c.widen.ensures in let did = c.if-not-widen.false in
    let size = 4096 * r.pages - r.mark.unused in
    let zeroes = subst (λ (m : ℕ). Zeroes k z (addr / 8 + words_of m) (words_of n - words_of m) flags.zero) c.size_of-size.ensures c.zero_gained.ensures in
    let zz = zeroed k z (addr / 8 + words_of size) (words_of n - words_of size) flags.zero h.holds.serving.whole zeroes in
    let first = back_grows k h.call vs back h.holds st sound addr y.not_vs r c.requires.found n (sym w.told ∙ did) in
    let x = grow_later k z addr (place_of r) size n (256 * pages_of n) flags (back_slot ∷ vs_slot ∷ []) h.call h.holds.serving zz first in
    let e = c.prepare.ensures ∙ ap (λ (g : ℕ). with_prepared z (acts.Resize addr g n)) c.granules_for-granules.ensures in
    record { rests = subst (λ (t : Token). Always t (λ s. HasRested (now s t) t.number)) (sym e) (grown_rests k z addr (place_of r) size n (256 * pages_of n) flags (back_slot ∷ vs_slot ∷ []) h.call h.holds.serving zz x st sz) }

pub give_both-requires-clause-used : goal.give_both-requires-clause-used
give_both-requires-clause-used c =
    let k = c.args.c.now in let y = c.requires.back in let h = y.has in let vs = c.args.vs in let back = c.args.back in let addr = c.args.addr in let r = c.args.run in let n = c.args.n in let flags = c.args.flags in let z = c.zero_gained.new.c in
    let st = c.check.ensures.stands in let sz = c.check-2.ensures.stands in let sound = c.region-before.ensures.sound in let w = c.widen.ensures in let did = c.if-not-widen.false in
    let size = 4096 * r.pages - r.mark.unused in
    let zeroes = subst (λ (m : ℕ). Zeroes k z (addr / 8 + words_of m) (words_of n - words_of m) flags.zero) c.size_of-size.ensures c.zero_gained.ensures in
    let zz = zeroed k z (addr / 8 + words_of size) (words_of n - words_of size) flags.zero h.holds.serving.whole zeroes in
    let first = back_grows k h.call vs back h.holds st sound addr y.not_vs r c.requires.found n (sym w.told ∙ did) in
    let x = grow_later k z addr (place_of r) size n (256 * pages_of n) flags (back_slot ∷ vs_slot ∷ []) h.call h.holds.serving zz first in
    let e = c.rest.ensures ∙ ap rested (c.prepare.ensures ∙ ap (λ (g : ℕ). with_prepared z (acts.Resize addr g n)) c.granules_for-granules.ensures) in
    subst (λ (t : Token). Always t (λ s. leaves_whole (now s t).state whats.Vs ≡ true)) (sym e) (long_used k h.call vs back h.holds st sound addr y.not_vs r c.requires.found n z flags zz x sz h.used)

pub give_both-requires-clause-tells_vs : goal.give_both-requires-clause-tells_vs
give_both-requires-clause-tells_vs c =
    let k = c.args.c.now in let y = c.requires.back in let h = y.has in let vs = c.args.vs in let back = c.args.back in let addr = c.args.addr in let r = c.args.run in let n = c.args.n in let flags = c.args.flags in let z = c.zero_gained.new.c in
    let st = c.check.ensures.stands in let sz = c.check-2.ensures.stands in let sound = c.region-before.ensures.sound in let w = c.widen.ensures in let did = c.if-not-widen.false in
    let size = 4096 * r.pages - r.mark.unused in
    let zeroes = subst (λ (m : ℕ). Zeroes k z (addr / 8 + words_of m) (words_of n - words_of m) flags.zero) c.size_of-size.ensures c.zero_gained.ensures in
    let zz = zeroed k z (addr / 8 + words_of size) (words_of n - words_of size) flags.zero h.holds.serving.whole zeroes in
    let first = back_grows k h.call vs back h.holds st sound addr y.not_vs r c.requires.found n (sym w.told ∙ did) in
    let x = grow_later k z addr (place_of r) size n (256 * pages_of n) flags (back_slot ∷ vs_slot ∷ []) h.call h.holds.serving zz first in
    let e = c.rest.ensures ∙ ap rested (c.prepare.ensures ∙ ap (λ (g : ℕ). with_prepared z (acts.Resize addr g n)) c.granules_for-granules.ensures) in
    subst (λ (t : Token). Always t (λ s. StandsForVs t.opening (now s t).state (vss.layer_of vs))) (sym e) (long_vs k h.call vs back h.holds st sound addr y.not_vs r c.requires.found n z flags zz x sz)

pub give_both-requires-clause-tells_back : goal.give_both-requires-clause-tells_back
give_both-requires-clause-tells_back c =
    let k = c.args.c.now in let y = c.requires.back in let h = y.has in let vs = c.args.vs in let back = c.args.back in let addr = c.args.addr in let r = c.args.run in let n = c.args.n in let flags = c.args.flags in let z = c.zero_gained.new.c in
    let st = c.check.ensures.stands in let sz = c.check-2.ensures.stands in let sound = c.region-before.ensures.sound in let w = c.widen.ensures in let did = c.if-not-widen.false in
    let size = 4096 * r.pages - r.mark.unused in
    let zeroes = subst (λ (m : ℕ). Zeroes k z (addr / 8 + words_of m) (words_of n - words_of m) flags.zero) c.size_of-size.ensures c.zero_gained.ensures in
    let zz = zeroed k z (addr / 8 + words_of size) (words_of n - words_of size) flags.zero h.holds.serving.whole zeroes in
    let first = back_grows k h.call vs back h.holds st sound addr y.not_vs r c.requires.found n (sym w.told ∙ did) in
    let x = grow_later k z addr (place_of r) size n (256 * pages_of n) flags (back_slot ∷ vs_slot ∷ []) h.call h.holds.serving zz first in
    let e = c.rest.ensures ∙ ap rested (c.prepare.ensures ∙ ap (λ (g : ℕ). with_prepared z (acts.Resize addr g n)) c.granules_for-granules.ensures) in
    subst (λ (t : Token). Always t (λ s. StandsForBack t.opening (now s t).state (backs.layer_of c.widen.new.back))) (sym e) (long_back k h.call vs back h.holds st sound addr y.not_vs r c.requires.found n z flags zz x sz c.widen.new.back (w.becomes did))

pub returns : goal.returns
returns c =
    let k = c.args.c.now in let y = c.requires.back in let h = y.has in let vs = c.args.vs in let back = c.args.back in let addr = c.args.addr in let r = c.args.run in let n = c.args.n in let flags = c.args.flags in let z = c.zero_gained.new.c in
    let st = c.check.ensures.stands in let sz = c.check-2.ensures.stands in let sound = c.region-before.ensures.sound in let w = c.widen.ensures in let did = c.if-not-widen.false in
    let size = 4096 * r.pages - r.mark.unused in
    let zeroes = subst (λ (m : ℕ). Zeroes k z (addr / 8 + words_of m) (words_of n - words_of m) flags.zero) c.size_of-size.ensures c.zero_gained.ensures in
    let zz = zeroed k z (addr / 8 + words_of size) (words_of n - words_of size) flags.zero h.holds.serving.whole zeroes in
    let first = back_grows k h.call vs back h.holds st sound addr y.not_vs r c.requires.found n (sym w.told ∙ did) in
    let x = grow_later k z addr (place_of r) size n (256 * pages_of n) flags (back_slot ∷ vs_slot ∷ []) h.call h.holds.serving zz first in
    let e = c.rest.ensures ∙ ap rested (c.prepare.ensures ∙ ap (λ (g : ℕ). with_prepared z (acts.Resize addr g n)) c.granules_for-granules.ensures) in
    let d = c.give_both.new.c in
    stays_at k z addr (place_of r) size n (256 * pages_of n) flags (back_slot ∷ vs_slot ∷ []) h.call h.holds.serving zz x st sz d (acts.GiveLock whats.Back ∷ acts.GiveLock whats.Vs ∷ []) refl refl
    (subst (λ (t : Token). HasEnded t d (acts.GiveLock whats.Back ∷ acts.GiveLock whats.Vs ∷ []) []) e c.give_both.ensures) c.check-3.ensures.legal c.requires.call
