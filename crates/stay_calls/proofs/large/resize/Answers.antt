use Rattle.std.proofs.Common.{◌≡◌, ℕ, ◌+◌, ◌*◌, ◌-◌, ◌/◌, ◌∙◌, true, [], ◌∷◌, refl, sym, ap, subst}
use Rattle.std.specs.List.{find}
use Rattle.heap_model.specs.declared.Act.TheVariants as acts
use Rattle.heap_model.specs.declared.What.TheVariants as whats
use Rattle.heap_model.specs.Geometry.{pages_of, words_of}
use Rattle.heap_model.specs.Layers.{StandsForLarge}
use Rattle.heap_model.specs.Legal.{leaves_whole}
use Rattle.claim_rule.specs.Entries.{entry, may_prepare}
use Rattle.claim_rule.specs.Places.{large_slot}
use Rattle.large_blocks.specs.Table.{LargeTable, is_at, place_of, layer_of}
use Rattle.heap_gate.specs.Calls.{HasGiven, HasRested, with_prepared, rested}
use Rattle.heap_gate.specs.Token.{Token, Always, now}
use Rattle.call_parts.proofs.Handing.{zeroed}
use Rattle.call_parts.proofs.Tokens.{ended_given}
use Rattle.stay_calls.proofs.Ending.{AllGrow, grow_later, grow_may, grown_rests, stays_at}
use Rattle.stay_calls.proofs.LargeStays.{sized_block, large_grows, words_then, long_tells}
use Rattle.stay_calls.proofs.large.resize.Goals as goal

pub zero_gained-requires-clause-there : goal.zero_gained-requires-clause-there
zero_gained-requires-clause-there c =
    let k = c.args.c.now in let large = c.args.large in let h = c.requires.large.has in let addr = c.args.addr in
    let b = sized_block (find (is_at addr) large.blocks) c.args.size c.requires.found in
    let x = c.if-not-resize_in_place.ensures in
    words_then k h.0 large h.1 c.check.ensures.stands c.blocks-before.ensures.sound addr b.0 b.1 c.args.n c.resize_in_place.new.self x.limits c.blocks-blocks.ensures.sound (ap (λ (t : LargeTable). t.blocks) x.resized)

pub prepare-requires-clause-may : goal.prepare-requires-clause-may
prepare-requires-clause-may c =
    let k = c.args.c.now in let large = c.args.large in let h = c.requires.large.has in let addr = c.args.addr in let size = c.args.size in let n = c.args.n in let flags = c.args.flags in let z = c.zero_gained.new.c in
    let st = c.check.ensures.stands in let sz = c.check-2.ensures.stands in
    let b = sized_block (find (is_at addr) large.blocks) size c.requires.found in
    let zz = zeroed k z (addr / 8 + words_of size) (words_of n - words_of size) flags.zero h.1.serving.whole c.zero_gained.ensures in
    let first = subst (λ (m : ℕ). AllGrow k addr (place_of b.0) m n (256 * pages_of n)) b.2 (large_grows k h.0 large h.1 st c.blocks-before.ensures.sound addr b.0 b.1 n c.if-not-resize_in_place.ensures.stays) in
    let x = grow_later k z addr (place_of b.0) size n (256 * pages_of n) flags (large_slot ∷ []) h.0 h.1.serving zz first in
    subst (λ (g : ℕ). Always z (λ s. may_prepare s (now s z) z.number (acts.Resize addr g n) ≡ true)) (sym c.granules_for-granules.ensures)
    (grow_may k z addr (place_of b.0) size n (256 * pages_of n) flags (large_slot ∷ []) h.0 h.1.serving zz x st sz)

pub rest-requires : goal.rest-requires
rest-requires c =
    let k = c.args.c.now in let large = c.args.large in let h = c.requires.large.has in let addr = c.args.addr in let size = c.args.size in let n = c.args.n in let flags = c.args.flags in let z = c.zero_gained.new.c in
    let st = c.check.ensures.stands in let sz = c.check-2.ensures.stands in
    let b = sized_block (find (is_at addr) large.blocks) size c.requires.found in
    let zz = zeroed k z (addr / 8 + words_of size) (words_of n - words_of size) flags.zero h.1.serving.whole c.zero_gained.ensures in
    let first = subst (λ (m : ℕ). AllGrow k addr (place_of b.0) m n (256 * pages_of n)) b.2 (large_grows k h.0 large h.1 st c.blocks-before.ensures.sound addr b.0 b.1 n c.if-not-resize_in_place.ensures.stays) in
    let x = grow_later k z addr (place_of b.0) size n (256 * pages_of n) flags (large_slot ∷ []) h.0 h.1.serving zz first in
    let e = c.prepare.ensures ∙ ap (λ (g : ℕ). with_prepared z (acts.Resize addr g n)) c.granules_for-granules.ensures in
    record { rests = subst (λ (t : Token). Always t (λ s. HasRested (now s t) t.number)) (sym e) (grown_rests k z addr (place_of b.0) size n (256 * pages_of n) flags (large_slot ∷ []) h.0 h.1.serving zz x st sz) }

pub give_large-requires-clause-tells : goal.give_large-requires-clause-tells
give_large-requires-clause-tells c =
    let k = c.args.c.now in let large = c.args.large in let h = c.requires.large.has in let addr = c.args.addr in let size = c.args.size in let n = c.args.n in let flags = c.args.flags in let z = c.zero_gained.new.c in
    let st = c.check.ensures.stands in let sz = c.check-2.ensures.stands in
    let b = sized_block (find (is_at addr) large.blocks) size c.requires.found in
    let zz = zeroed k z (addr / 8 + words_of size) (words_of n - words_of size) flags.zero h.1.serving.whole c.zero_gained.ensures in
    let first = subst (λ (m : ℕ). AllGrow k addr (place_of b.0) m n (256 * pages_of n)) b.2 (large_grows k h.0 large h.1 st c.blocks-before.ensures.sound addr b.0 b.1 n c.if-not-resize_in_place.ensures.stays) in
    let x = grow_later k z addr (place_of b.0) size n (256 * pages_of n) flags (large_slot ∷ []) h.0 h.1.serving zz first in
    let e = c.rest.ensures ∙ ap rested (c.prepare.ensures ∙ ap (λ (g : ℕ). with_prepared z (acts.Resize addr g n)) c.granules_for-granules.ensures) in
    subst (λ (t : Token). Always t (λ s. (leaves_whole (now s t).state whats.Large ≡ true) × StandsForLarge t.opening (now s t).state (layer_of c.resize_in_place.new.self))) (sym e)
    (long_tells k h.0 large h.1 st c.blocks-before.ensures.sound addr b.0 b.1 n z size flags zz x sz c.resize_in_place.new.self c.if-not-resize_in_place.ensures.stands)

pub returns : goal.returns
returns c =
    let k = c.args.c.now in let large = c.args.large in let h = c.requires.large.has in let addr = c.args.addr in let size = c.args.size in let n = c.args.n in let flags = c.args.flags in let z = c.zero_gained.new.c in
    let st = c.check.ensures.stands in let sz = c.check-2.ensures.stands in let d = c.give_large.new.c in
    let b = sized_block (find (is_at addr) large.blocks) size c.requires.found in
    let zz = zeroed k z (addr / 8 + words_of size) (words_of n - words_of size) flags.zero h.1.serving.whole c.zero_gained.ensures in
    let first = subst (λ (m : ℕ). AllGrow k addr (place_of b.0) m n (256 * pages_of n)) b.2 (large_grows k h.0 large h.1 st c.blocks-before.ensures.sound addr b.0 b.1 n c.if-not-resize_in_place.ensures.stays) in
    let x = grow_later k z addr (place_of b.0) size n (256 * pages_of n) flags (large_slot ∷ []) h.0 h.1.serving zz first in
    let t = rested (with_prepared z (acts.Resize addr (256 * pages_of n) n)) in
    let e = c.rest.ensures ∙ ap rested (c.prepare.ensures ∙ ap (λ (g : ℕ). with_prepared z (acts.Resize addr g n)) c.granules_for-granules.ensures) in
    let g = subst (λ (y : Token). HasGiven y d whats.Large (entry y.number (acts.GiveLock whats.Large) ∷ [])) e c.give_large.ensures in
    stays_at k z addr (place_of b.0) size n (256 * pages_of n) flags (large_slot ∷ []) h.0 h.1.serving zz x st sz d (acts.GiveLock whats.Large ∷ []) refl refl
    (ended_given t d whats.Large [] (acts.GiveLock whats.Large ∷ []) g (zz.out_is ∙ h.1.serving.out_is) refl) c.give_large.ensures.runs.does.legal c.requires.call
