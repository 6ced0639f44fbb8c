use Rattle.std.proofs.Common.{◌≡◌, ℕ, ◌*◌, ◌-◌, true, false, [], ◌∷◌, refl, sym, ap, subst, ◌∙◌}
use Rattle.heap_model.specs.declared.Act.TheVariants as acts
use Rattle.heap_model.specs.declared.Layer.TheVariants as layers
use Rattle.heap_model.specs.declared.What.TheVariants as whats
use Rattle.heap_model.specs.Layers.{StandsForVs, StandsForBack}
use Rattle.heap_model.specs.Legal.{leaves_whole}
use Rattle.claim_rule.specs.Entries.{may_prepare}
use Rattle.claim_rule.specs.Places.{vs_slot, back_slot}
use Rattle.vs_layer.specs.Standing as vss
use Rattle.backend_fit.specs.Effects.{place_of}
use Rattle.backend_fit.specs.Kept as backs
use Rattle.heap_gate.specs.Calls.{with_prepared}
use Rattle.heap_gate.specs.Token.{Token, Always, now}
use Rattle.call_parts.specs.Entries.{HasEnded}
use Rattle.stay_calls.specs.Stays.{HasToMove}
use Rattle.stay_calls.proofs.Ending.{is_off, is_on, looks_none, has_to_move, leave_may, no_room_at}
use Rattle.stay_calls.proofs.BackStays.{found_now, back_found, sized_vs, sized_used, sized_back}
use Rattle.stay_calls.proofs.back.leave.Goals as goal

pub returns-then-not-flags : goal.returns-then-not-flags
returns-then-not-flags c =
    let k = c.args.c.now in let y = c.requires.back in let x = y.has in let r = c.args.run in
    let f = back_found k x.call c.args.vs c.args.back x.holds c.check.ensures.stands c.region-region.ensures.sound c.args.addr y.not_vs r c.requires.found c.args.n false c.requires.leaves in
    (is_off c.args.flags.in_place c.if-not-flags.true, (looks_none k, y, subst (λ (m : ℕ). HasToMove k layers.Back c.args.addr m c.args.n) (sym c.size_of-size.ensures) (has_to_move k c.args.addr (place_of r) (4096 * r.pages - r.mark.unused) c.args.n layers.Back refl refl refl (found_now k x.call c.args.vs c.args.back x.holds c.check.ensures.stands c.region-region.ensures.sound c.args.addr y.not_vs r c.requires.found c.args.n) f)))

pub prepare-requires-clause-may : goal.prepare-requires-clause-may
prepare-requires-clause-may c =
    let k = c.args.c.now in let y = c.requires.back in let x = y.has in let r = c.args.run in
    let f = back_found k x.call c.args.vs c.args.back x.holds c.check.ensures.stands c.region-region.ensures.sound c.args.addr y.not_vs r c.requires.found c.args.n false c.requires.leaves in
    subst (λ (m : ℕ). Always k (λ s. may_prepare s (now s k) k.number (acts.Sized c.args.addr m) ≡ true)) (sym c.size_of-size.ensures)
    (leave_may k c.args.addr (place_of r) (4096 * r.pages - r.mark.unused) c.args.n c.args.flags (back_slot ∷ vs_slot ∷ []) x.call x.holds.serving f c.check.ensures.stands)

pub give_both-requires-clause-used : goal.give_both-requires-clause-used
give_both-requires-clause-used c =
    let k = c.args.c.now in let y = c.requires.back in let x = y.has in
    subst (λ (t : Token). Always t (λ s. leaves_whole (now s t).state whats.Vs ≡ true)) (sym (c.prepare.ensures ∙ ap (λ (m : ℕ). with_prepared k (acts.Sized c.args.addr m)) c.size_of-size.ensures))
    (sized_used k x.call c.args.vs c.args.back x.holds c.check.ensures.stands c.region-region.ensures.sound c.args.addr y.not_vs c.args.run c.requires.found c.args.n x.used)

pub give_both-requires-clause-tells_vs : goal.give_both-requires-clause-tells_vs
give_both-requires-clause-tells_vs c =
    let k = c.args.c.now in let y = c.requires.back in let x = y.has in
    subst (λ (t : Token). Always t (λ s. StandsForVs t.opening (now s t).state (vss.layer_of c.args.vs))) (sym (c.prepare.ensures ∙ ap (λ (m : ℕ). with_prepared k (acts.Sized c.args.addr m)) c.size_of-size.ensures))
    (sized_vs k x.call c.args.vs c.args.back x.holds c.check.ensures.stands c.region-region.ensures.sound c.args.addr y.not_vs c.args.run c.requires.found c.args.n)

pub give_both-requires-clause-tells_back : goal.give_both-requires-clause-tells_back
give_both-requires-clause-tells_back c =
    let k = c.args.c.now in let y = c.requires.back in let x = y.has in
    subst (λ (t : Token). Always t (λ s. StandsForBack t.opening (now s t).state (backs.layer_of c.args.back))) (sym (c.prepare.ensures ∙ ap (λ (m : ℕ). with_prepared k (acts.Sized c.args.addr m)) c.size_of-size.ensures))
    (sized_back k x.call c.args.vs c.args.back x.holds c.check.ensures.stands c.region-region.ensures.sound c.args.addr y.not_vs c.args.run c.requires.found c.args.n)

pub returns : goal.returns
returns c =
    let k = c.args.c.now in let y = c.requires.back in let x = y.has in let r = c.args.run in let d = c.give_both.new.c in
    let f = back_found k x.call c.args.vs c.args.back x.holds c.check.ensures.stands c.region-region.ensures.sound c.args.addr y.not_vs r c.requires.found c.args.n false c.requires.leaves in
    let e = c.prepare.ensures ∙ ap (λ (m : ℕ). with_prepared k (acts.Sized c.args.addr m)) c.size_of-size.ensures in
    no_room_at k c.args.addr (place_of r) (4096 * r.pages - r.mark.unused) c.args.n c.args.flags (back_slot ∷ vs_slot ∷ []) x.call x.holds.serving f c.check.ensures.stands d (acts.GiveLock whats.Back ∷ acts.GiveLock whats.Vs ∷ []) refl refl
    (subst (λ (t : Token). HasEnded t d (acts.GiveLock whats.Back ∷ acts.GiveLock whats.Vs ∷ []) []) e c.give_both.ensures) c.check-2.ensures.legal c.requires.call (is_on c.args.flags.in_place c.if-not-flags.false)
