use Rattle.std.proofs.Common.{◌≡◌, ℕ, ◌/◌, ◌∙◌, true, refl, sym, ap, subst, arith}
use Rattle.heap_model.specs.declared.Act.TheVariants as acts
use Rattle.heap_model.specs.State.{Place, address}
use Rattle.claim_rule.specs.Entries.{may_prepare}
use Rattle.heap_gate.specs.Token.{Token, Always, now}
use Rattle.heap_gate.specs.Calls.{with_prepared, rested, HasRested}
use Rattle.call_parts.specs.Entries.{HasNew, HasHandedOver}
use Rattle.call_parts.proofs.Handing.{new_place, as_new, zeroed, give_may, give_rests, handed_over}
use Rattle.call_parts.proofs.entries.hand_over.Goals as goal

pub prepare-requires-clause-may : goal.prepare-requires-clause-may
prepare-requires-clause-may c =
    let a = c.args.c.now in let b = c.zero_words.new.c in let p = c.requires.new.0 in let h = c.requires.new.1 in let addr = c.args.addr in let n = c.args.n in
    let new : HasNew a (new_place a.number p.layer p.start p.granules) addr n = subst (λ (x : Place). HasNew a x addr n) (as_new a.number p h.status) h in
    let z = zeroed a b (c.args.addr / 8) c.div_ceil.result c.args.zero h.whole c.zero_words.ensures in
    subst (λ (x : ℕ). Always b (λ s. may_prepare s (now s b) b.number (acts.Give x n) ≡ true)) new.at
    (give_may a b p.layer p.start p.granules addr n (c.args.addr / 8) c.div_ceil.result c.args.zero new z c.check.ensures.stands)

pub rest-requires : goal.rest-requires
rest-requires c =
    let a = c.args.c.now in let b = c.zero_words.new.c in let p = c.requires.new.0 in let h = c.requires.new.1 in let addr = c.args.addr in let n = c.args.n in
    let new : HasNew a (new_place a.number p.layer p.start p.granules) addr n = subst (λ (x : Place). HasNew a x addr n) (as_new a.number p h.status) h in
    let z = zeroed a b (c.args.addr / 8) c.div_ceil.result c.args.zero h.whole c.zero_words.ensures in
    let e : c.prepare.new.c ≡ with_prepared b (acts.Give (address (new_place a.number p.layer p.start p.granules)) n) = c.prepare.ensures ∙ ap (λ (x : ℕ). with_prepared b (acts.Give x n)) (sym new.at) in
    record { rests = subst (λ (t : Token). Always t (λ s. HasRested (now s t) t.number)) (sym e) (give_rests a b p.layer p.start p.granules addr n (c.args.addr / 8) c.div_ceil.result c.args.zero new z c.check.ensures.stands) }

pub returns : goal.returns
returns c = λ p h.
    let a = c.args.c.now in let b = c.zero_words.new.c in let addr = c.args.addr in let n = c.args.n in
    let same = as_new a.number p h.status in
    let new : HasNew a (new_place a.number p.layer p.start p.granules) addr n = subst (λ (x : Place). HasNew a x addr n) same h in
    let z = zeroed a b (c.args.addr / 8) c.div_ceil.result c.args.zero h.whole c.zero_words.ensures in
    let e : c.rest.new.c ≡ rested (with_prepared b (acts.Give (address (new_place a.number p.layer p.start p.granules)) n)) =
    c.rest.ensures ∙ ap rested (c.prepare.ensures ∙ ap (λ (x : ℕ). with_prepared b (acts.Give x n)) (sym new.at)) in
    subst (λ (t : Token). HasHandedOver a t p n c.args.zero) (sym e)
    (subst (λ (x : Place). HasHandedOver a (rested (with_prepared b (acts.Give (address (new_place a.number p.layer p.start p.granules)) n))) x n c.args.zero) (sym same)
    (handed_over a b p.layer p.start p.granules addr n (c.args.addr / 8) c.div_ceil.result c.args.zero new z c.check.ensures.stands refl (omega (arith, c.div_ceil.ensures))))
