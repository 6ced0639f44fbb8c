use Rattle.std.proofs.Common.{◌≡◌, ℕ, true, [], ◌∷◌, sym, ap, subst, ◌∙◌}
use Rattle.std.specs.Prelude.{IsSome}
use Rattle.heap_model.specs.declared.Act.TheVariants as acts
use Rattle.heap_model.specs.Search.{span_at}
use Rattle.claim_rule.specs.Entries.{are_prepared}
use Rattle.call_laws.specs.Within.{by_all}
use Rattle.backend_fit.specs.Effects.{part_without}
use Rattle.backend_fit.specs.Kept.{area_of, Becomes}
use Rattle.heap_gate.specs.Calls.{HasRested, rested}
use Rattle.heap_gate.specs.Token.{Token, Always, now}
use Rattle.call_parts.specs.Entries.{with_all}
use Rattle.move_parts.proofs.Backed.{back_span, four_may, four_rest, ends_back}
use Rattle.move_parts.proofs.ends.end_back.Goals as goal

pub prepare_all-requires-clause-may : goal.prepare_all-requires-clause-may
prepare_all-requires-clause-may c =
    let h = c.requires.halfway in let k = c.args.c.now in
    subst (λ (y : ℕ). Always k (λ s. are_prepared s (now s k) k.number (by_all k.number (acts.Take c.args.addr c.args.size ∷ acts.Give c.args.b c.args.n ∷ acts.Drop c.args.addr ∷ acts.Unspan y ∷ [])) ≡ true)) (sym c.requires.page)
    (four_may k h.0 c.args.addr c.args.size c.args.b c.args.n h.1 h.2 h.3 h.4 c.check.ensures.stands h.5 c.args.back.now h.6 c.region-region.ensures.sound)

pub rest-requires : goal.rest-requires
rest-requires c =
    let h = c.requires.halfway in let k = c.args.c.now in
    let e = c.prepare_all.ensures ∙ ap (λ (y : ℕ). with_all k (acts.Take c.args.addr c.args.size ∷ acts.Give c.args.b c.args.n ∷ acts.Drop c.args.addr ∷ acts.Unspan y ∷ [])) c.requires.page in
    record {
      rests = subst (λ (t : Token). Always t (λ s. HasRested (now s t) t.number)) (sym e)
          (four_rest k h.0 c.args.addr c.args.size c.args.b c.args.n h.1 h.2 h.3 h.4 c.check.ensures.stands h.5 c.args.back.now h.6 c.region-region.ensures.sound);
    }

pub give-requires : goal.give-requires
give-requires c =
    let h = c.requires.halfway in
    subst (λ (y : ℕ). IsSome (span_at (area_of c.args.back.now) y)) (sym c.requires.page)
    (back_span c.args.c.now h.0 c.args.addr c.args.size c.args.b c.args.n h.1 h.2 h.3 h.4 c.check.ensures.stands h.5 c.args.back.now h.6 c.region-region.ensures.sound)

pub returns : goal.returns
returns c = λ call p q out h is_back w.
    let k = c.args.c.now in
    let e = c.rest.ensures ∙ ap rested (c.prepare_all.ensures ∙ ap (λ (y : ℕ). with_all k (acts.Take c.args.addr c.args.size ∷ acts.Give c.args.b c.args.n ∷ acts.Drop c.args.addr ∷ acts.Unspan y ∷ [])) c.requires.page) in
    ends_back k call c.args.addr c.args.size c.args.b c.args.n p q out h c.check.ensures.stands is_back c.args.back.now w c.region-region.ensures.sound c.rest.new.c e c.give.new.self
    (subst (λ (y : ℕ). Becomes c.args.back.now c.give.new.self (λ (x : Rattle.heap_model.specs.State.BackPart). part_without x y)) c.requires.page c.give.ensures.stands)
