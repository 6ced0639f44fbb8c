use Rattle.std.proofs.Common.{◌≡◌, ℕ, true, ◌∙◌, sym, ap, subst, arith}
use Rattle.std.specs.Prelude.{IsSome}
use Rattle.heap_model.specs.declared.Act.TheVariants as acts
use Rattle.heap_model.specs.Search.{span_at}
use Rattle.claim_rule.specs.Entries.{may_prepare}
use Rattle.backend_fit.specs.Effects.{part_without}
use Rattle.backend_fit.specs.Kept.{area_of, Becomes}
use Rattle.heap_gate.specs.Calls.{HasRested, rested, with_prepared}
use Rattle.heap_gate.specs.Token.{Token, Always, now}
use Rattle.move_to_front.proofs.Ended.{one_prepared}
use Rattle.move_to_front.proofs.BackEnded.{back_span, unspan_ok, unspan_rest, ends_back}
use Rattle.move_to_front.proofs.ends.end_back.Goals as goal

pub swap-requires-clause-halfway : goal.swap-requires-clause-halfway
swap-requires-clause-halfway c = let h = c.requires.halfway in (h.0, h.1, h.2, h.3, h.4)

pub prepare-requires-clause-room : goal.prepare-requires-clause-room
prepare-requires-clause-room c =
    let h = c.requires.halfway in
    let one = one_prepared c.args.c.now c.swap.new.c h.0 c.args.addr c.args.size c.args.b c.args.n h.1 h.2 h.3 h.4 c.check.ensures.stands (c.swap.ensures h.0 h.1 h.2 h.3 h.4) in
    omega (arith, one)

pub prepare-requires-clause-may : goal.prepare-requires-clause-may
prepare-requires-clause-may c =
    let h = c.requires.halfway in let e = c.swap.new.c in
    subst (λ (y : ℕ). Always e (λ s. may_prepare s (now s e) e.number (acts.Unspan y) ≡ true)) (sym c.requires.page)
    (unspan_ok c.args.c.now e h.0 c.args.addr c.args.size c.args.b c.args.n h.1 h.2 h.3 h.4 c.check.ensures.stands (c.swap.ensures h.0 h.1 h.2 h.3 h.4) c.check-2.ensures.stands h.5 c.args.back.now h.6 c.region-region.ensures.sound)

pub rest-requires : goal.rest-requires
rest-requires c =
    let h = c.requires.halfway in let e = c.swap.new.c in
    let is = c.prepare.ensures ∙ ap (λ (y : ℕ). with_prepared e (acts.Unspan y)) c.requires.page in
    record {
      rests = subst (λ (t : Token). Always t (λ s. HasRested (now s t) t.number)) (sym is)
          (unspan_rest c.args.c.now e h.0 c.args.addr c.args.size c.args.b c.args.n h.1 h.2 h.3 h.4 c.check.ensures.stands (c.swap.ensures h.0 h.1 h.2 h.3 h.4) c.check-2.ensures.stands h.5 c.args.back.now h.6 c.region-region.ensures.sound);
    }

pub give-requires : goal.give-requires
give-requires c =
    let h = c.requires.halfway in let e = c.swap.new.c in
    subst (λ (y : ℕ). IsSome (span_at (area_of c.args.back.now) y)) (sym c.requires.page)
    (back_span c.args.c.now e h.0 c.args.addr c.args.size c.args.b c.args.n h.1 h.2 h.3 h.4 c.check.ensures.stands (c.swap.ensures h.0 h.1 h.2 h.3 h.4) c.check-2.ensures.stands h.5 c.args.back.now h.6 c.region-region.ensures.sound)

pub returns : goal.returns
returns c = λ call p q out h is_back w.
    let e = c.swap.new.c in
    let is = c.rest.ensures ∙ ap rested (c.prepare.ensures ∙ ap (λ (y : ℕ). with_prepared e (acts.Unspan y)) c.requires.page) in
    ends_back c.args.c.now e call c.args.addr c.args.size c.args.b c.args.n p q out h c.check.ensures.stands (c.swap.ensures call p q out h) c.check-2.ensures.stands is_back c.args.back.now w c.region-region.ensures.sound c.rest.new.c is c.give.new.self
    (subst (λ (y : ℕ). Becomes c.args.back.now c.give.new.self (λ (x : Rattle.heap_model.specs.State.BackPart). part_without x y)) c.requires.page c.give.ensures.stands)
