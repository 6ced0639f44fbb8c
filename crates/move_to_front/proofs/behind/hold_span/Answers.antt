use Rattle.std.proofs.Common.{ℕ, ◌+◌, ◌/◌, ◌≤◌, sym, ap, subst, ◌∙◌, length, arith}
use Rattle.std.specs.Prelude.{is_some, option_and_then}
use Rattle.heap_model.specs.declared.Limits.{Limits}
use Rattle.heap_model.specs.declared.Opening.{Opening}
use Rattle.heap_model.specs.Geometry.{words_of}
use Rattle.heap_model.specs.Limits.{AreValid}
use Rattle.heap_model.specs.State.{Place, live_size}
use Rattle.claim_rule.specs.Places.{data_count}
use Rattle.search_laws.proofs.Blocks.{bucket_fits}
use Rattle.vs_calls.specs.Blocks.{LiesWithin}
use Rattle.move_to_front.proofs.LateGap.{vs_without}
use Rattle.move_to_front.proofs.LateSpan.{span_ready, anew_limits, anew_opening, anew_held}
use Rattle.move_to_front.proofs.MovingOn.{going_on}
use Rattle.move_to_front.proofs.behind.hold_span.Goals as goal

pub hold_in_new_span-requires-clause-size : goal.hold_in_new_span-requires-clause-size
hold_in_new_span-requires-clause-size c = let l = (bucket_fits c.args.n c.args.bucket c.requires.bucket).0 in omega (arith, l)

pub hold_in_new_span-requires-clause-room : goal.hold_in_new_span-requires-clause-room
hold_in_new_span-requires-clause-room c = let e = ap length (going_on c.requires.moving.0 c.args.c.now c.requires.moving.1 c.requires.moving.2 c.args.n c.requires.moving.3 c.requires.moving.4 c.requires.moving.5 c.requires.moving.6).prepared in omega (arith, e)

pub hold_in_new_span-requires-clause-tells_vs : goal.hold_in_new_span-requires-clause-tells_vs
hold_in_new_span-requires-clause-tells_vs c = c.requires.moving.8.tells

pub hold_in_new_span-requires-clause-tells_back : goal.hold_in_new_span-requires-clause-tells_back
hold_in_new_span-requires-clause-tells_back c = c.requires.moving.10

pub hold_in_new_span-requires-clause-may : goal.hold_in_new_span-requires-clause-may
hold_in_new_span-requires-clause-may c =
    let h = c.requires.moving in
    span_ready c.args.c.now h.0 h.1 h.2 c.args.n h.3 h.4 h.5 h.6 c.check.ensures.stands h.7 c.args.vs.now h.8 h.9 c.args.back.now h.10 c.args.bucket c.requires.bucket c.requires.cannot c.region-region.ensures.sound c.heads-heads.ensures.inside

pub returns-in_default-clause-none : goal.returns-in_default-clause-none
returns-in_default-clause-none c =
    let h = c.requires.moving in let x = c.in_default.ensures.none in (
      vs_without c.args.c.now h.0 h.1 h.2 c.args.n h.3 h.4 h.5 h.6 c.check.ensures.stands h.7 c.args.vs.now h.8 h.9 c.args.back.now h.10 c.args.bucket c.requires.bucket c.requires.cannot c.requires.no_gap x.no_pages c.hold_in_new_span.new.c x.same,
      x.same_vs,
      x.same_back,
    )

pub lies_within-requires : goal.lies_within-requires
lies_within-requires c = ap is_some (ap (option_and_then (λ (p : Place). live_size p.status)) c.in-Some.ensures.held.there)

pub returns-clause-held : goal.returns-clause-held
returns-clause-held c = λ taken addr size flags p out v held w back_out wb.
    let k = c.args.c.now in let n = c.args.n in let x = c.in-Some.ensures.held in let b = c.in-Some.b in let t = c.hold_in_new_span.new.c in
    let valid : AreValid k.opening.limits = subst AreValid (c.limits-limits.ensures.limits ∙ ap (λ (o : Opening). o.limits) (sym c.requires.opening)) c.limits-limits.ensures.valid in
    let lies = c.lies_within.ensures n (ap (option_and_then (λ (p : Place). live_size p.status)) x.there) in
    let st = c.check.ensures.stands in let sound = c.region-region.ensures.sound in let legal = c.check.ensures.legal in let inside = c.heads-heads.ensures.inside in
    let l = anew_limits k taken addr size n flags p out v st held c.args.vs.now w back_out c.args.back.now wb c.args.bucket c.requires.bucket c.requires.cannot sound inside t c.hold_in_new_span.new.vs c.hold_in_new_span.new.back b x valid legal in
    let o = anew_opening k taken addr size n flags p out v st held c.args.vs.now w back_out c.args.back.now wb c.args.bucket c.requires.bucket c.requires.cannot sound inside t c.hold_in_new_span.new.vs c.hold_in_new_span.new.back b x valid legal in
    let to = subst (λ (a : ℕ). a / 8 + words_of n ≤ data_count k.opening.limits) x.at (subst (λ (y : Limits). LiesWithin y b n) (l ∙ ap (λ (z : Opening). z.limits) o) lies) in
    anew_held k taken addr size n flags p out v st held c.args.vs.now w back_out c.args.back.now wb c.args.bucket c.requires.bucket c.requires.cannot sound inside t c.hold_in_new_span.new.vs c.hold_in_new_span.new.back b x valid legal to
