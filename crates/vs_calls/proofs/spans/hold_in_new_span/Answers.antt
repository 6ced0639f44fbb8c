use Rattle.std.proofs.Common.{◌≡◌, ℕ, ◌*◌, true, sym, ap, subst, ◌∙◌, arith}
use Rattle.std.specs.List.{AllByRecursion}
use Rattle.heap_model.specs.declared.Limits.{Limits}
use Rattle.heap_model.specs.State.{insert_span}
use Rattle.claim_rule.specs.Entries.{are_prepared}
use Rattle.call_laws.specs.Within.{by_all}
use Rattle.page_region.specs.Held.{Held}
use Rattle.heap_gate.specs.Token.{Always, now}
use Rattle.vs_layer.specs.Effects.{LieApart}
use Rattle.vs_layer.specs.Kept.{vs_span}
use Rattle.vs_calls.specs.Parts.{span_acts}
use Rattle.vs_calls.proofs.NewGap.{has_room}
use Rattle.vs_calls.proofs.NewPages.{span_pages, lies_apart}
use Rattle.vs_calls.proofs.NewHeld.{least_pages, most_pages, same_spans, same_limits, found_new, range, held_anew}
use Rattle.vs_calls.proofs.spans.hold_in_new_span.Goals as goal

pub add_span-requires-clause-pages : goal.add_span-requires-clause-pages
add_span-requires-clause-pages c =
    let e = c.span_pages-pages.ensures in
    let least = least_pages c.args.n in
    let most = most_pages c.args.n c.requires.size in
    let all = c.heads-heads.ensures.granules ∙ ap (λ (l : Limits). 65536 * l.segments) (same_limits c.args.c.now c.args.vs.now c.args.back.now c.requires.tells_vs c.requires.tells_back) in
    span_pages c.args.back.now c.take.new.self c.in-Some.first c.span_pages-pages.result c.descs-descs.ensures.sound c.in-Some.ensures.spans c.args.vs.now.chunks all (ap (λ (l : Limits). l.segments) c.take.ensures.limits)
    (omega (arith, e, least)) (omega (arith, e, most))

pub add_span-requires-clause-apart : goal.add_span-requires-clause-apart
add_span-requires-clause-apart c =
    lies_apart c.args.back.now c.take.new.self c.in-Some.first c.span_pages-pages.result c.descs-descs.ensures.sound c.in-Some.ensures.spans c.args.vs.now
    (same_spans c.args.c.now c.args.vs.now c.args.back.now c.requires.tells_vs c.requires.tells_back)

pub place-addr-requires-clause-fits : goal.place-addr-requires-clause-fits
place-addr-requires-clause-fits c =
    let e = c.span_pages-pages.ensures in
    let apart = lies_apart c.args.back.now c.take.new.self c.in-Some.first c.span_pages-pages.result c.descs-descs.ensures.sound c.in-Some.ensures.spans c.args.vs.now
    (same_spans c.args.c.now c.args.vs.now c.args.back.now c.requires.tells_vs c.requires.tells_back) in
    has_room c.args.vs.now c.add_span.new.self c.args.n c.in-Some.first c.requires.no_gap (subst (λ (p : ℕ). AllByRecursion (LieApart c.in-Some.first p) c.args.vs.now.spans) e apart) c.heads-heads.ensures.inside
    (c.add_span.ensures.spans ∙ ap (λ (p : ℕ). insert_span (vs_span c.in-Some.first p) c.args.vs.now.spans) e) c.add_span.ensures.places

pub prepare_in_span-requires-clause-block : goal.prepare_in_span-requires-clause-block
prepare_in_span-requires-clause-block c =
    let k = c.args.c.now in
    let x = c.place-addr.ensures.placed in
    let r = c.reserved-reserved.ensures.reserved ∙ ap (λ (y : Held). y.reserved) c.region.ensures.region in
    let goes = range c.args.vs.now c.add_span.new.self c.place-addr.new.self c.args.back.now c.args.n c.place-addr.result c.in-Some.first c.span_pages-pages.result c.requires.no_gap c.span_pages-pages.ensures (sym c.in-Some.is ∙ c.take.ensures.place)
    c.add_span.ensures.spans c.add_span.ensures.places x in (
      x.run,
      x.address,
      found_new k c.args.vs.now c.args.back.now c.requires.tells_vs c.requires.tells_back c.add_span.new.self c.place-addr.new.self c.args.n c.place-addr.result c.add_span.ensures.places x,
      subst (λ (y : ℕ). Always k (λ s. are_prepared s (now s k) k.number (by_all k.number (span_acts y c.in-Some.first c.args.n x.run)) ≡ true)) (sym r) (c.requires.may c.in-Some.first x.run goes),
    )

pub returns-clause-held : goal.returns-clause-held
returns-clause-held c =
    let k = c.args.c.now in
    let x = c.place-addr.ensures.placed in
    let r = c.reserved-reserved.ensures.reserved ∙ ap (λ (y : Held). y.reserved) c.region.ensures.region in
    held_anew k c.prepare_in_span.new.c c.args.vs.now c.add_span.new.self c.place-addr.new.self c.args.back.now c.take.new.self c.args.n c.place-addr.result c.in-Some.first c.span_pages-pages.result c.reserved-reserved.result c.requires.no_gap c.span_pages-pages.ensures
    (sym c.in-Some.is ∙ c.take.ensures.place) c.add_span.ensures.spans c.add_span.ensures.places x r
    (found_new k c.args.vs.now c.args.back.now c.requires.tells_vs c.requires.tells_back c.add_span.new.self c.place-addr.new.self c.args.n c.place-addr.result c.add_span.ensures.places x)
    (c.prepare_in_span.ensures x.run x.address (found_new k c.args.vs.now c.args.back.now c.requires.tells_vs c.requires.tells_back c.add_span.new.self c.place-addr.new.self c.args.n c.place-addr.result c.add_span.ensures.places x))
    c.add_span.ensures.stands (c.place-addr.ensures.stands x.run x.place) c.in-Some.ensures.stands
