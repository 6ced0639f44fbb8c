use Rattle.std.proofs.Common.{◌≡◌, ◌*◌, [], length, replicate, false, rules, refl, ap, ◌∙◌}
use Rattle.std.proofs.lemmas.List.{length-replicate}
use Rattle.vs_split.specs.Chunks.{Chunks}
use Rattle.vs_layer.specs.Sound.{spans_from}
use Rattle.vs_layer.proofs.Opening.{opening_sound}
use Rattle.vs_layer.proofs.Spans.{spans_none}
use Rattle.vs_layer.proofs.Standing.{opens}
use Rattle.vs_layer.proofs.Body.new.Goals as goal

pub invariant_of-result : goal.invariant_of-result
invariant_of-result c = (
  opening_sound _ _ _ _ c.args.limits.now.segments (record {
    few = c.requires.segments;
    spans = refl;
    told_none = search rules;
    no_heads = ap (λ (v : Chunks). v.heads) c.in_ok-new.ensures;
    index = c.in_ok-new-2.ensures;
    live_none = c.in_ok-new-3.ensures.live;
    served = c.in_ok-new-3.ensures.served;
    active = search rules;
  }),
  search rules,
  search rules,
  c.in_ok-new-3.ensures.full.0,
  c.in_ok-new-3.ensures.full.1,
  (let none : c.in_ok-filled.field-0.items ≡ replicate (256 * c.args.limits.now.segments) 0 = search rules in ap length none ∙ length-replicate (256 * c.args.limits.now.segments) 0),
)

pub returns-clause-nothing : goal.returns-clause-nothing
returns-clause-nothing c =
    let none : c.in_ok-filled.field-0.items ≡ replicate (256 * c.args.limits.now.segments) 0 = search rules in
    let spans : spans_from 0 c.in_ok-filled.field-0.items ≡ [] = ap (spans_from 0) none ∙ spans_none 0 (256 * c.args.limits.now.segments) in
    let active : c.in_ok-filled-2.field-0.items ≡ replicate 129 false = search rules in
    λ i. record { limits = c.args.limits.now; spans = spans i; chunks = c.in_ok-new.ensures i; served = c.in_ok-new-3.ensures.served i; active = active i }

pub returns-clause-stands : goal.returns-clause-stands
returns-clause-stands c = opens c.args.limits.now c.args.key _ (returns-clause-nothing c)
