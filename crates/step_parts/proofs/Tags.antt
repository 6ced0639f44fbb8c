-- What a tag tells, and how a caller knows a subsegment: by a tag, or by the area that the state of the back end stands for.
use Rattle.std.proofs.Common.{◌+◌, ◌≡◌, ℕ, ◌≤◌, true, Option, Some, None, refl, sym, ap, ◌∙◌, subst, arith}
use Rattle.std.specs.Prelude.{unwrap_or, option_map, nat_le, nat_lt}
use Rattle.std.specs.List.{find}
use Rattle.std.proofs.lemmas.Bool.{and_parts, leb-true, ltb-true}
use Rattle.heap_model.specs.declared.Kind.TheVariants as kinds
use Rattle.heap_model.specs.declared.Limits.{Limits}
use Rattle.heap_model.specs.declared.Opening.{Opening}
use Rattle.heap_model.specs.declared.What.TheVariants as whats
use Rattle.heap_model.specs.State.{Area, BackPart, Span, holds}
use Rattle.heap_model.specs.Backend.{in_span}
use Rattle.heap_model.specs.CallState.{Configuration}
use Rattle.heap_model.specs.Agreement.{AgreesFor}
use Rattle.heap_model.specs.Layers.{LayerState, StandsForBack}
use Rattle.heap_soundness.specs.Sound.{IsOneOf}
use Rattle.heap_soundness.proofs.Lists.{found_in, found_passes, find_some}
use Rattle.heap_soundness.proofs.Spans.{same_span}
use Rattle.claim_rule.specs.Shown.{lfh_spans, tag_of, tag_word}
use Rattle.step_parts.specs.Seen.{IsSeen, IsTagged, bucket_of_tag, slot_of_tag, first_of_tag}
use Rattle.step_parts.proofs.FrontEnd.{IsFront}
use Rattle.step_parts.proofs.BlockWords.{in_lfh, into_lfh}

-- a tag that is that of the state and not 0 tells a subsegment
pub tagged : (l : Limits) (m : Configuration) (f : IsFront l m.state.back.area m.state.lfh) → l.slots ≤ 16 → (page word : ℕ) → word ≡ tag_word (lfh_spans m.state.back.area) page → (word ≡ 0 → ⊥) → IsTagged m page word
tagged l m f few page word e nz = by (find (in_span page) (lfh_spans m.state.back.area)) refl e
  where
    by : (w : Option Span) → find (in_span page) (lfh_spans m.state.back.area) ≡ w → word ≡ unwrap_or (option_map tag_of w) 0 → IsTagged m page word
    by None u v = absurd (nz v)
    by (Some x) u v =
        let there = found_in (in_span page) (lfh_spans m.state.back.area) x u in
        let is = in_lfh m.state.back.area.spans x there in
        let sound = f.spans x is.0 is.1 in
        let slot = sound.slot in
        record { span = x; there = there; has_page = found_passes (in_span page) (lfh_spans m.state.back.area) x u; tag = v; bucket = sound.bucket; slot = omega arith }

-- the word of a page of a subsegment is its tag
pub tag_is : (l : Limits) (m : Configuration) (f : IsFront l m.state.back.area m.state.lfh) (x : Span) (page : ℕ) → IsOneOf x (lfh_spans m.state.back.area) → in_span page x ≡ true → tag_word (lfh_spans m.state.back.area) page ≡ tag_of x
tag_is l m f x page there has =
    let r = find_some (in_span page) (lfh_spans m.state.back.area) x there has in
    let i = in_lfh m.state.back.area.spans r.0 (found_in (in_span page) (lfh_spans m.state.back.area) r.0 r.1) in
    let p = and_parts (nat_le r.0.first page) (nat_lt page (r.0.first + r.0.pages)) (found_passes (in_span page) (lfh_spans m.state.back.area) r.0 r.1) in
    let q = and_parts (nat_le x.first page) (nat_lt page (x.first + x.pages)) has in
    let same = same_span 0 m.state.back.area.spans r.0 x page f.order i.0 (in_lfh m.state.back.area.spans x there).0
    (leb-true r.0.first page p.0) (ltb-true page (r.0.first + r.0.pages) p.1) (leb-true x.first page q.0) (ltb-true page (x.first + x.pages) q.1) in
    ap (λ (o : Option Span). unwrap_or (option_map tag_of o) 0) r.1 ∙ ap tag_of same

---- A caller has seen a subsegment

-- the parts of a tag are those of its subsegment
pub tag_parts : (m : Configuration) (page word : ℕ) (h : IsTagged m page word) → (h.span.first ≡ first_of_tag word) × (h.span.bucket ≡ bucket_of_tag word) × (h.span.slot ≡ slot_of_tag word)
tag_parts m page word h =
    let tag = h.tag in
    let high = h.bucket.1 in
    let few = h.slot in (omega arith, omega arith, omega arith)

-- .. by a tag
pub seen_by_tag : (m : Configuration) (page word : ℕ) → IsTagged m page word → IsSeen m (first_of_tag word) (bucket_of_tag word) (slot_of_tag word)
seen_by_tag m page word h =
    let p = tag_parts m page word h in
    record { span = h.span; there = h.there; begins = p.0; bucket = p.1; slot = p.2 }

-- .. by the area
pub seen_in_area : (m : Configuration) (x : Span) → IsOneOf x m.state.back.area.spans → x.kind ≡ kinds.Lfh → IsSeen m x.first x.bucket x.slot
seen_in_area m x i is = record { span = x; there = into_lfh m.state.back.area.spans x i is; begins = refl; bucket = refl; slot = refl }

-- .. by the state of the back end that it holds
pub seen_by_back : (o : Opening) (m : Configuration) (t : LayerState) (x : Span) → StandsForBack o m.state t → IsOneOf x t.back.area.spans → x.kind ≡ kinds.Lfh → IsSeen m x.first x.bucket x.slot
seen_by_back o m t x h i is = seen_in_area m x (subst (λ (a : Area). IsOneOf x a.spans) (ap (λ (b : BackPart). b.area) h.part) i) is

-- what the holder of Back knows of subsegments is so in the history
pub seen_agrees : (n head b t : ℕ) (m k : Configuration) → AgreesFor n m k → holds k.state.gate n whats.Back ≡ true → IsSeen k head b t → IsSeen m head b t
seen_agrees n head b t m k r held h = record { span = h.span; there = subst (λ (p : BackPart). IsOneOf h.span (lfh_spans p.area)) (sym (r.back held)) h.there; begins = h.begins; bucket = h.bucket; slot = h.slot }
