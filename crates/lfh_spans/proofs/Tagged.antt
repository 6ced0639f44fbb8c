-- What the words of a new subsegment are in the state behind its first place: its tags, and the hint.
use Rattle.std.proofs.Common.{◌≡◌, ℕ, zero, suc, length, ◌+◌, ◌-◌, ◌*◌, ◌/◌, ◌<◌, ◌≤◌, Bool, true, false, List, [], ◌∷◌, Option, Some, refl, sym, ap, ◌∙◌, subst, arith, inl, inr, eq-eqb}
use Rattle.std.specs.Prelude.{nat_lt, nat_le, unwrap_or, option_map}
use Rattle.std.specs.List.{find}
use Rattle.std.proofs.lemmas.Bool.{cases_Bool, and_parts, and_from, leb-true, ltb-true, le-leb, lt-ltb}
use Rattle.heap_model.specs.declared.Kind.TheVariants as kinds
use Rattle.heap_model.specs.declared.Layer.TheVariants as layers
use Rattle.heap_model.specs.declared.Run as real
use Rattle.heap_model.specs.declared.What.TheVariants as whats
use Rattle.heap_model.specs.Buckets.{bucket_pages, block_size, block_address, block_count}
use Rattle.heap_model.specs.Marks.{lfh_mark}
use Rattle.heap_model.specs.State.{Setting, Area, BackPart, Span, holds, insert_span, is_kind}
use Rattle.heap_model.specs.Backend.{in_span}
use Rattle.heap_model.specs.CallState.{Configuration, SpanHistory}
use Rattle.heap_model.specs.Legal.{with_span, is_lfh_over, hints_with, put_maker, span_history_placed}
use Rattle.heap_model.specs.History.{configuration_after}
use Rattle.heap_soundness.specs.Sound.{IsOneOf, AreInOrder}
use Rattle.heap_soundness.proofs.Lists.{found_in, found_passes, find_some}
use Rattle.heap_soundness.proofs.Spans.{same_span}
use Rattle.page_ranges.specs.Words.{runs_of}
use Rattle.page_ranges.specs.Ranges.{AreRuns}
use Rattle.page_ranges.specs.Spans.{is_of_span, span_of, spans_in}
use Rattle.serial_laws.specs.BackCalls.{one_more_reserved}
use Rattle.claim_rule.specs.Shown.{lfh_spans, tag_of, tag_word}
use Rattle.lfh_buckets.proofs.Seats.{block_end}
use Rattle.step_parts.proofs.BlockWords.{in_lfh, into_lfh}
use Rattle.span_steps.proofs.NewSubsegment.{in_inserted}
use Rattle.backend_fit.specs.Kept.{Kept, area_of}
use Rattle.backend_fit.specs.Sound.{IsSound}
use Rattle.backend_fit.specs.Effects.{part_with, with_segment, marked_run}
use Rattle.lfh_spans.specs.Stores.{reserving_in, made_with}
use Rattle.lfh_spans.proofs.Installing.{new_span}

---- Spans in order

lower : (low from : ℕ) (xs : List Span) → low ≤ from → AreInOrder from xs → AreInOrder low xs
lower low from [] l h = tt
lower low from (x ∷ xs) l h = ((let a = h.0 in omega arith), h.1, h.2)

in_order : (words : List ℕ) (from to : ℕ) (rs : List real.Run) → AreRuns words from to rs → AreInOrder from (spans_in rs)
in_order words from to [] h = tt
in_order words from to (r ∷ rs) h = elim (cases_Bool (is_of_span r.mark.kind)) [
  | inl e ↦ let a = h.0 in rw e ((omega arith), h.1.some, subst (λ (x : ℕ). AreInOrder (x + r.pages) (spans_in rs)) (sym h.0) (in_order words (from + r.pages) to rs h.2))
  | inr e ↦ rw e (lower from (from + r.pages) (spans_in rs) (omega arith) (in_order words (from + r.pages) to rs h.2))
]

-- those of a back end are
pub spans_in_order : (k : Kept) → IsSound k → AreInOrder 0 (area_of k).spans
spans_in_order k h = in_order k.words 0 (length k.words) (runs_of k.words) h.whole

-- the word of a page of a subsegment is its tag
pub tag_in_order : (a : Area) (x : Span) (page : ℕ) → AreInOrder 0 a.spans → IsOneOf x (lfh_spans a) → in_span page x ≡ true → tag_word (lfh_spans a) page ≡ tag_of x
tag_in_order a x page order there has =
    let r = find_some (in_span page) (lfh_spans a) x there has in
    let i = in_lfh a.spans r.0 (found_in (in_span page) (lfh_spans a) r.0 r.1) in
    let p = and_parts (nat_le r.0.first page) (nat_lt page (r.0.first + r.0.pages)) (found_passes (in_span page) (lfh_spans a) r.0 r.1) in
    let q = and_parts (nat_le x.first page) (nat_lt page (x.first + x.pages)) has in
    let same = same_span 0 a.spans r.0 x page order i.0 (in_lfh a.spans x there).0
    (leb-true r.0.first page p.0) (ltb-true page (r.0.first + r.0.pages) p.1) (leb-true x.first page q.0) (ltb-true page (x.first + x.pages) q.1) in
    ap (λ (o : Option Span). unwrap_or (option_map tag_of o) 0) r.1 ∙ ap tag_of same

---- Behind the first place

module _ (a : Area) (first b t : ℕ) (order : AreInOrder 0 (with_span (with_segment a first) (new_span first b t)).spans) where
  abbrev next : Area
  next = with_span (with_segment a first) (new_span first b t)

  there : IsOneOf (new_span first b t) (insert_span (new_span first b t) a.spans)
  there = in_inserted (new_span first b t) a.spans

  pub tags_behind : (page : ℕ) → first ≤ page → page < first + bucket_pages b → tag_word (lfh_spans next) page ≡ 1 + 256 * b + 65536 * t + 4294967296 * first
  tags_behind page low high = tag_in_order next (new_span first b t) page order (into_lfh next.spans (new_span first b t) there refl)
      (and_from (nat_le first page) (nat_lt page (first + bucket_pages b)) (le-leb first page low) (lt-ltb page (first + bucket_pages b) high))

  module _ (i : ℕ) (below : i < block_count b) where
    abbrev start : ℕ
    start = block_address b first i

    over : is_lfh_over (block_address b first i) (new_span first b t) ≡ true
    over =
        let e = block_end b first i below in
        and_from (nat_le first (start / 4096)) (nat_lt (start / 4096) (first + bucket_pages b)) (le-leb first (start / 4096) (omega arith)) (lt-ltb (start / 4096) (first + bucket_pages b) (within start (first + bucket_pages b) (block_size b) (some b i below) e))
      where
        within : (y p size : ℕ) → 0 < size → y + size ≤ 4096 * p → y / 4096 < p
        within y p size s l = omega arith

        some : (b i : ℕ) → i < block_count b → 0 < block_size b
        some b i l = by (block_size b) l
          where
            by : (z : ℕ) → i < (4096 * bucket_pages b - 64) / z → 0 < z
            by zero l = absurd (omega arith)
            by (suc z) l = omega arith

    found : find (is_lfh_over start) next.spans ≡ Some (new_span first b t)
    found =
        let r = find_some (is_lfh_over start) next.spans (new_span first b t) there over in
        let p = and_parts (is_kind r.0.kind kinds.Lfh) (in_span (start / 4096) r.0) (found_passes (is_lfh_over start) next.spans r.0 r.1) in
        let p1 = and_parts (nat_le r.0.first (start / 4096)) (nat_lt (start / 4096) (r.0.first + r.0.pages)) p.1 in
        let q = and_parts (nat_le first (start / 4096)) (nat_lt (start / 4096) (first + bucket_pages b)) over in
        let same = same_span 0 next.spans r.0 (new_span first b t) (start / 4096) order (found_in (is_lfh_over start) next.spans r.0 r.1) there
        (leb-true r.0.first (start / 4096) p1.0) (ltb-true (start / 4096) (r.0.first + r.0.pages) p1.1) (leb-true first (start / 4096) q.0) (ltb-true (start / 4096) (first + bucket_pages b) q.1) in
        r.1 ∙ ap Some same

    pub hint_behind : (hints : ℕ → ℕ → Option ℕ) → hints_with hints (find (is_lfh_over start) next.spans) b t ≡ Some first
    hint_behind hints =
        ap (λ (o : Option Span). hints_with hints o b t) found
        ∙ (let e1 = eq-eqb b b refl in let e2 = eq-eqb t t refl in rw (e1, e2) refl)

---- The state behind the entries of a subsegment that is made

kept : (a : Area) (first : ℕ) → nat_lt (first / 256) a.reserved ≡ true → with_segment a first ≡ a
kept a first e = rw e refl

one_more : (a : Area) (first : ℕ) → nat_lt (first / 256) a.reserved ≡ false → with_segment a first ≡ one_more_reserved a
one_more a first e = rw e refl

-- a place under Back moves the hint
placed_hint : (a : Area) (r : SpanHistory) (start : ℕ) (back : Bool) → back ≡ true → (span_history_placed a r start back layers.Lfh).hints ≡ hints_with r.hints (find (is_lfh_over start) a.spans)
placed_hint a r start back e = rw e refl

module _ (s : Setting) (m : Configuration) (n first b t i : ℕ) (held : holds m.state.gate n whats.Back ≡ true) where
  abbrev behind : Configuration
  behind = configuration_after s m (made_with n (reserving_in n m.state.back.area.reserved first) first (bucket_pages b) b t i)

  -- the gate, the back end, and the hints
  pub record IsBehind (k : Configuration) : Type 0 where
    pub gate : k.state.gate ≡ m.state.gate
    pub back : k.state.back ≡ part_with m.state.back (marked_run first (bucket_pages b) (lfh_mark b t))
    pub hints : k.now.span_history.hints ≡ hints_with m.now.span_history.hints (find (is_lfh_over (block_address b first i)) (with_span (with_segment m.state.back.area first) (new_span first b t)).spans)

  pub is_behind : IsBehind (configuration_after s m (made_with n (reserving_in n m.state.back.area.reserved first) first (bucket_pages b) b t i))
  is_behind = elim (cases_Bool (nat_lt (first / 256) m.state.back.area.reserved)) [
    | inl e ↦ rw e (record { gate = refl; back = ap made (sym (kept m.state.back.area first e)); hints = placed_hint (with_span m.state.back.area (new_span first b t)) (put_maker m.now.span_history n first kinds.Lfh) (block_address b first i) (holds m.state.gate n whats.Back) held })
    | inr e ↦ rw e (record { gate = refl; back = ap made (sym (one_more m.state.back.area first e)); hints = placed_hint (with_span (one_more_reserved m.state.back.area) (new_span first b t)) (put_maker m.now.span_history n first kinds.Lfh) (block_address b first i) (holds m.state.gate n whats.Back) held })
  ]
    where
      made : Area → BackPart
      made a = record { area = with_span a (new_span first b t); places = m.state.back.places }

---- The pages of a back end

runs_end : (words : List ℕ) (from to : ℕ) (rs : List real.Run) → AreRuns words from to rs → from ≤ to
runs_end words from to [] h = omega (arith, h)
runs_end words from to (r ∷ rs) h = let l = runs_end words (from + r.pages) to rs h.2 in omega arith

span_end : (words : List ℕ) (from to : ℕ) (rs : List real.Run) (x : Span) → AreRuns words from to rs → IsOneOf x (spans_in rs) → x.first + x.pages ≤ to
span_end words from to [] x h i = absurd i
span_end words from to (r ∷ rs) x h i = by (is_of_span r.mark.kind) refl i (λ j. span_end words (from + r.pages) to rs x h.2 j)
  where
    by : (y : Bool) → is_of_span r.mark.kind ≡ y → IsOneOf x (spans_in (r ∷ rs)) → (IsOneOf x (spans_in rs) → x.first + x.pages ≤ to) → x.first + x.pages ≤ to
    by true e j more = here (rw e at j)
      where
        here : IsOneOf x (span_of r ∷ spans_in rs) → x.first + x.pages ≤ to
        here (inl f) = let l = runs_end words (from + r.pages) to rs h.2 in let a = h.0 in subst (λ (z : Span). z.first + z.pages ≤ to) f (omega arith)
        here (inr k) = more k
    by false e j more = more (rw e at j)

-- no span ends behind the segments
pub span_within : (k : Kept) (x : Span) → IsSound k → IsOneOf x (area_of k).spans → x.first + x.pages ≤ 256 * k.limits.segments
span_within k x h i =
    let l = span_end k.words 0 (length k.words) (runs_of k.words) x h.whole i in
    let p = h.pages in let s = h.segments in omega (arith, l, p, s)
