-- The spans and blocks that runs are, in order of their pages.
use Rattle.std.proofs.Common.{◌≡◌, ℕ, ◌+◌, ◌≤◌, inl, inr, Bool, false, refl, ap, ◌∙◌, arith, List, [], ◌∷◌, ◌++◌, length, filter, map}
use Rattle.std.proofs.lemmas.Bool.{cases_Bool}
use Rattle.std.proofs.lemmas.List.{map-append}
use Rattle.std.proofs.lemmas.List.Elements.{filter-append}
use Rattle.heap_model.specs.declared.Kind.{Kind}
use Rattle.heap_model.specs.declared.Kind.TheVariants as kinds
use Rattle.heap_model.specs.declared.Run.{Run}
use Rattle.heap_model.specs.State.{Span, is_kind}
use Rattle.page_ranges.specs.Words.{runs_of}
use Rattle.page_ranges.specs.Ranges.{AreRuns, IsWhole}
use Rattle.page_ranges.specs.Spans.{is_of_span, taken_runs, span_of, spans_in, AreRising}

pub taken_append : (xs ys : List Run) → taken_runs (xs ++ ys) ≡ taken_runs xs ++ taken_runs ys
taken_append xs ys = filter-append (λ (r : Run). is_of_span r.mark.kind) xs ys

pub spans_append : (xs ys : List Run) → spans_in (xs ++ ys) ≡ spans_in xs ++ spans_in ys
spans_append xs ys = ap (map span_of) (taken_append xs ys) ∙ map-append span_of (taken_runs xs) (taken_runs ys)

rising_lower : (low from : ℕ) (rs : List Run) → low ≤ from → AreRising from rs → AreRising low rs
rising_lower low from [] l a = tt
rising_lower low from (r ∷ rs) l a = (omega (arith, a.0), a.1, a.2)

-- whatever is picked of runs that follow each other is in order of pages, and apart
pub picked_rise : (test : Run → Bool) (words : List ℕ) (from to : ℕ) (rs : List Run) → AreRuns words from to rs → AreRising from (filter test rs)
picked_rise test words from to [] a = tt
picked_rise test words from to (r ∷ rs) a =
    let again = picked_rise test words (from + r.pages) to rs a.2 in
    elim (cases_Bool (test r)) [
      | inl e ↦ rw e (omega (arith, a.0), a.1.some, rw a.0 again)
      | inr e ↦ rw e (rising_lower from (from + r.pages) (filter test rs) (omega arith) again)
    ]

-- the spans of the words, and so their blocks
pub taken_rise : (words : List ℕ) → IsWhole words → AreRising 0 (taken_runs (runs_of words))
taken_rise words w = picked_rise (λ (r : Run). is_of_span r.mark.kind) words 0 (length words) (runs_of words) w

pub backs_rise : (words : List ℕ) → IsWhole words → AreRising 0 (filter (λ (r : Run). is_kind r.mark.kind kinds.Back) (runs_of words))
backs_rise words w = picked_rise (λ (r : Run). is_kind r.mark.kind kinds.Back) words 0 (length words) (runs_of words) w

span_kinds : (k : Kind) → is_of_span k ≡ false → is_kind k kinds.Back ≡ false
span_kinds kinds.Header e = refl
span_kinds kinds.Free e = refl
span_kinds kinds.Vs e = refl
span_kinds kinds.Lfh e = refl
span_kinds kinds.Back e = e

-- the runs of blocks are the spans of the back end
pub backs_are : (rs : List Run) → map span_of (filter (λ (r : Run). is_kind r.mark.kind kinds.Back) rs) ≡ filter (λ (x : Span). is_kind x.kind kinds.Back) (spans_in rs)
backs_are [] = refl
backs_are (r ∷ rs) = elim (cases_Bool (is_of_span r.mark.kind)) [
  | inl e ↦ elim (cases_Bool (is_kind r.mark.kind kinds.Back)) [
    | inl f ↦ rw (e, f) (ap (λ xs. span_of r ∷ xs) (backs_are rs))
    | inr f ↦ rw (e, f) (backs_are rs)
  ]
  | inr e ↦ let f = span_kinds r.mark.kind e in rw (e, f) (backs_are rs)
]
