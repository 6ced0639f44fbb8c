-- The lowest subsegment of a bucket and a slot, run by run.
use Rattle.std.proofs.Common.{◌≡◌, ℕ, ◌+◌, ◌≤◌, ◌==◌, arith, Bool, true, false, ◌&&◌, List, [], ◌∷◌, length, Option, Some, None, refl, sym, ap, ◌∙◌, inl, inr}
use Rattle.std.specs.Prelude.{filter}
use Rattle.std.proofs.lemmas.Bool.{cases_Bool, false≢true}
use Rattle.heap_model.specs.declared.Kind.{Kind}
use Rattle.heap_model.specs.declared.Kind.TheVariants as kinds
use Rattle.heap_model.specs.declared.Run.{Run}
use Rattle.heap_model.specs.State.{is_kind}
use Rattle.heap_model.specs.Search.{first_of, is_span_of}
use Rattle.page_ranges.specs.Words.{runs_of, runs_from}
use Rattle.page_ranges.specs.Ranges.{AreRuns}
use Rattle.page_ranges.specs.Spans.{is_of_span, spans_in}
use Rattle.page_ranges.proofs.Runs.{Step, runs_le}
use Rattle.lfh_spans.specs.Subsegments.{is_mark_of}

of_span : (k : Kind) (x y : Bool) → ((is_kind k kinds.Lfh && x) && y) ≡ true → is_of_span k ≡ true
of_span kinds.Lfh x y e = refl
of_span kinds.Back x y e = refl
of_span kinds.Vs x y e = refl
of_span kinds.Header x y e = absurd (false≢true e)
of_span kinds.Free x y e = absurd (false≢true e)

abbrev lowest_of : ℕ → ℕ → List Run → Option ℕ
lowest_of b t rs = first_of (filter (is_span_of b t) (spans_in rs))

here : (b t : ℕ) (r : Run) (rs : List Run) → is_mark_of b t r.mark ≡ true → lowest_of b t (r ∷ rs) ≡ Some r.first
here b t r rs e = let s = of_span r.mark.kind (r.mark.bucket == b) (r.mark.slot == t) e in rw s (rw e refl)

further : (b t : ℕ) (r : Run) (rs : List Run) → is_mark_of b t r.mark ≡ false → lowest_of b t (r ∷ rs) ≡ lowest_of b t rs
further b t r rs e = elim (cases_Bool (is_of_span r.mark.kind)) [ inl g ↦ rw g (rw e refl) | inr g ↦ rw g refl ]

-- What is known at a page: no run below it is one.
pub record IsAbove (words : List ℕ) (page b t : ℕ) : Type 0 where
  pub runs : AreRuns words page (length words) (runs_from words page)
  pub left : first_of (filter (is_span_of b t) (spans_in (runs_from words page))) ≡ first_of (filter (is_span_of b t) (spans_in (runs_of words)))

module _ (words : List ℕ) (page b t : ℕ) (r : Run) (h : IsAbove words page b t) (s : Step words page r) where
  pub found : is_mark_of b t r.mark ≡ true → first_of (filter (is_span_of b t) (spans_in (runs_of words))) ≡ Some r.first
  found e = sym h.left ∙ (ap (lowest_of b t) s.read ∙ here b t r (runs_from words (page + r.pages)) e)

  pub passed : is_mark_of b t r.mark ≡ false → IsAbove words (page + r.pages) b t
  passed e = record { runs = s.rest; left = sym (ap (lowest_of b t) s.read ∙ further b t r (runs_from words (page + r.pages)) e) ∙ h.left }

-- behind the last page none is left
pub none_left : (words : List ℕ) (page b t : ℕ) → IsAbove words page b t → length words ≤ page → first_of (filter (is_span_of b t) (spans_in (runs_of words))) ≡ None
none_left words page b t h l = sym h.left ∙ ap (lowest_of b t) (nothing (runs_from words page) h.runs)
  where
    nothing : (rs : List Run) → AreRuns words page (length words) rs → rs ≡ []
    nothing [] a = refl
    nothing (r ∷ rs) a = let some = a.1.some in let le = runs_le words (page + r.pages) (length words) rs a.2 in absurd (omega (arith, some, le, l))
