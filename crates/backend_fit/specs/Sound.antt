-- What holds of a back end between its calls.
use Rattle.std.specs.Prelude.{ℕ, ◌+◌, ◌-◌, ◌==◌, if◌then◌else◌, ◌*◌, ◌≡◌, true, false, Some, List, length}
use Rattle.std.specs.List.{AllByRecursion, find}
use Rattle.heap_model.specs.declared.Mark.{Mark}
use Rattle.heap_model.specs.declared.Run.{Run}
use Rattle.page_region.specs.Held.{IsHeld}
use Rattle.page_ranges.specs.Words.{runs_of, run_of_page}
use Rattle.page_ranges.specs.Ranges.{IsWhole, IsMark, has_page}
use Rattle.page_ranges.specs.Spans.{is_of_free, is_of_span, IsUsed, AreApart}
use Rattle.heap_model.specs.Limits.{AreValid}
use Rattle.backend_fit.specs.Kept.{Kept}
use Rattle.backend_fit.specs.Pages.{Pages}

-- of its pages
pub record AreSound (k : Pages) : Type 0 where
  pub held : IsHeld k.region
  pub pages : length k.words ≡ 256 * k.region.segments
  pub whole : IsWhole k.words
  pub used : AllByRecursion (IsUsed k.region.reserved) (runs_of k.words)
  pub apart : AreApart false (runs_of k.words)

-- .. and of all that it keeps
pub record IsSound (k : Kept) : Type 0 where
  pub limits : AreValid k.limits
  pub segments : k.region.segments ≡ k.limits.segments
  pub held : IsHeld k.region
  pub pages : length k.words ≡ 256 * k.region.segments
  pub whole : IsWhole k.words
  pub used : AllByRecursion (IsUsed k.region.reserved) (runs_of k.words)
  pub apart : AreApart false (runs_of k.words)

-- these pages are a free run, as the words tell it
pub record IsFreeRun (words : List ℕ) (first pages : ℕ) : Type 0 where
  pub mark : Mark
  pub finds : find (has_page first) (runs_of words) ≡ Some (record { first = first; pages = pages; mark = mark })
  pub free : is_of_free mark.kind ≡ true

-- a mark that a span may have
pub record IsSpanMark (m : Mark) : Type 0 where
  pub mark : IsMark m
  pub kind : is_of_span m.kind ≡ true

-- this run is a span, as the words tell it
pub record IsSpan (words : List ℕ) (r : Run) : Type 0 where
  pub finds : find (has_page r.first) (runs_of words) ≡ Some r
  pub span : is_of_span r.mark.kind ≡ true

-- where the free run begins that ends before a page, and where that ends which begins at one; else this page
abbrev pub start_of : List ℕ → ℕ → ℕ
start_of words page = let r = run_of_page words (page - 1) in if is_of_free r.mark.kind then r.first else page

abbrev pub end_of : List ℕ → ℕ → ℕ
end_of words page = if page == length words then page else (let r = run_of_page words page in if is_of_free r.mark.kind then page + r.pages else page)
