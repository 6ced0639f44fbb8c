-- What a mark makes of the runs, and what is read at their pages.
use Rattle.std.specs.Prelude.{◌≡◌, ℕ, ◌+◌, ◌<◌, ◌≤◌, ◌⊎◌, Bool, List, ◌∷◌, ◌++◌, length, slice_index, sum_by, Some}
use Rattle.std.specs.List.{find}
use Rattle.heap_model.specs.declared.Run.{Run}
use Rattle.page_ranges.specs.Words.{runs_of}
use Rattle.page_ranges.specs.Ranges.{IsRun, AreRuns, IsWhole, IsMarked, has_page}

-- Where a run was marked and the words are whole, each of its pages tells this run, with its mark.
abbrev pub MarkedRunIsReadBack : Type 0
MarkedRunIsReadBack =
    (old new : List ℕ) (r : Run) (page : ℕ) → IsMarked old new r → IsWhole new → r.first ≤ page → page < r.first + r.pages → page < length new
    → find (has_page page) (runs_of new) ≡ Some r

-- two runs have no page in common
abbrev pub LieApart : Run → Run → Type 0
LieApart q r = (q.first + q.pages ≤ r.first) ⊎ (r.first + r.pages ≤ q.first)

-- A mark leaves each run that has none of its pages.
abbrev pub MarkLeavesOtherRuns : Type 0
MarkLeavesOtherRuns = (old new : List ℕ) (r q : Run) → IsMarked old new r → LieApart q r → IsRun old q → IsRun new q

-- how many pages runs have
abbrev pub pages_in : List Run → ℕ
pages_in rs = sum_by (λ r. r.pages) rs

-- A run that is marked over the pages of neighbours takes their place, and the words stay whole.
abbrev pub MarkReplacesRuns : Type 0
MarkReplacesRuns =
    (old new : List ℕ) (before middle after : List Run) (r : Run) → IsWhole old → runs_of old ≡ before ++ (middle ++ after)
    → r.first ≡ pages_in before → r.pages ≡ pages_in middle → IsMarked old new r
    → IsWhole new × (runs_of new ≡ before ++ r ∷ after)

-- the words of all pages but those from one up to another are as before
abbrev pub AgreeOutside : List ℕ → List ℕ → ℕ → ℕ → Type 0
AgreeOutside old new from to = (page : ℕ) → (page < from) ⊎ (to ≤ page) → slice_index new page ≡ slice_index old page

-- So do several that are marked one by one.
abbrev pub MarksReplaceRuns : Type 0
MarksReplaceRuns =
    (old new : List ℕ) (before middle after rs : List Run) → IsWhole old → runs_of old ≡ before ++ (middle ++ after) → length new ≡ length old
    → AgreeOutside old new (pages_in before) (pages_in before + pages_in middle)
    → AreRuns new (pages_in before) (pages_in before + pages_in middle) rs
    → IsWhole new × (runs_of new ≡ before ++ (rs ++ after))

-- A run stands behind some runs and before others, and begins behind their pages.
pub record StandsAmong (words : List ℕ) (r : Run) : Type 0 where
  pub before : List Run
  pub after : List Run
  pub parts : runs_of words ≡ before ++ r ∷ after
  pub first : r.first ≡ pages_in before
  pub is_run : IsRun words r

-- So does each run that a test finds.
abbrev pub FoundRunStandsAmong : Type 0
FoundRunStandsAmong = (words : List ℕ) (test : Run → Bool) (r : Run) → IsWhole words → find test (runs_of words) ≡ Some r → StandsAmong words r

-- Behind some runs, the page that follows theirs tells the next one.
abbrev pub RunsAreReadInOrder : Type 0
RunsAreReadInOrder =
    (words : List ℕ) (before after : List Run) (r : Run) → IsWhole words → runs_of words ≡ before ++ r ∷ after
    → find (has_page (pages_in before)) (runs_of words) ≡ Some r
