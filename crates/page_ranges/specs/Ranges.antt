-- Words that are whole: those of runs, one behind the other.
use Rattle.std.specs.Prelude.{ℕ, ◌+◌, ◌*◌, ◌/◌, ◌%◌, ◌==◌, ◌≡◌, ◌<◌, ◌≤◌, ◌⊎◌, Bool, true, false, ◌&&◌, not, nat_le, nat_lt, List, [], ◌∷◌, length, slice_index}
use Rattle.heap_model.specs.declared.Kind.TheVariants as kinds
use Rattle.heap_model.specs.declared.Mark.{Mark}
use Rattle.heap_model.specs.declared.Run.{Run}
use Rattle.heap_model.specs.State.{is_kind}
use Rattle.heap_model.specs.Marks.{free_mark}
use Rattle.page_ranges.specs.Words.{word_in, runs_of, header_run}

-- A segment is open where its first page behind the header has a word that is not 0.
abbrev pub is_open : List ℕ → ℕ → Bool
is_open words segment = not (slice_index words (256 * segment + 2) == 0)

-- a page behind the header of an open segment
abbrev pub is_behind_header : List ℕ → ℕ → Bool
is_behind_header words page = is_open words (page / 256) && nat_le 2 (page % 256)

-- What holds of the words at every time: they are of whole segments, and a header page, and each page of a segment that is not open, has the word 0.
pub record IsHeadered (words : List ℕ) : Type 0 where
  pub few : length words ≤ 4096
  pub segments : length words % 256 ≡ 0
  pub zeros : (page : ℕ) → is_behind_header words page ≡ false → slice_index words page ≡ 0

-- these pages lie behind the header of one open segment
pub record IsInSegment (words : List ℕ) (first pages : ℕ) : Type 0 where
  pub behind : 2 ≤ first % 256
  pub below : first % 256 + pages ≤ 256
  pub open_one : is_open words (first / 256) ≡ true

-- a mark that pages may get
pub record IsMark (m : Mark) : Type 0 where
  pub used : is_kind m.kind kinds.Header ≡ false
  pub of_lfh : is_kind m.kind kinds.Lfh ≡ false → (m.bucket ≡ 0) × (m.slot ≡ 0)
  pub of_back : is_kind m.kind kinds.Back ≡ false → m.unused ≡ 0

-- each field has room in a word
pub record HasRoom (m : Mark) : Type 0 where
  pub bucket : m.bucket < 256
  pub slot : m.slot < 256
  pub unused : m.unused < 65536

-- the words of a run with a mark
pub record IsMarkedRun (words : List ℕ) (r : Run) : Type 0 where
  pub mark : IsMark r.mark
  pub fields : HasRoom r.mark
  pub pages : r.pages < 65536
  pub marked : (k : ℕ) → k < r.pages → slice_index words (r.first + k) ≡ word_in r k

-- The words are those of the run; a header page has the word 0.
pub record IsRun (words : List ℕ) (r : Run) : Type 0 where
  pub some : 0 < r.pages
  pub kept : ((r ≡ header_run r.first) × (slice_index words r.first ≡ 0)) ⊎ IsMarkedRun words r

-- the runs follow each other between two pages
abbrev pub AreRuns : List ℕ → ℕ → ℕ → List Run → Type 0
AreRuns words from to [] = from ≡ to
AreRuns words from to (r ∷ rs) = (r.first ≡ from) × IsRun words r × AreRuns words (from + r.pages) to rs

-- All words are those of runs, as they are read; each page with the word 0 counts as a header run of its own.
abbrev pub IsWhole : List ℕ → Type 0
IsWhole words = AreRuns words 0 (length words) (runs_of words)

-- the page lies in the run
abbrev pub has_page : ℕ → Run → Bool
has_page page r = nat_le r.first page && nat_lt page (r.first + r.pages)

-- a span or a free run that begins at the page or behind it
abbrev pub begins_from : ℕ → Run → Bool
begins_from page r = nat_le page r.first && not (is_kind r.mark.kind kinds.Header)

-- The words with those of a run written: it is one of theirs, and the words of all other pages are as before.
pub record IsMarked (old new : List ℕ) (r : Run) : Type 0 where
  pub same_length : length new ≡ length old
  pub run : IsRun new r
  pub marked : (k : ℕ) → k < r.pages → slice_index new (r.first + k) ≡ word_in r k
  pub others : (page : ℕ) → (page < r.first) ⊎ (r.first + r.pages ≤ page) → slice_index new page ≡ slice_index old page

-- the runs of a segment that was just opened: its header pages, and one free run
abbrev pub opened_runs : ℕ → List Run
opened_runs segment =
    header_run (256 * segment) ∷ header_run (256 * segment + 1) ∷ record { first = 256 * segment + 2; pages = 254; mark = free_mark } ∷ []
