-- What the runs of the words stand for: spans, free runs and blocks.
use Rattle.std.specs.Prelude.{ℕ, ◌+◌, ◌-◌, ◌*◌, ◌/◌, ◌%◌, ◌≤◌, ◌<◌, ◌≡◌, Bool, true, false, ◌&&◌, not, nat_le, nat_lt, List, [], ◌∷◌, length, filter, map, filter_map, Option, Some, None, if◌then◌else◌}
use Rattle.std.specs.List.{AllByRecursion}
use Rattle.heap_model.specs.declared.Kind.{Kind}
use Rattle.heap_model.specs.declared.Kind.TheVariants as kinds
use Rattle.heap_model.specs.declared.Layer.TheVariants as layers
use Rattle.heap_model.specs.declared.Block.{Block}
use Rattle.heap_model.specs.declared.Run.{Run}
use Rattle.heap_model.specs.Runs as model
use Rattle.heap_model.specs.State.{Area, Span, is_kind}
use Rattle.page_ranges.specs.Words.{runs_of}
use Rattle.page_ranges.specs.Ranges.{IsWhole}

-- the kinds of spans
abbrev pub is_of_span : Kind → Bool
is_of_span kinds.Header = false
is_of_span kinds.Free = false
is_of_span kinds.Vs = true
is_of_span kinds.Lfh = true
is_of_span kinds.Back = true

abbrev pub is_of_free : Kind → Bool
is_of_free kinds.Header = false
is_of_free kinds.Free = true
is_of_free kinds.Vs = false
is_of_free kinds.Lfh = false
is_of_free kinds.Back = false

-- the runs that are spans, each with its mark
abbrev pub taken_runs : List Run → List Run
taken_runs rs = filter (λ r. is_of_span r.mark.kind) rs

-- the span that a run is
abbrev pub span_of : Run → Span
span_of r = record { first = r.first; pages = r.pages; kind = r.mark.kind; bucket = r.mark.bucket; slot = r.mark.slot }

abbrev pub spans_in : List Run → List Span
spans_in rs = map span_of (taken_runs rs)

-- the pages of a run
abbrev pub plain : Run → model.Run
plain r = record { first = r.first; count = r.pages }

abbrev pub free_of : Run → Option model.Run
free_of r = if is_of_free r.mark.kind then Some (plain r) else None

abbrev pub frees_in : List Run → List model.Run
frees_in rs = filter_map free_of rs

-- the block that a run of the back end is, where a page has so many bytes
abbrev pub block_of : ℕ → Run → Block
block_of unit r = record { addr = unit * r.first; size = unit * r.pages - r.mark.unused; layer = layers.Back }

-- the blocks of the back end
abbrev pub blocks_in : ℕ → List Run → List Block
blocks_in unit rs = map (block_of unit) (filter (λ r. is_kind r.mark.kind kinds.Back) rs)

-- a page behind the header of a reserved segment
abbrev pub is_usable_in : ℕ → ℕ → Bool
is_usable_in reserved page = nat_lt (page / 256) reserved && nat_le 2 (page % 256)

-- the header runs are just the pages that no one may use
abbrev pub IsUsed : ℕ → Run → Type 0
IsUsed reserved r = (k : ℕ) → k < r.pages → is_usable_in reserved (r.first + k) ≡ not (is_kind r.mark.kind kinds.Header)

-- no two free runs are neighbours
abbrev pub AreApart : Bool → List Run → Type 0
AreApart was_free [] = Unit {0}
AreApart was_free (r ∷ rs) = ((was_free && is_of_free r.mark.kind) ≡ false) × AreApart (is_of_free r.mark.kind) rs

-- The words of a back end between its calls: those of runs that tile the usable pages of the reserved segments, with no two free runs side by side.
pub record AreSettled (reserved : ℕ) (words : List ℕ) : Type 0 where
  pub inside : 256 * reserved ≤ length words
  pub whole : IsWhole words
  pub used : AllByRecursion (IsUsed reserved) (runs_of words)
  pub apart : AreApart false (runs_of words)

-- the area that words stand for, with so many segments reserved and these pages committed
abbrev pub area_in : ℕ → (ℕ → Bool) → List ℕ → Area
area_in reserved committed words = record { reserved = reserved; committed = committed; spans = spans_in (runs_of words) }

-- each run behind the one before it
abbrev pub AreRising : ℕ → List Run → Type 0
AreRising from [] = Unit {0}
AreRising from (r ∷ rs) = (from ≤ r.first) × (0 < r.pages) × AreRising (r.first + r.pages) rs
