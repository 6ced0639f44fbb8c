-- What the variable-size layer keeps to between its calls.
use Rattle.std.specs.Prelude.{◌≡◌, ◌⊎◌, ℕ, suc, ◌+◌, ◌-◌, ◌*◌, ◌%◌, ◌<◌, ◌≤◌, ◌==◌, Bool, true, false, ◌&&◌, not, List, [], ◌∷◌, length, count_by, Some, if◌then◌else◌}
use Rattle.std.specs.List.{slice_index_or, AllByRecursion}
use Rattle.std.specs.FinSet as set
use Rattle.heap_model.specs.Geometry.{units_of}
use Rattle.heap_model.specs.State.{Span}
use Rattle.heap_model.specs.Stay.{for_some, is_live_in}
use Rattle.heap_soundness.specs.Sound.{IsOneOf, AreInOrder}
use Rattle.vs_headers.specs.declared.Head.{Head}
use Rattle.vs_split.specs.Chunks.{Chunks, head_at}
use Rattle.vs_split.specs.Tiles.{IsTiled}
use Rattle.vs_free_tree.specs.Gaps.{GapIndex}
use Rattle.vs_layer.specs.Kept.{VsKept, vs_span, places_of}
use Rattle.vs_layer.specs.Effects.{IsSpanOfChunks}

-- the spans that start at pages, from this page on, where it is told how many pages each has, 0 where none starts
abbrev pub spans_from : ℕ → List ℕ → List Span
spans_from page [] = []
spans_from page (n ∷ ns) = if n == 0 then spans_from (suc page) ns else vs_span page n ∷ spans_from (suc page) ns

-- 16 to 33 usable pages of one segment
pub record AreUsablePages (x : Span) : Type 0 where
  pub least : 16 ≤ x.pages
  pub most : x.pages ≤ 33
  pub usable : 2 ≤ x.first % 256
  pub one_segment : x.first % 256 + x.pages ≤ 256

-- the chunk of so many granules at g lies in the span, behind its first 48 bytes
pub record LiesIn (g units : ℕ) (x : Span) : Type 0 where
  pub from : 256 * x.first + 3 ≤ g
  pub to : g + units ≤ 256 * (x.first + x.pages)

pub record IsOfSpan (xs : List Span) (g units : ℕ) : Type 0 where
  pub span : Span
  pub there : IsOneOf span xs
  pub lies : LiesIn g units span

-- a place has a block of the size that its head tells: it needs these granules, or all but one
pub record IsSized (h : Head) : Type 0 where
  pub size : ℕ
  pub unused : size + h.unused ≡ 16 * (h.units - 1)
  pub most : size ≤ 131072
  pub units : (h.units ≡ units_of size) ⊎ (h.units ≡ units_of size + 1)

-- a gap of so many granules starts at g
abbrev pub is_gap_at : Chunks → ℕ → ℕ → Bool
is_gap_at v units g = for_some (head_at v g) (λ h. not h.busy && h.units == units)

-- Chunks tile the spans, no two gaps are neighbours, and each place has its block.
pub record AreChunksSound (k : VsKept) : Type 0 where
  pub tiled : IsTiled k.chunks
  pub in_order : AreInOrder 0 k.spans
  pub usable : AllByRecursion AreUsablePages k.spans
  pub rows : AllByRecursion (IsSpanOfChunks k.chunks) k.spans
  pub inside : (g : ℕ) (h : Head) → head_at k.chunks g ≡ Some h → IsOfSpan k.spans g h.units
  pub joined : (g : ℕ) (h n : Head) → head_at k.chunks g ≡ Some h → h.busy ≡ false → head_at k.chunks (g + h.units) ≡ Some n → n.busy ≡ true
  pub sized : (g : ℕ) (h : Head) → head_at k.chunks g ≡ Some h → h.busy ≡ true → IsSized h

-- the head of a gap tells no unused bytes
abbrev pub HasPlainGaps : Chunks → Type 0
HasPlainGaps v = (g : ℕ) (h : Head) → head_at v g ≡ Some h → h.busy ≡ false → h.unused ≡ 0

-- The index has exactly the gaps, and room for as many as there can be.
pub record IsIndexOf (v : Chunks) (found : GapIndex) : Type 0 where
  pub gaps : (units g : ℕ) → set.contains found.gaps (units, g) ≡ is_gap_at v units g
  pub room : 4 * found.capacity ≡ length v.heads

-- The counters are those of the live blocks of each bucket.
pub record AreCounted (k : VsKept) (live : List ℕ) : Type 0 where
  pub served_for : length k.served ≡ 129
  pub active_for : length k.active ≡ 129
  pub live_for : length live ≡ 129
  pub served_most : (b : ℕ) → slice_index_or k.served b 0 ≤ 2040
  pub live_are : (b : ℕ) → b < 129 → slice_index_or live b 0 ≡ count_by (is_live_in b) (places_of k)

pub record IsSound (k : VsKept) (told : List ℕ) (found : GapIndex) (live : List ℕ) : Type 0 where
  pub spans : k.spans ≡ spans_from 0 told
  pub granules : length k.chunks.heads ≡ 256 * length told
  pub chunks : AreChunksSound k
  pub plain : HasPlainGaps k.chunks
  pub index : IsIndexOf k.chunks found
  pub counted : AreCounted k live
