-- What the variable-size layer keeps: the limits that it was made for, its spans, the chunks in them, which buckets it has served, and which are active.
use Rattle.std.specs.Prelude.{ℕ, suc, ◌+◌, ◌-◌, ◌*◌, ◌/◌, Bool, false, ◌&&◌, nat_le, List, [], ◌∷◌, ◌++◌, Option, Some, None, if◌then◌else◌}
use Rattle.std.specs.List.{find, slice_index_or}
use Rattle.heap_model.specs.declared.Kind.TheVariants as kinds
use Rattle.heap_model.specs.declared.Limits.{Limits}
use Rattle.heap_model.specs.declared.Layer.TheVariants as layers
use Rattle.heap_model.specs.Geometry.{page_bytes, units_of}
use Rattle.heap_model.specs.Runs.{Run}
use Rattle.heap_model.specs.State.{Span, Place, VsPart, Live, has_address, remove_found}
use Rattle.heap_model.specs.Ranges.{gaps_of, vs_place}
use Rattle.heap_model.specs.Stay.{run_from}
use Rattle.heap_model.specs.Legal.{lies_in}
use Rattle.vs_headers.specs.declared.Head.{Head}
use Rattle.vs_split.specs.Chunks.{Chunks}

pub record VsKept : Type 0 where
  pub limits : Limits
  pub spans : List Span  -- by address
  pub chunks : Chunks
  pub served : List ℕ  -- of a bucket; bucket 0 is none
  pub active : List Bool  -- of a bucket

-- the span of so many pages at a page
abbrev pub vs_span : ℕ → ℕ → Span
vs_span first pages = record { first = first; pages = pages; kind = kinds.Vs; bucket = 0; slot = 0 }

---- Places

-- the block that a chunk with this head is, at granule g
abbrev pub place_of : ℕ → Head → Place
place_of g h = record { start = 16 * g; granules = h.units; layer = layers.Vs; status = Live (16 * (h.units - 1) - h.unused) }

abbrev pub place_if : ℕ → Option Head → List Place
place_if g None = []
place_if g (Some h) = if h.busy then place_of g h ∷ [] else []

-- the blocks among chunks, from granule g on
abbrev pub places_from : ℕ → List (Option Head) → List Place
places_from g [] = []
places_from g (o ∷ os) = place_if g o ++ places_from (suc g) os

-- the live blocks, by address
abbrev pub places_of : VsKept → List Place
places_of k = places_from 0 k.chunks.heads

abbrev pub served_of : VsKept → ℕ → ℕ
served_of k b = slice_index_or k.served b 0

abbrev pub active_of : VsKept → ℕ → Bool
active_of k b = slice_index_or k.active b false

-- what the definitions of the heap call the part that the lock of this layer guards
abbrev pub part_of : VsKept → VsPart
part_of k = record { places = places_of k; active = active_of k; served = served_of k }

-- the gaps, by the definitions of the heap
abbrev pub gaps_in : VsKept → List Run
gaps_in k = gaps_of k.spans (places_of k)

-- where a block of n bytes goes, and the granules that it gets
abbrev pub place_for : VsKept → ℕ → Option Run
place_for k n = vs_place (gaps_in k) (units_of n)

abbrev pub block_in : Run → ℕ → Place
block_in r n = record { start = 16 * r.first; granules = r.count; layer = layers.Vs; status = Live n }

-- the block at an address
abbrev pub block_at : VsKept → ℕ → Option Place
block_at k addr = find (has_address addr) (places_of k)

-- the span that a block lies in
abbrev pub span_over : VsKept → Place → Option Span
span_over k p = find (λ x. lies_in page_bytes x p) k.spans

abbrev pub places_without : VsKept → ℕ → List Place
places_without k addr = remove_found (has_address addr) (places_of k)

---- A block that is resized

-- the granules of a block and of the gap right behind it
abbrev pub reach_of : VsKept → Place → ℕ
reach_of k p = p.granules + run_from (gaps_in k) (p.start / 16 + p.granules)

-- it keeps its address at the size n
abbrev pub lets_stay : VsKept → Place → ℕ → Bool
lets_stay k p n = nat_le n 131072 && nat_le (units_of n) (reach_of k p)
