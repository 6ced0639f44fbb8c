-- What a call makes of the blocks and spans of the variable-size layer.
use Rattle.std.specs.Prelude.{◌≡◌, ◌⊎◌, ℕ, ◌+◌, ◌*◌, ◌≤◌, Bool, true, false, not, List, [], length, Option, Some, None, replicate}
use Rattle.std.specs.List.{AllByRecursion}
use Rattle.heap_model.specs.declared.Limits.{Limits}
use Rattle.heap_model.specs.Buckets.{bucket_of}
use Rattle.heap_model.specs.Geometry.{page_bytes, units_of}
use Rattle.heap_model.specs.Runs.{Run}
use Rattle.heap_model.specs.State.{Span, Place, has_address, remove_found, change_found, insert_place}
use Rattle.heap_model.specs.Ranges.{taken_of}
use Rattle.heap_model.specs.Search.{begins_at}
use Rattle.heap_model.specs.Legal.{has_place, resize_place, serve}
use Rattle.vs_headers.specs.declared.Head.{Head}
use Rattle.vs_headers.specs.Headers.{IsHead}
use Rattle.vs_split.specs.Chunks.{Chunks, head_at}
use Rattle.vs_split.specs.Laws.{AreOfSpan}
use Rattle.vs_split.specs.Shown.{head_shown}
use Rattle.vs_layer.specs.Kept.{VsKept, places_of, served_of, place_for, block_in, block_at, span_over, places_without, reach_of, lets_stay}

-- no span, no chunk, and no bucket served or active
abbrev pub nothing_kept : Limits → ℕ → VsKept
nothing_kept limits key = record {
  limits = limits;
  spans = [];
  chunks = record { key = key; heads = replicate (65536 * limits.segments) None };
  served = replicate 129 0;
  active = replicate 129 false;
}

-- the key and the number of granules never change
pub record IsOfOneHeap (old new : VsKept) : Type 0 where
  pub key : new.chunks.key ≡ old.chunks.key
  pub granules : length new.chunks.heads ≡ length old.chunks.heads

-- the pages do not meet a span
abbrev pub LieApart : ℕ → ℕ → Span → Type 0
LieApart first pages x = (x.first + x.pages ≤ first) ⊎ (first + pages ≤ x.first)

-- A block of n bytes was placed where the definitions have it, at the front of the smallest gap that fits, and this address is its.
pub record HasPlaced (old new : VsKept) (n addr : ℕ) : Type 0 where
  pub run : Run
  pub place : place_for old n ≡ Some run
  pub address : addr ≡ 16 * run.first + 16
  pub places : places_of new ≡ insert_place (block_in run n) (places_of old)
  pub spans : new.spans ≡ old.spans
  pub served : served_of new ≡ serve (bucket_of n) (served_of old)
  pub active : new.active ≡ old.active
  pub heap : IsOfOneHeap old new

-- a block lies at the address, in this span
pub record IsBlockIn (k : VsKept) (addr : ℕ) (p : Place) (x : Span) : Type 0 where
  pub there : block_at k addr ≡ Some p
  pub over : span_over k p ≡ Some x

-- the answer is whether the block at the address is the last one of its span
pub record TellsLast (k : VsKept) (addr : ℕ) (answer : Bool) : Type 0 where
  pub place : Place
  pub span : Span
  pub block : IsBlockIn k addr place span
  pub told : answer ≡ not (has_place page_bytes (places_without k addr) span)

-- the span is closed where no block is left in it, and answered by its first page and its pages
abbrev pub IsClosed : VsKept → VsKept → Span → Option (ℕ × ℕ) → Type 0
IsClosed old new x None = (has_place page_bytes (places_of new) x ≡ true) × (new.spans ≡ old.spans)
IsClosed old new x (Some answer) =
    (has_place page_bytes (places_of new) x ≡ false) × (answer.0 ≡ x.first) × (answer.1 ≡ x.pages) × (new.spans ≡ remove_found (begins_at x.first) old.spans)

-- The block at the address is gone.
pub record HasDropped (old new : VsKept) (addr : ℕ) (answer : Option (ℕ × ℕ)) : Type 0 where
  pub place : Place
  pub span : Span
  pub block : IsBlockIn old addr place span
  pub places : places_of new ≡ places_without old addr
  pub closed : IsClosed old new span answer
  pub served : new.served ≡ old.served
  pub active : new.active ≡ old.active
  pub heap : IsOfOneHeap old new

-- The block at the address has n bytes now, with the granules that the definitions give it.
pub record HasResized (old new : VsKept) (addr n : ℕ) : Type 0 where
  pub place : Place
  pub there : block_at old addr ≡ Some place
  pub stays : lets_stay old place n ≡ true
  pub places : places_of new ≡ change_found (has_address addr) (resize_place (taken_of (units_of n) (reach_of old place)) n) (places_of old)
  pub spans : new.spans ≡ old.spans
  pub served : new.served ≡ old.served
  pub active : new.active ≡ old.active
  pub heap : IsOfOneHeap old new

-- It does not let the block stay, and nothing changed.
pub record HasKept (old new : VsKept) (addr n : ℕ) : Type 0 where
  pub place : Place
  pub there : block_at old addr ≡ Some place
  pub moves : lets_stay old place n ≡ false
  pub same : new ≡ old

abbrev pub ResizesOrKeeps : VsKept → VsKept → ℕ → ℕ → Bool → Type 0
ResizesOrKeeps old new addr n true = HasResized old new addr n
ResizesOrKeeps old new addr n false = HasKept old new addr n

-- chunks tile the span
abbrev pub IsSpanOfChunks : Chunks → Span → Type 0
IsSpanOfChunks v x = (hs : List Head) × AreOfSpan v x.first x.pages hs

-- The chunks are those of the heap: each place is one and each gap, and there are no others. They tile the spans, and their fields have the
-- widths that a header word has for them.
pub record ShowsChunks (k : VsKept) : Type 0 where
  pub heads : (g : ℕ) → head_at k.chunks g ≡ head_shown k.spans (places_of k) g
  pub rows : AllByRecursion (IsSpanOfChunks k.chunks) k.spans
  pub widths : (g : ℕ) (h : Head) → head_at k.chunks g ≡ Some h → IsHead h
