-- What holds of the chunks of a span, and what a call makes of them.
use Rattle.std.specs.Prelude.{◌≡◌, ℕ, ◌+◌, ◌-◌, ◌*◌, ◌<◌, ◌≤◌, ◌⊎◌, List, [], ◌∷◌, ◌++◌, sum_by, Some}
use Rattle.vs_headers.specs.declared.Head.{Head}
use Rattle.vs_headers.specs.Headers.{IsHead, decoded}
use Rattle.vs_split.specs.Chunks.{Chunks, head_at, word_at, with_head, told_prev, gap, split_chunk, joined_chunk}
use Rattle.vs_split.specs.Tiles.{AreSpanPages, front_of, IsTiled}

-- A header word tells the chunk.
abbrev pub WordsTellTheChunks : Type 0
WordsTellTheChunks =
    (v : Chunks) (g : ℕ) (h : Head) → IsHead h → head_at v g ≡ Some h → decoded (word_at v g) v.key (16 * g) ≡ Some h

-- Two chunks have no granule in common.
abbrev pub ChunksLieApart : Type 0
ChunksLieApart =
    (v : Chunks) (g k : ℕ) (h n : Head) → IsTiled v → head_at v g ≡ Some h → head_at v k ≡ Some n → g < k → g + h.units ≤ k

-- chunks with these heads lie one behind the other, from one granule up to another, behind a chunk of prev granules
abbrev pub IsRow : Chunks → ℕ → ℕ → ℕ → List Head → Type 0
IsRow v prev from to [] = from ≡ to
IsRow v prev from to (h ∷ hs) = (head_at v from ≡ Some h) × (h.prev ≡ prev) × IsRow v h.units (from + h.units) to hs

-- the chunks of a span: they lie one behind the other from its front to its end
abbrev pub AreOfSpan : Chunks → ℕ → ℕ → List Head → Type 0
AreOfSpan v first pages hs = IsRow v 0 (front_of first) (256 * (first + pages)) hs

-- a span that was opened has one free chunk
abbrev pub OpenedSpanHasOneChunk : Type 0
OpenedSpanHasOneChunk =
    (v : Chunks) (first pages : ℕ) → AreSpanPages v first pages
    → AreOfSpan (with_head v (front_of first) (Some (gap (256 * pages - 3) 0))) first pages (gap (256 * pages - 3) 0 ∷ [])

-- the first of these chunks is told how long the one before it is
abbrev pub behind_units : ℕ → List Head → List Head
behind_units units [] = []
behind_units units (h ∷ hs) = told_prev units h ∷ hs

-- the granules of some chunks
abbrev pub granules_of : List Head → ℕ
granules_of hs = sum_by (λ h. h.units) hs

-- The chunk h behind these others is cut, and all others of the span stay; the one behind it is told the new size.
abbrev pub SplitCutsOneChunk : Type 0
SplitCutsOneChunk =
    (v : Chunks) (first pages n : ℕ) (before after : List Head) (h : Head) → IsTiled v → 2 ≤ n → n + 2 ≤ h.units
    → AreOfSpan v first pages (before ++ h ∷ after)
    → AreOfSpan (split_chunk v (front_of first + granules_of before) h n) first pages
    (before ++ record h { units = n } ∷ gap (h.units - n) n ∷ behind_units (h.units - n) after)

-- Two neighbours become one chunk, and all others of the span stay.
abbrev pub JoinMakesOneOfTwo : Type 0
JoinMakesOneOfTwo =
    (v : Chunks) (first pages : ℕ) (before after : List Head) (h n : Head) → IsTiled v
    → AreOfSpan v first pages (before ++ h ∷ n ∷ after)
    → AreOfSpan (joined_chunk v (front_of first + granules_of before) h n.units) first pages
    (before ++ record h { units = h.units + n.units } ∷ behind_units (h.units + n.units) after)

-- the pages of a span lie in front of granule g, or from granule e on
abbrev pub LiesOutside : ℕ → ℕ → ℕ → ℕ → Type 0
LiesOutside first pages g e = (256 * (first + pages) ≤ g) ⊎ (e ≤ 256 * first)

-- A cut leaves the chunks of all other spans.
abbrev pub SplitLeavesOtherSpans : Type 0
SplitLeavesOtherSpans =
    (v : Chunks) (first pages g n : ℕ) (h : Head) (hs : List Head) → IsTiled v → head_at v g ≡ Some h → 2 ≤ n → n + 2 ≤ h.units
    → LiesOutside first pages g (g + h.units) → AreOfSpan v first pages hs → AreOfSpan (split_chunk v g h n) first pages hs

-- So does a join.
abbrev pub JoinLeavesOtherSpans : Type 0
JoinLeavesOtherSpans =
    (v : Chunks) (first pages g : ℕ) (h n : Head) (hs : List Head) → IsTiled v → head_at v g ≡ Some h → head_at v (g + h.units) ≡ Some n
    → LiesOutside first pages g (g + h.units + n.units) → AreOfSpan v first pages hs → AreOfSpan (joined_chunk v g h n.units) first pages hs
