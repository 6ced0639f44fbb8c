-- What the steps of a call make of the chunks and of the index of the gaps.
use Rattle.std.specs.Prelude.{◌≡◌, ℕ, ◌+◌, ◌-◌, ◌*◌, ◌==◌, Bool, true, false, ◌&&◌, ◌||◌, not, is_none, Option, Some, None, if◌then◌else◌}
use Rattle.std.specs.FinSet as set
use Rattle.vs_headers.specs.declared.Head.{Head}
use Rattle.vs_split.specs.Chunks.{Chunks, head_at, joined_chunk}
use Rattle.vs_free_tree.specs.Gaps.{GapIndex}

abbrev pub without_gap : GapIndex → ℕ → ℕ → GapIndex
without_gap x units g = record x { gaps = set.remove x.gaps (units, g) }

abbrev pub with_gap : GapIndex → ℕ → ℕ → GapIndex
with_gap x units g = record x { gaps = set.insert x.gaps (units, g) }

---- The neighbours of the chunk h at granule g

abbrev pub if_free : Option Head → Option Head
if_free None = None
if_free (Some h) = if h.busy then None else Some h

-- the gap right behind it
abbrev pub gap_behind : Chunks → ℕ → Head → Option Head
gap_behind v g h = if_free (head_at v (g + h.units))

-- .. right in front of it
abbrev pub gap_before : Chunks → ℕ → Head → Option Head
gap_before v g h = if h.prev == 0 then None else if_free (head_at v (g - h.prev))

abbrev pub units_of_gap : Option Head → ℕ
units_of_gap None = 0
units_of_gap (Some n) = n.units

-- a gap that is the first of its span, or the last, where it starts at granule q
abbrev pub is_first_gap : Option Head → Bool
is_first_gap None = false
is_first_gap (Some p) = not p.busy && p.prev == 0

abbrev pub is_last_gap : Chunks → ℕ → Option Head → Bool
is_last_gap v q None = true
is_last_gap v q (Some n) = not n.busy && is_none (head_at v (q + n.units))

-- all of the span in front of it is one gap, or nothing
abbrev pub is_free_before : Chunks → ℕ → Head → Bool
is_free_before v g h = h.prev == 0 || is_first_gap (head_at v (g - h.prev))

-- .. behind it
abbrev pub is_free_after : Chunks → ℕ → Head → Bool
is_free_after v g h = is_last_gap v (g + h.units) (head_at v (g + h.units))

---- A chunk and a gap beside it

-- the gap n right behind the chunk h at g, if there is one, has become part of it
abbrev pub TakesIn : Chunks → Chunks → GapIndex → GapIndex → ℕ → Head → Option Head → Type 0
TakesIn v w x y g h None = (w ≡ v) × (y ≡ x)
TakesIn v w x y g h (Some n) = (w ≡ joined_chunk v g h n.units) × (y ≡ without_gap x n.units (g + h.units))

abbrev pub TakesInBehind : Chunks → Chunks → GapIndex → GapIndex → ℕ → Head → Type 0
TakesInBehind v w x y g h = TakesIn v w x y g h (gap_behind v g h)

-- the chunk h at g has become part of the gap p right in front of it, if there is one; the answer is the address where it starts then
abbrev pub IsTakenInto : Chunks → Chunks → GapIndex → GapIndex → ℕ → Head → ℕ → Option Head → Type 0
IsTakenInto v w x y g h answer None = (w ≡ v) × (y ≡ x) × (answer ≡ 16 * g)
IsTakenInto v w x y g h answer (Some p) =
    (w ≡ joined_chunk v (g - h.prev) p h.units) × (y ≡ without_gap x p.units (g - h.prev)) × (answer ≡ 16 * (g - h.prev))

abbrev pub IsTakenBefore : Chunks → Chunks → GapIndex → GapIndex → ℕ → Head → ℕ → Type 0
IsTakenBefore v w x y g h answer = IsTakenInto v w x y g h answer (gap_before v g h)
