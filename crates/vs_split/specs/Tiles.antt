-- How the chunks tile their spans.
use Rattle.std.specs.Prelude.{◌≡◌, ℕ, ◌+◌, ◌-◌, ◌*◌, ◌/◌, ◌%◌, ◌<◌, ◌≤◌, ◌⊎◌, false, length, Option, Some, None}
use Rattle.vs_headers.specs.declared.Head.{Head}
use Rattle.vs_split.specs.Chunks.{Chunks, head_at, chunk_at}

-- the pages of a span: 16 to 33 of one segment, behind its two header pages
pub record AreSpanPages (v : Chunks) (first pages : ℕ) : Type 0 where
  pub least : 16 ≤ pages
  pub most : pages ≤ 33
  pub usable : 2 ≤ first % 256
  pub one_segment : first % 256 + pages ≤ 256
  pub there : 256 * (first + pages) ≤ length v.heads

-- the granule behind the 48 bytes at the front of a span
abbrev pub front_of : ℕ → ℕ
front_of first = 256 * first + 3

-- no chunk lies in these granules
abbrev pub IsClear : Chunks → ℕ → ℕ → Type 0
IsClear v from to = (g : ℕ) (h : Head) → head_at v g ≡ Some h → (g + h.units ≤ from) ⊎ (to ≤ g)

-- the chunk that ends in front of a granule, for one that is not the first of its span
pub record IsBehind (at : ℕ → Option Head) (g prev : ℕ) : Type 0 where
  pub head : Head
  pub below : prev ≤ g
  pub there : at (g - prev) ≡ Some head
  pub units : head.units ≡ prev

-- Where the chunk h at g lies, among the chunks that start at the granules.
pub record IsTile (at : ℕ → Option Head) (g : ℕ) (h : Head) : Type 0 where
  -- it has 2 granules or more, behind the header pages of one segment
  pub some : 2 ≤ h.units
  pub usable : 512 ≤ g % 65536
  pub one_segment : g % 65536 + h.units ≤ 65536
  -- the next chunk starts at its end, and tells its size, or its span ends there, at the end of a page
  pub next : (n : Head) → at (g + h.units) ≡ Some n → n.prev ≡ h.units
  pub last : at (g + h.units) ≡ None → (g + h.units) % 256 ≡ 0
  -- it is the first of its span, or the chunk before ends where it starts
  pub first : h.prev ≡ 0 → g % 256 ≡ 3
  pub behind : 0 < h.prev → IsBehind at g h.prev
  -- no other chunk starts in it
  pub apart : (k : ℕ) (n : Head) → g < k → at k ≡ Some n → g + h.units ≤ k

-- The chunks of each span lie one behind the other, from behind its front to its end.
pub record IsTiled (v : Chunks) : Type 0 where
  pub segments : ℕ
  pub granules : length v.heads ≡ 65536 * segments
  pub few : segments ≤ 16
  pub tiles : (g : ℕ) (h : Head) → head_at v g ≡ Some h → IsTile (head_at v) g h

-- one free chunk fills the span whose first page this is
pub record IsWhole (v : Chunks) (first : ℕ) (h : Head) : Type 0 where
  pub there : head_at v (front_of first) ≡ Some h
  pub free : h.busy ≡ false
  pub first_of : h.prev ≡ 0
  pub last_of : head_at v (front_of first + h.units) ≡ None

-- the chunk at an address has 2 granules or more on both sides of a cut behind its first n
pub record CanSplit (v : Chunks) (addr n : ℕ) : Type 0 where
  pub head : Head
  pub there : chunk_at v addr ≡ Some head
  pub front : 2 ≤ n
  pub back : n + 2 ≤ head.units

-- a chunk starts at an address, and another where it ends
pub record HasNext (v : Chunks) (addr : ℕ) : Type 0 where
  pub head : Head
  pub next : Head
  pub there : chunk_at v addr ≡ Some head
  pub behind : head_at v (addr / 16 + head.units) ≡ Some next

-- a chunk starts at an address, and is not the first of its span
pub record HasPrev (v : Chunks) (addr : ℕ) : Type 0 where
  pub head : Head
  pub there : chunk_at v addr ≡ Some head
  pub some : 0 < head.prev
