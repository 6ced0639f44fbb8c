-- Pages, granules and the routes of sizes: the allocation types of Yason, Windows 10 Segment Heap Internals (2016), with limits chosen here.
use Rattle.std.specs.Prelude.{ℕ, ◌+◌, ◌*◌, ◌/◌, ◌-◌, max, nat_le, Bool, true, false, if◌then◌else◌}

-- the bytes of a page, the unit of the back end
abbrev pub page_bytes : ℕ
page_bytes = 4096

-- a / b, rounded up
abbrev pub ceil_div : ℕ → ℕ → ℕ
ceil_div a b = (a + b - 1) / b

-- Where a size goes. A small size goes to LFH or VS, by its bucket.
pub data Route : Type 0 where
  Small : Route
  Variable : Route
  Paged : Route
  Huge : Route

abbrev pub route_of : ℕ → Route
route_of n =
    if nat_le n 16368 then Small else
    if nat_le n 131072 then Variable else
    if nat_le n 520192 then Paged else Huge

abbrev pub is_small : Route → Bool
is_small Small = true
is_small _ = false

abbrev pub is_variable : Route → Bool
is_variable Variable = true
is_variable _ = false

abbrev pub is_paged : Route → Bool
is_paged Paged = true
is_paged _ = false

abbrev pub is_huge : Route → Bool
is_huge Huge = true
is_huge _ = false

-- the granules of a VS place of n bytes, its header included
abbrev pub units_of : ℕ → ℕ
units_of n = 1 + ceil_div (max 1 n) 16

-- the pages of a VS subsegment that is made for n bytes
abbrev pub span_pages_of : ℕ → ℕ
span_pages_of n = max 16 (ceil_div (48 + 16 * units_of n) 4096)

-- the pages of a back-end or large block of n bytes
abbrev pub pages_of : ℕ → ℕ
pages_of n = ceil_div n 4096

-- the 8-byte words of a block of n bytes
abbrev pub words_of : ℕ → ℕ
words_of n = ceil_div n 8
