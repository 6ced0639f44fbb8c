-- A set of pages, as bits.
use Rattle.std.specs.Prelude.{◌≡◌, ℕ, ◌/◌, ◌%◌, ◌==◌, ◌<◌, ◌≤◌, Bool, true, false, List, slice_index}
use Rattle.std.specs.Int.{bit_at}

-- page p is bit p % 64 of word p / 64
abbrev pub has : List ℕ → ℕ → Bool
has bits page = bit_at (slice_index bits (page / 64)) (page % 64) == 1

-- no page from one up to another is in it
abbrev pub HasNone : List ℕ → ℕ → ℕ → Type 0
HasNone bits from to = (page : ℕ) → from ≤ page → page < to → has bits page ≡ false

-- the first page from one up to another that is in it
pub record IsFirstIn (bits : List ℕ) (from to page : ℕ) : Type 0 where
  pub low : from ≤ page
  pub high : page < to
  pub there : has bits page ≡ true
  pub first : HasNone bits from page
