-- The reserved segments and the committed pages.
use Rattle.std.specs.Prelude.{ℕ, ◌+◌, ◌*◌, ◌≤◌, ◌≡◌, ◌&&◌, not, nat_le, nat_lt, Bool, false, List, length, slice_index_or}

-- What a region holds: how many segments there are, how many of them are reserved, and a mark for each page, true where it is committed.
pub record Held : Type 0 where
  pub segments : ℕ
  pub reserved : ℕ
  pub marks : List Bool

abbrev pub mark_at : List Bool → ℕ → Bool
mark_at marks page = slice_index_or marks page false

-- whether a page is committed; one beyond the marks is not
abbrev pub committed_of : Held → ℕ → Bool
committed_of h = mark_at h.marks

pub record IsHeld (h : Held) : Type 0 where
  pub few : h.segments ≤ 16
  pub reserved : h.reserved ≤ h.segments
  pub marks : length h.marks ≡ 256 * h.segments

-- the committed pages without so many from first on
abbrev pub decommit : ℕ → ℕ → (ℕ → Bool) → ℕ → Bool
decommit first pages committed page = not (nat_le first page && nat_lt page (first + pages)) && committed page
