-- What the table keeps to between its calls.
use Rattle.std.specs.Prelude.{◌≡◌, ℕ, ◌+◌, ◌-◌, ◌*◌, ◌/◌, ◌≤◌, List, [], ◌∷◌, ◌++◌, length, insert}
use Rattle.heap_model.specs.declared.Limits.{Limits}
use Rattle.heap_model.specs.Limits.{AreValid}
use Rattle.heap_model.specs.Geometry.{pages_of}
use Rattle.large_blocks.specs.declared.LargeBlock.{LargeBlock}
use Rattle.large_blocks.specs.Table.{LargeTable}

-- the page of the large area where a block begins
abbrev pub page_of : Limits → LargeBlock → ℕ
page_of l b = b.addr / 4096 - 256 * l.segments

-- the page behind it
abbrev pub end_of : Limits → LargeBlock → ℕ
end_of l b = page_of l b + pages_of b.size

-- whole pages of the area, none before this one, for a size of this layer
pub record IsLaid (l : Limits) (from : ℕ) (b : LargeBlock) : Type 0 where
  pub huge : 520193 ≤ b.size
  pub behind : from ≤ page_of l b
  pub aligned : b.addr ≡ 4096 * (256 * l.segments + page_of l b)
  pub inside : end_of l b ≤ l.large_pages

-- each behind the one before
abbrev pub AreLaid : Limits → ℕ → List LargeBlock → Type 0
AreLaid l from [] = Unit {0}
AreLaid l from (b ∷ bs) = IsLaid l from b × AreLaid l (end_of l b) bs

pub record IsSound (t : LargeTable) : Type 0 where
  pub limits : AreValid t.limits
  pub laid : AreLaid t.limits 0 t.blocks

---- What the calls look for

-- a block of so many pages can stand in the table as this row, at this address
pub record IsRoom (l : Limits) (bs : List LargeBlock) (pages index addr : ℕ) : Type 0 where
  pub inside : index ≤ length bs
  pub laid : (n : ℕ) → 520193 ≤ n → pages_of n ≡ pages → AreLaid l 0 (insert bs index (record { addr = addr; size = n }))

-- the row of the block at an address
pub record IsRow (bs : List LargeBlock) (addr index : ℕ) : Type 0 where
  pub front : List LargeBlock
  pub block : LargeBlock
  pub back : List LargeBlock
  pub rows : bs ≡ front ++ block ∷ back
  pub index_is : length front ≡ index
  pub there : block.addr ≡ addr

-- the page where the next block begins, or the end of the area
abbrev pub page_behind : Limits → List LargeBlock → ℕ
page_behind l [] = l.large_pages
page_behind l (b ∷ bs) = page_of l b

-- the pages of the first block and of the free run right behind it
abbrev pub reach_at : Limits → List LargeBlock → ℕ
reach_at l [] = 0
reach_at l (b ∷ bs) = page_behind l bs - page_of l b
