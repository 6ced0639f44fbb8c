-- What the words of a table tell of the blocks of the low-fragmentation front end.
use Rattle.std.specs.Prelude.{◌≡◌, ℕ, ◌+◌, ◌*◌, ◌/◌, List, length, slice_index}
use Rattle.heap_model.specs.declared.Limits.{Limits}
use Rattle.heap_model.specs.Limits.{AreValid}
use Rattle.claim_rule.specs.Places.{bitmaps_region, sizes_region, word_count}

-- the words are those of a heap with these limits
pub record AreWords (l : Limits) (words : List ℕ) : Type 0 where
  pub limits : AreValid l
  pub as_long : length words ≡ word_count l

-- where the bitmap word of block i of the subsegment at page head is, and the size word of an address
abbrev pub bitmap_place : Limits → ℕ → ℕ → ℕ
bitmap_place l head i = (bitmaps_region l).from + 4 * head + i / 64

abbrev pub size_place : Limits → ℕ → ℕ
size_place l addr = (sizes_region l).from + addr / 16

-- word w of the bitmap of the subsegment at a page
abbrev pub bits_in : Limits → List ℕ → ℕ → ℕ → ℕ
bits_in l words head w = slice_index words ((bitmaps_region l).from + 4 * head + w)
