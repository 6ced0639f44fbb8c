-- Where the words of the table lie, for the limits l.
use Rattle.std.specs.Prelude.{◌≡◌, ℕ, ◌+◌, ◌*◌, ◌/◌, ◌%◌, ◌^◌, List, [], ◌∷◌}
use Rattle.heap_model.specs.declared.Limits.{Limits}
use Rattle.heap_model.specs.declared.What.{What}
use Rattle.heap_model.specs.declared.What.TheVariants as whats

-- so many words from one on
pub record Region : Type 0 where
  pub from : ℕ
  pub words : ℕ

-- the word of the number of callers that were made
abbrev pub made_word : ℕ
made_word = 0

-- the word of the gate
abbrev pub gate_at : ℕ
gate_at = 1

-- the word of a lock
abbrev pub lock_at : What → ℕ
lock_at whats.Gate = gate_at
lock_at whats.Lfh = 2
lock_at whats.Vs = 3
lock_at whats.Back = 4
lock_at whats.Large = 5

-- the lock of a layer has a word of its own
abbrev pub IsLayerLock : What → Type 0
IsLayerLock whats.Gate = ⊥
IsLayerLock _ = Unit {0}

-- the regions of the words, in their order
abbrev pub made_region : Region
made_region = record { from = 0; words = 1 }

abbrev pub gate_region : Region
gate_region = record { from = 1; words = 1 }

abbrev pub locks_region : Region
locks_region = record { from = 2; words = 4 }

-- one word for each bucket, from 1
abbrev pub active_region : Region
active_region = record { from = 6; words = 128 }

-- 16 words for each bucket, one for each slot
abbrev pub hints_region : Region
hints_region = record { from = 134; words = 2048 }

-- one word for each page
abbrev pub tags_region : Limits → Region
tags_region l = record { from = 2182; words = 256 * l.segments }

-- four words for each page
abbrev pub bitmaps_region : Limits → Region
bitmaps_region l = record { from = 2182 + 256 * l.segments; words = 1024 * l.segments }

-- one word for each granule of the segments
abbrev pub sizes_region : Limits → Region
sizes_region l = record { from = 2182 + 1280 * l.segments; words = 65536 * l.segments }

-- one word for each 8 bytes of the segments and of the large area
abbrev pub data_region : Limits → Region
data_region l = record { from = 2182 + 66816 * l.segments; words = 131072 * l.segments + 512 * l.large_pages }

-- how many words there are
abbrev pub word_count : Limits → ℕ
word_count l = 2182 + 197888 * l.segments + 512 * l.large_pages

-- all regions
abbrev pub regions : Limits → List Region
regions l =
    made_region ∷ gate_region ∷ locks_region ∷ active_region ∷ hints_region ∷ tags_region l ∷ bitmaps_region l ∷ sizes_region l ∷ data_region l ∷ []

-- each region begins where the one before it ends, and the last ends at a word
abbrev pub Fill : ℕ → List Region → ℕ → Type 0
Fill from [] end = from ≡ end
Fill from (r ∷ rs) end = (r.from ≡ from) × Fill (r.from + r.words) rs end

-- the slots of the layers' states
abbrev pub vs_slot : ℕ
vs_slot = 0

abbrev pub back_slot : ℕ
back_slot = 1

abbrev pub large_slot : ℕ
large_slot = 2

-- how many slots there are
abbrev pub slot_count : ℕ
slot_count = 3

---- The word of ..

-- whether bucket b + 1 is active
abbrev pub active_at : ℕ → ℕ
active_at b = 6 + b

-- the hint of a bucket and a slot
abbrev pub hint_at : ℕ → ℕ → ℕ
hint_at b t = 118 + 16 * b + t

-- the tag of a page
abbrev pub tag_at : ℕ → ℕ
tag_at page = 2182 + page

-- word w of the bitmap of the subsegment that begins at a page
abbrev pub word_at_page : Limits → ℕ → ℕ → ℕ
word_at_page l head w = 2182 + 256 * l.segments + (4 * head + w)

-- the bitmap in which block i of that subsegment has its bit, and the bit
abbrev pub bitmap_at : Limits → ℕ → ℕ → ℕ
bitmap_at l head i = 2182 + 256 * l.segments + (4 * head + i / 64)

-- the bit of block i in its word of the bitmap
abbrev pub bit_of_block : ℕ → ℕ
bit_of_block i = 1 * 2 ^ (i % 64) % 2 ^ 64

-- the size of the block at an address
abbrev pub size_at : Limits → ℕ → ℕ
size_at l addr = 2182 + 1280 * l.segments + addr / 16

-- a data word, and how many there are
abbrev pub data_at : Limits → ℕ → ℕ
data_at l w = 2182 + 66816 * l.segments + w

-- how many data words there are
abbrev pub data_count : Limits → ℕ
data_count l = 131072 * l.segments + 512 * l.large_pages
