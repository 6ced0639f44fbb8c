-- What holds of the buckets and their blocks.
use Rattle.std.specs.Prelude.{◌≡◌, ℕ, ◌+◌, ◌*◌, ◌%◌, ◌<◌, ◌≤◌, ◌↔◌, nat_lt, [], ◌∷◌, map, Some, None}
use Rattle.heap_model.specs.Bits.{has_bit}
use Rattle.heap_model.specs.Buckets.{bucket_of, block_size, bucket_pages, block_count, words_in_use, valid_bits, block_address}
use Rattle.lfh_buckets.specs.Blocks.{IsBucket, IsBlockAt}

-- The bucket of each size at an end of a step of the table.
abbrev pub BucketsOfSizes : Type 0
BucketsOfSizes =
    map bucket_of (0 ∷ 1 ∷ 16 ∷ 17 ∷ 1024 ∷ 1025 ∷ 2048 ∷ 2049 ∷ 4096 ∷ 4097 ∷ 8192 ∷ 8193 ∷ 16368 ∷ 16369 ∷ [])
    ≡ Some 1 ∷ Some 1 ∷ Some 1 ∷ Some 2 ∷ Some 64 ∷ Some 65 ∷ Some 80 ∷ Some 81 ∷ Some 96 ∷ Some 97 ∷ Some 112 ∷ Some 113 ∷ Some 128 ∷ None ∷ []

-- a line of the table of subsegments
pub record Line : Type 0 where
  pub size : ℕ
  pub pages : ℕ
  pub count : ℕ

abbrev pub line_of : ℕ → Line
line_of b = record { size = block_size b; pages = bucket_pages b; count = block_count b }

abbrev pub line : ℕ → ℕ → ℕ → Line
line size pages count = record { size = size; pages = pages; count = count }

-- The table of subsegments: block size, pages and count of the first and the last bucket of each step, and of the
-- buckets where the pages change.
abbrev pub TableOfSubsegments : Type 0
TableOfSubsegments =
    map line_of (1 ∷ 4 ∷ 16 ∷ 17 ∷ 64 ∷ 65 ∷ 80 ∷ 96 ∷ 97 ∷ 112 ∷ 113 ∷ 128 ∷ [])
    ≡ line 16 1 252 ∷ line 64 1 63 ∷ line 256 1 15 ∷ line 272 4 60 ∷ line 1024 4 15 ∷ line 1088 16 60 ∷ line 2048 16 31
    ∷ line 4096 16 15 ∷ line 4352 64 60 ∷ line 8192 64 31 ∷ line 8704 64 30 ∷ line 16384 64 15 ∷ []

-- Bucket b is the first whose blocks hold n bytes.
pub record IsFirstThatHolds (n b : ℕ) : Type 0 where
  pub bucket : IsBucket b
  pub holds : n ≤ block_size b
  pub first : (c : ℕ) → 1 ≤ c → c < b → block_size c < n

-- The bucket of a size is the first whose blocks hold it; there is one exactly up to 16,368 bytes.
abbrev pub BucketIsSmallest : Type 0
BucketIsSmallest = (n b : ℕ) → bucket_of n ≡ Some b → IsFirstThatHolds n b

abbrev pub BucketsEndAt16368 : Type 0
BucketsEndAt16368 = (n : ℕ) → (bucket_of n ≡ None) ↔ (16368 < n)

-- A larger bucket has larger blocks.
abbrev pub SizesGrow : Type 0
SizesGrow = (b c : ℕ) → IsBucket b → IsBucket c → b < c → block_size b < block_size c

-- Each bucket has 15 to 252 blocks, so four bitmap words do.
pub record HasFewBlocks (b : ℕ) : Type 0 where
  pub least : 15 ≤ block_count b
  pub most : block_count b ≤ 252
  pub words : words_in_use b ≤ 4

abbrev pub BlocksAreFew : Type 0
BlocksAreFew = (b : ℕ) → IsBucket b → HasFewBlocks b

-- Bit i of word w is valid exactly where block 64 * w + i is one.
abbrev pub BitsStandForBlocks : Type 0
BitsStandForBlocks = (b w i : ℕ) → IsBucket b → i < 64 → has_bit (valid_bits b w) i ≡ nat_lt (64 * w + i) (block_count b)

-- At most one block starts at an address, and a block's address is its own.
abbrev pub OneBlockAtAnAddress : Type 0
OneBlockAtAnAddress = (b head a i j : ℕ) → IsBucket b → IsBlockAt b head a i → IsBlockAt b head a j → i ≡ j

-- A block ends where the next begins, or before.
abbrev pub BlocksLieApart : Type 0
BlocksLieApart =
    (b head i j : ℕ) → IsBucket b → i < j → block_address b head i + block_size b ≤ block_address b head j

abbrev pub BlocksAreAligned : Type 0
BlocksAreAligned = (b head i : ℕ) → IsBucket b → block_address b head i % 16 ≡ 0

-- A block lies behind the first 64 bytes of its subsegment, and inside its pages.
pub record IsInside (b head i : ℕ) : Type 0 where
  pub behind : 4096 * head + 64 ≤ block_address b head i
  pub inside : block_address b head i + block_size b ≤ 4096 * (head + bucket_pages b)

abbrev pub BlocksLieInside : Type 0
BlocksLieInside = (b head i : ℕ) → IsBucket b → i < block_count b → IsInside b head i
