-- Where the blocks of a subsegment lie.
use Rattle.std.proofs.Common.{◌≡◌, ℕ, ◌+◌, ◌-◌, ◌*◌, ◌/◌, ◌%◌, ◌<◌, ◌≤◌, sym, ap, ◌∙◌, arith}
use Rattle.std.proofs.Math.Nat.{mul-div_cancel, div-mul-le_self}
use Rattle.heap_model.specs.declared.Limits.{Limits}
use Rattle.heap_model.specs.Buckets.{block_size, block_count, block_address, bucket_pages}
use Rattle.lfh_buckets.specs.Blocks.{IsBucket}
use Rattle.lfh_buckets.proofs.BlockLemmas.{size_in_granules}

-- a block begins at a granule
pub aligned : (b head i : ℕ) → IsBucket b → block_address b head i % 16 ≡ 0
aligned b head i h = by_size (block_size b) (size_in_granules b h).0
  where
    by_size : (s : ℕ) → s % 16 ≡ 0 → (4096 * head + 64 + i * s) % 16 ≡ 0
    by_size s g =
        let q : s ≡ 16 * (s / 16) = omega (arith, g) in
        let m : i * s ≡ i * (16 * (s / 16)) = ap (λ (k : ℕ). i * k) q in
        omega arith

-- .. and ends with the pages of its subsegment, or before
pub block_end : (b head i : ℕ) → i < block_count b → block_address b head i + block_size b ≤ 4096 * (head + bucket_pages b)
block_end b head i l = by (block_size b) (bucket_pages b) l
  where
    by : (s pages : ℕ) → i < (4096 * pages - 64) / s → 4096 * head + 64 + i * s + s ≤ 4096 * (head + pages)
    by s pages l = grind (arith, div-mul-le_self)

-- no two blocks of a subsegment begin at one address
pub same_number : (b head i j : ℕ) → IsBucket b → block_address b head i ≡ block_address b head j → i ≡ j
same_number b head i j h e = by_size (block_size b) (size_in_granules b h).1 e
  where
    by_size : (s : ℕ) → 16 ≤ s → 4096 * head + 64 + i * s ≡ 4096 * head + 64 + j * s → i ≡ j
    by_size s some e =
        let p : 0 < s = omega (arith, some) in
        let m : i * s ≡ j * s = omega arith in
        sym (mul-div_cancel i p) ∙ ap (λ (n : ℕ). n / s) m ∙ mul-div_cancel j p

-- What follows of where a block lies: of size bytes from start on, in a subsegment of some pages from page head on.
pub record IsSeat (l : Limits) (head pages size start : ℕ) : Type 0 where
  pub some : 16 ≤ size
  pub aligned : start % 16 ≡ 0
  pub granule : start / 16 < 65536 * l.segments
  pub page : start / 4096 < 256 * l.segments
  pub from : head ≤ start / 4096
  pub before : start / 4096 < head + pages
  pub below : start + size ≤ 4096 * (head + pages)

pub block_seat : (l : Limits) (b head pages i : ℕ) → IsBucket b → pages ≡ bucket_pages b → head + pages ≤ 256 * l.segments → i < block_count b → IsSeat l head pages (block_size b) (block_address b head i)
block_seat l b head pages i h same there below =
    by (block_size b) (bucket_pages b) (block_address b head i) same (size_in_granules b h).1 (omega arith) (aligned b head i h) (block_end b head i below)
  where
    by : (s n start : ℕ) → pages ≡ n → 16 ≤ s → 4096 * head ≤ start → start % 16 ≡ 0 → start + s ≤ 4096 * (head + n) → IsSeat l head pages s start
    by s n start e some low whole end =
        record { some = some; aligned = whole; granule = omega arith; page = omega arith; from = omega arith; before = omega arith; below = omega arith }
