-- A bucket, and the block of a subsegment that starts at an address.
use Rattle.std.specs.Prelude.{◌≡◌, ℕ, ◌<◌, ◌≤◌}
use Rattle.heap_model.specs.Buckets.{block_count, block_address}

-- buckets have the numbers 1 to 128
pub record IsBucket (b : ℕ) : Type 0 where
  pub first : 1 ≤ b
  pub last : b ≤ 128

-- block i of the subsegment of bucket b whose first page is head starts at the address a
pub record IsBlockAt (b head a i : ℕ) : Type 0 where
  pub index : i < block_count b
  pub address : block_address b head i ≡ a
