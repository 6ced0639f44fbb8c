-- Words that have a value under a mask.
use Rattle.std.specs.Prelude.{◌≡◌, ◌≢◌, ℕ, ◌<◌, ◌≤◌, List, length, slice_index, bit_and}

-- no word from low up to high has the value under the mask
abbrev pub NoneMatches : List ℕ → ℕ → ℕ → ℕ → ℕ → Type 0
NoneMatches words mask value low high = (k : ℕ) → low ≤ k → k < high → bit_and (slice_index words k) mask ≢ value

-- word i is the first from low on that has it
pub record IsFirstMatch (words : List ℕ) (mask value low i : ℕ) : Type 0 where
  pub from : low ≤ i
  pub in_range : i < length words
  pub matches : bit_and (slice_index words i) mask ≡ value
  pub first : NoneMatches words mask value low i
