-- How the counters of the buckets change.
use Rattle.std.specs.Prelude.{ℕ, ◌+◌, ◌-◌, ◌<◌, min, List, slice_set, Option, Some, None}
use Rattle.std.specs.List.{slice_index_or}

-- one more, or one less, of the bucket, where there is one
abbrev pub one_more : Option ℕ → List ℕ → List ℕ
one_more None live = live
one_more (Some b) live = slice_set live b (slice_index_or live b 0 + 1)

abbrev pub one_less : Option ℕ → List ℕ → List ℕ
one_less None live = live
one_less (Some b) live = slice_set live b (slice_index_or live b 0 - 1)

-- served once more; more than 2,040 times are not counted
abbrev pub once_more : Option ℕ → List ℕ → List ℕ
once_more None served = served
once_more (Some b) served = slice_set served b (min 2040 (slice_index_or served b 0 + 1))

-- each number can grow by 1 in 32 bits
abbrev pub CanGrow : List ℕ → Type 0
CanGrow live = (b : ℕ) → slice_index_or live b 0 < 4294967295

abbrev pub IsSomeLeft : Option ℕ → List ℕ → Type 0
IsSomeLeft None live = Unit {0}
IsSomeLeft (Some b) live = 0 < slice_index_or live b 0
