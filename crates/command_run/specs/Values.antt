-- The values of names, by their numbers.
use Rattle.std.specs.Prelude.{ℕ, List, slice_index_or}

abbrev pub value_at : List ℕ → ℕ → ℕ
value_at values name = slice_index_or values name 0
