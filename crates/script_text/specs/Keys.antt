-- Names as numbers that compare fast.
use Rattle.std.specs.Prelude.{ℕ, ◌+◌, ◌*◌, List, [], ◌∷◌, take, drop}
use Rattle.std.specs.declared.cmp.Ordering.{Ordering}
use Rattle.std.specs.Ordering.{nat_cmp, ordering_then}

-- the number that bytes stand for, the first byte counting ones
abbrev pub packed : List ℕ → ℕ
packed [] = 0
packed (c ∷ cs) = c + 256 * packed cs

-- a name of at most 32 bytes, as the numbers of its first 16 bytes and of the others
abbrev pub key_of : List ℕ → ℕ × ℕ
key_of name = (packed (take 16 name), packed (drop 16 name))

abbrev pub key_cmp : ℕ × ℕ → ℕ × ℕ → Ordering
key_cmp x y = ordering_then (nat_cmp x.0 y.0) (nat_cmp x.1 y.1)
