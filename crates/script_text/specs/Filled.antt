-- How many of five fields there are.
use Rattle.std.specs.Prelude.{ℕ, List, [], ◌∷◌}

abbrev pub filled : (a b c d e : List ℕ) → ℕ
filled [] b c d e = 0
filled (x ∷ xs) [] c d e = 1
filled (x ∷ xs) (y ∷ ys) [] d e = 2
filled (x ∷ xs) (y ∷ ys) (z ∷ zs) [] e = 3
filled (x ∷ xs) (y ∷ ys) (z ∷ zs) (u ∷ us) [] = 4
filled (x ∷ xs) (y ∷ ys) (z ∷ zs) (u ∷ us) (v ∷ vs) = 5
