-- What holds of each part of a script.
use Rattle.std.proofs.Common.{ℕ, zero, suc, ◌<◌, List, [], ◌∷◌, map, get_or, arith}
use Rattle.std.specs.Prelude.{length}
use Rattle.std.specs.List.{AllByRecursion}

pub mapped_at : {A B : Type 0} (P : B → Type 0) (f : A → B) (xs : List A) (i : ℕ) (d : A) → AllByRecursion P (map f xs) → i < length xs → P (f (get_or xs i d))
mapped_at P f [] i d a l = absurd (omega arith)
mapped_at P f (x ∷ xs) zero d a l = a.0
mapped_at P f (x ∷ xs) (suc i) d a l = mapped_at P f xs i d a.1 (omega arith)
