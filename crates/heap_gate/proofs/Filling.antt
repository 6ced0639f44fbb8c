-- A list that is filled, word by word, with those of another.
use Rattle.std.proofs.Common.{◌≡◌, ℕ, suc, zero, ◌+◌, ◌<◌, List, [], ◌∷◌, length, get_or, sym, ◌∙◌, subst, arith, inl, inr}
use Rattle.std.proofs.Math.ListN.{set}
use Rattle.std.proofs.lemmas.Bool.{cases_eq}
use Rattle.std.proofs.lemmas.List.{get_or-set_same, get_or-set_other}
use mathlib.Core.Option.{some, some-injective}
use lib.ListN.{get_elem?}

elem_is : (ys : List ℕ) (i v : ℕ) → get_elem? ys i ≡ some v → get_or ys i 0 ≡ v
elem_is [] i v e = absurd (let no : ⊥ = cc (e) in no)
elem_is (y ∷ ys) zero v e = some-injective y v e
elem_is (y ∷ ys) (suc i) v e = elem_is ys i v e

pub filled_more : (xs ys : List ℕ) (i v : ℕ) → i < length xs → get_elem? ys i ≡ some v → ((k : ℕ) → k < i → get_or xs k 0 ≡ get_or ys k 0) → (k : ℕ) → k < i + 1 → get_or (set xs i v) k 0 ≡ get_or ys k 0
filled_more xs ys i v l e h k less = elim (cases_eq k i) [
  | inl q ↦ subst (λ (j : ℕ). get_or (set xs i v) j 0 ≡ get_or ys j 0) (sym q) (get_or-set_same xs i v 0 l ∙ sym (elem_is ys i v e))
  | inr q ↦ get_or-set_other xs i k v 0 q ∙ h k (omega arith)
]
