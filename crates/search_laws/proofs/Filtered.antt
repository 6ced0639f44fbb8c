-- Lists of which a test keeps some.
use Rattle.std.proofs.Common.{◌≡◌, ℕ, ◌+◌, ◌≤◌, Bool, true, false, List, [], ◌∷◌, refl, ap, arith, inl, inr}
use Rattle.std.specs.Prelude.{filter}
use Rattle.std.proofs.lemmas.Bool.{cases_Bool}
use Rattle.heap_model.specs.State.{Span}
use Rattle.heap_soundness.specs.Sound.{IsOneOf, AreInOrder}

pub none_kept : {A : Type 0} (t : A → Bool) (xs : List A) → ((x : A) → IsOneOf x xs → t x ≡ false) → filter t xs ≡ []
none_kept t [] h = refl
none_kept t (x ∷ xs) h = rw (h x (inl refl)) (none_kept t xs (λ y i. h y (inr i)))

pub all_kept : {A : Type 0} (t : A → Bool) (xs : List A) → ((x : A) → IsOneOf x xs → t x ≡ true) → filter t xs ≡ xs
all_kept t [] h = refl
all_kept {A = A} t (x ∷ xs) h = rw (h x (inl refl)) (ap (λ (ys : List A). x ∷ ys) (all_kept t xs (λ y i. h y (inr i))))

lower : (low low' : ℕ) (xs : List Span) → low' ≤ low → AreInOrder low xs → AreInOrder low' xs
lower low low' [] l a = tt
lower low low' (x ∷ xs) l a = (omega (arith, a.0, l), a.1, a.2)

-- spans in order stay in order
pub filtered_in_order : (t : Span → Bool) (low : ℕ) (xs : List Span) → AreInOrder low xs → AreInOrder low (filter t xs)
filtered_in_order t low [] a = tt
filtered_in_order t low (x ∷ xs) a = elim (cases_Bool (t x)) [
  | inl e ↦ rw e (a.0, a.1, filtered_in_order t (x.first + x.pages) xs a.2)
  | inr e ↦ rw e (lower (x.first + x.pages) low (filter t xs) (omega (arith, a.0)) (filtered_in_order t (x.first + x.pages) xs a.2))
]
