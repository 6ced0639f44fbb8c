-- What a filter of a list has, and spans in order.
use Rattle.std.proofs.Common.{◌≡◌, ℕ, ◌+◌, ◌≤◌, Bool, true, List, [], ◌∷◌, ap, ◌∙◌, subst, arith, inl, inr}
use Rattle.std.specs.Prelude.{filter}
use Rattle.std.proofs.lemmas.Bool.{cases_Bool}
use Rattle.heap_model.specs.State.{Span}
use Rattle.heap_soundness.specs.Sound.{IsOneOf, AreInOrder}

-- what passes the test is in the filtered list
pub into_filter : {A : Type 0} (t : A → Bool) (xs : List A) (x : A) → IsOneOf x xs → t x ≡ true → IsOneOf x (filter t xs)
into_filter t [] x i h = absurd i
into_filter t (y ∷ ys) x (inl e) h = let g : t y ≡ true = ap t e ∙ h in rw g (inl e)
into_filter t (y ∷ ys) x (inr i) h = elim (cases_Bool (t y)) [ inl e ↦ rw e (inr (into_filter t ys x i h)) | inr e ↦ rw e (into_filter t ys x i h) ]

-- what is in the filtered list passes the test
pub in_filter : (t : Span → Bool) (xs : List Span) (x : Span) → IsOneOf x (filter t xs) → IsOneOf x xs × (t x ≡ true)
in_filter t [] x i = absurd i
in_filter t (y ∷ ys) x i = elim (cases_Bool (t y)) [
  | inl g ↦ of_head g (rw g at i) (in_filter t ys x)
  | inr g ↦ let u = in_filter t ys x (rw g at i) in (inr u.0, u.1)
]
  where
    of_head : t y ≡ true → IsOneOf x (y ∷ filter t ys) → (IsOneOf x (filter t ys) → IsOneOf x ys × (t x ≡ true)) → IsOneOf x (y ∷ ys) × (t x ≡ true)
    of_head g (inl e) more = (inl e, subst (λ (z : Span). t z ≡ true) e g)
    of_head g (inr j) more = let u = more j in (inr u.0, u.1)

-- in a list in order each span begins from there on
pub first_from : (from : ℕ) (xs : List Span) (y : Span) → AreInOrder from xs → IsOneOf y xs → from ≤ y.first
first_from from [] y a i = absurd i
first_from from (x ∷ xs) y a (inl e) = let f = a.0 in subst (λ (z : Span). from ≤ z.first) e f
first_from from (x ∷ xs) y a (inr i) = let f = a.0 in let k = first_from (x.first + x.pages) xs y a.2 i in omega arith
