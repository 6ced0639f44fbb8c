-- On the elements of lists that are put together, mapped and sorted.
use Rattle.std.proofs.Common.{◌≡◌, List, [], ◌∷◌, ◌++◌, map, Option, Some, None, refl, sym, ap, ◌∙◌, subst, ltb, inl, inr, ◌⊎◌}
use Rattle.std.specs.Prelude.{filter_map, flat_map}
use Rattle.std.specs.List.{cons_option}
use Rattle.std.proofs.lemmas.Bool.{cases_Bool}
use Rattle.heap_model.specs.State.{Place, insert_place, by_address}
use Rattle.heap_soundness.specs.Sound.{IsOneOf}

pub in_parts : {A : Type 0} (x : A) (xs ys : List A) → IsOneOf x (xs ++ ys) → IsOneOf x xs ⊎ IsOneOf x ys
in_parts x [] ys i = inr i
in_parts x (y ∷ xs) ys (inl e) = inl (inl e)
in_parts x (y ∷ xs) ys (inr i) = elim (in_parts x xs ys i) [ inl j ↦ inl (inr j) | inr j ↦ inr j ]

pub in_left : {A : Type 0} (x : A) (xs ys : List A) → IsOneOf x xs → IsOneOf x (xs ++ ys)
in_left x [] ys i = absurd i
in_left x (y ∷ xs) ys (inl e) = inl e
in_left x (y ∷ xs) ys (inr i) = inr (in_left x xs ys i)

pub in_right : {A : Type 0} (x : A) (xs ys : List A) → IsOneOf x ys → IsOneOf x (xs ++ ys)
in_right x [] ys i = i
in_right x (y ∷ xs) ys i = inr (in_right x xs ys i)

pub in_mapped : {A B : Type 0} (f : A → B) (x : A) (xs : List A) → IsOneOf x xs → IsOneOf (f x) (map f xs)
in_mapped f x [] i = absurd i
in_mapped f x (y ∷ xs) (inl e) = inl (ap f e)
in_mapped f x (y ∷ xs) (inr i) = inr (in_mapped f x xs i)

pub from_mapped : {A B : Type 0} (f : A → B) (xs : List A) (y : B) → IsOneOf y (map f xs) → (x : A) × IsOneOf x xs × (f x ≡ y)
from_mapped f [] y i = absurd i
from_mapped f (x ∷ xs) y (inl e) = (x, inl refl, e)
from_mapped f (x ∷ xs) y (inr i) = let r = from_mapped f xs y i in (r.0, inr r.1, r.2)

pub in_flat : {A B : Type 0} (f : A → List B) (x : A) (y : B) (xs : List A) → IsOneOf x xs → IsOneOf y (f x) → IsOneOf y (flat_map f xs)
in_flat f x y [] i j = absurd i
in_flat {A = A} f x y (z ∷ zs) (inl e) j = in_left y (f z) (flat_map f zs) (subst (λ (w : A). IsOneOf y (f w)) (sym e) j)
in_flat f x y (z ∷ zs) (inr i) j = in_right y (f z) (flat_map f zs) (in_flat f x y zs i j)

pub from_flat : {A B : Type 0} (f : A → List B) (xs : List A) (y : B) → IsOneOf y (flat_map f xs) → (x : A) × IsOneOf x xs × IsOneOf y (f x)
from_flat f [] y i = absurd i
from_flat f (x ∷ xs) y i = elim (in_parts y (f x) (flat_map f xs) i) [
  | inl j ↦ (x, inl refl, j)
  | inr j ↦ let r = from_flat f xs y j in (r.0, inr r.1, r.2)
]

in_cons : {A : Type 0} (o : Option A) (y : A) (ys : List A) → IsOneOf y ys → IsOneOf y (cons_option o ys)
in_cons None y ys i = i
in_cons (Some x) y ys i = inr i

here_cons : {A : Type 0} (o : Option A) (y : A) (ys : List A) → o ≡ Some y → IsOneOf y (cons_option o ys)
here_cons None y ys e = absurd (let z : ⊥ = cc in z)
here_cons (Some x) y ys e = inl (let same : x ≡ y = cc in same)

pub in_chosen : {A B : Type 0} (f : A → Option B) (x : A) (y : B) (xs : List A) → f x ≡ Some y → IsOneOf x xs → IsOneOf y (filter_map f xs)
in_chosen f x y [] e i = absurd i
in_chosen {A = A} f x y (z ∷ xs) e (inl h) = here_cons (f z) y (filter_map f xs) (ap f h ∙ e)
in_chosen f x y (z ∷ xs) e (inr i) = in_cons (f z) y (filter_map f xs) (in_chosen f x y xs e i)

in_inserted : (p q : Place) (ps : List Place) → IsOneOf q ps → IsOneOf q (insert_place p ps)
in_inserted p q [] i = absurd i
in_inserted p q (r ∷ rs) (inl f) = elim (cases_Bool (ltb p.start r.start)) [ inl e ↦ rw e (inr (inl f)) | inr e ↦ rw e (inl f) ]
in_inserted p q (r ∷ rs) (inr j) = elim (cases_Bool (ltb p.start r.start)) [ inl e ↦ rw e (inr (inr j)) | inr e ↦ rw e (inr (in_inserted p q rs j)) ]

here_inserted : (p : Place) (ps : List Place) → IsOneOf p (insert_place p ps)
here_inserted p [] = inl refl
here_inserted p (r ∷ rs) = elim (cases_Bool (ltb p.start r.start)) [ inl e ↦ rw e (inl refl) | inr e ↦ rw e (inr (here_inserted p rs)) ]

pub in_sorted : (p : Place) (ps : List Place) → IsOneOf p ps → IsOneOf p (by_address ps)
in_sorted p [] i = absurd i
in_sorted p (q ∷ qs) (inl e) = subst (λ (r : Place). IsOneOf p (insert_place r (by_address qs))) (sym e) (here_inserted p (by_address qs))
in_sorted p (q ∷ qs) (inr i) = in_inserted q p (by_address qs) (in_sorted p qs i)

from_inserted : (p q : Place) (ps : List Place) → IsOneOf q (insert_place p ps) → (p ≡ q) ⊎ IsOneOf q ps
from_inserted p q [] (inl e) = inl e
from_inserted p q [] (inr i) = absurd i
from_inserted p q (r ∷ rs) i = elim (cases_Bool (ltb p.start r.start)) [
  | inl e ↦ in_front (rw e at i)
  | inr e ↦ behind (rw e at i) (λ j. from_inserted p q rs j)
]
  where
    in_front : IsOneOf q (p ∷ r ∷ rs) → (p ≡ q) ⊎ IsOneOf q (r ∷ rs)
    in_front (inl e) = inl e
    in_front (inr j) = inr j

    behind : IsOneOf q (r ∷ insert_place p rs) → (IsOneOf q (insert_place p rs) → (p ≡ q) ⊎ IsOneOf q rs) → (p ≡ q) ⊎ IsOneOf q (r ∷ rs)
    behind (inl e) again = inr (inl e)
    behind (inr j) again = elim (again j) [ inl e ↦ inl e | inr k ↦ inr (inr k) ]

pub from_sorted : (p : Place) (ps : List Place) → IsOneOf p (by_address ps) → IsOneOf p ps
from_sorted p [] i = absurd i
from_sorted p (q ∷ qs) i = elim (from_inserted q p (by_address qs) i) [ inl e ↦ inl e | inr j ↦ inr (from_sorted p qs j) ]
