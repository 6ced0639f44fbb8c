-- On the spans of a back end: which are there after a step, and that no two share a unit.
use Rattle.std.proofs.Common.{◌≡◌, ℕ, ◌+◌, ◌<◌, ◌≤◌, Bool, true, false, List, [], ◌∷◌, Some, refl, sym, ap, ◌∙◌, subst, arith, leb, ltb, inl, inr, ◌⊎◌}
use Rattle.std.specs.List.{find, list_any, AllByRecursion}
use Rattle.std.proofs.lemmas.Bool.{cases_Bool, cases_lt, and_from, or_parts, both_ways, lt-ltb, le-leb}
use Rattle.heap_model.specs.State.{Span, insert_span, change_found, remove_found}
use Rattle.heap_model.specs.Backend.{in_span}
use Rattle.heap_model.specs.Legal.{is_back_at, with_pages}
use Rattle.heap_soundness.specs.Sound.{IsOneOf, AreInOrder}
use Rattle.heap_soundness.proofs.Lists.{any_in}

---- No two share a unit

pub above : (from : ℕ) (xs : List Span) (x : Span) → AreInOrder from xs → IsOneOf x xs → (from ≤ x.first) × (0 < x.pages)
above from [] x a i = absurd i
above from (y ∷ ys) x a (inl e) = subst (λ (z : Span). (from ≤ z.first) × (0 < z.pages)) e (a.0, a.1)
above from (y ∷ ys) x a (inr i) = let r = above (y.first + y.pages) ys x a.2 i in (omega (arith, r.0, a.0), r.1)

-- two spans are one, or one lies before the other
pub apart_spans : (from : ℕ) (xs : List Span) (x y : Span) → AreInOrder from xs → IsOneOf x xs → IsOneOf y xs → (x ≡ y) ⊎ ((x.first + x.pages ≤ y.first) ⊎ (y.first + y.pages ≤ x.first))
apart_spans from [] x y a i j = absurd i
apart_spans from (z ∷ zs) x y a (inl e) (inl f) = inl (sym e ∙ f)
apart_spans from (z ∷ zs) x y a (inl e) (inr j) = inr (inl (subst (λ (w : Span). w.first + w.pages ≤ y.first) e (above (z.first + z.pages) zs y a.2 j).0))
apart_spans from (z ∷ zs) x y a (inr i) (inl f) = inr (inr (subst (λ (w : Span). w.first + w.pages ≤ x.first) f (above (z.first + z.pages) zs x a.2 i).0))
apart_spans from (z ∷ zs) x y a (inr i) (inr j) = apart_spans (z.first + z.pages) zs x y a.2 i j

-- two spans with a unit in both are one
pub same_span : (from : ℕ) (xs : List Span) (x y : Span) (u : ℕ) → AreInOrder from xs → IsOneOf x xs → IsOneOf y xs → x.first ≤ u → u < x.first + x.pages → y.first ≤ u → u < y.first + y.pages → x ≡ y
same_span from xs x y u a i j l h k g = by_place (apart_spans from xs x y a i j)
  where
    by_place : (x ≡ y) ⊎ ((x.first + x.pages ≤ y.first) ⊎ (y.first + y.pages ≤ x.first)) → x ≡ y
    by_place (inl e) = e
    by_place (inr (inl e)) = absurd (omega arith)
    by_place (inr (inr e)) = absurd (omega arith)

-- .. and so are two that begin at one unit
pub same_first : (from : ℕ) (xs : List Span) (x y : Span) → AreInOrder from xs → IsOneOf x xs → IsOneOf y xs → x.first ≡ y.first → x ≡ y
same_first from xs x y a i j e =
    let p = above from xs x a i in
    let q = above from xs y a j in
    same_span from xs x y x.first a i j (omega arith) (omega (arith, p.1)) (omega arith) (omega (arith, q.1))

-- a unit of a span is in one
pub in_some : (xs : List Span) (x : Span) (u : ℕ) → IsOneOf x xs → x.first ≤ u → u < x.first + x.pages → list_any (in_span u) xs ≡ true
in_some xs x u i l h = any_in (in_span u) xs x i (and_from (leb x.first u) (ltb u (x.first + x.pages)) (le-leb x.first u l) (lt-ltb u (x.first + x.pages) h))

---- One span more

pub in_inserted : (x y : Span) (xs : List Span) → IsOneOf y xs → IsOneOf y (insert_span x xs)
in_inserted x y [] i = absurd i
in_inserted x y (z ∷ zs) (inl f) = elim (cases_Bool (ltb x.first z.first)) [ inl e ↦ rw e (inr (inl f)) | inr e ↦ rw e (inl f) ]
in_inserted x y (z ∷ zs) (inr j) = elim (cases_Bool (ltb x.first z.first)) [ inl e ↦ rw e (inr (inr j)) | inr e ↦ rw e (inr (in_inserted x y zs j)) ]

pub all_inserted : (P : Span → Type 0) (x : Span) (ys : List Span) → P x → AllByRecursion P ys → AllByRecursion P (insert_span x ys)
all_inserted P x [] p a = (p, tt)
all_inserted P x (y ∷ ys) p a = elim (cases_Bool (ltb x.first y.first)) [ inl e ↦ rw e (p, a) | inr e ↦ rw e (a.0, all_inserted P x ys p a.1) ]

pub made_in : (x : Span) (xs : List Span) → IsOneOf x (insert_span x xs)
made_in x [] = inl refl
made_in x (z ∷ zs) = elim (cases_Bool (ltb x.first z.first)) [ inl e ↦ rw e (inl refl) | inr e ↦ rw e (inr (made_in x zs)) ]

pub inserted_cases : (x y : Span) (xs : List Span) → IsOneOf y (insert_span x xs) → (x ≡ y) ⊎ IsOneOf y xs
inserted_cases x y [] (inl e) = inl e
inserted_cases x y [] (inr i) = absurd i
inserted_cases x y (z ∷ zs) i = elim (cases_Bool (ltb x.first z.first)) [
  | inl e ↦ (rw e at i)
  | inr e ↦ more (rw e at i) (inserted_cases x y zs)
]
  where
    more : IsOneOf y (z ∷ insert_span x zs) → (IsOneOf y (insert_span x zs) → (x ≡ y) ⊎ IsOneOf y zs) → (x ≡ y) ⊎ IsOneOf y (z ∷ zs)
    more (inl f) again = inr (inl f)
    more (inr j) again = elim (again j) [ inl f ↦ inl f | inr k ↦ inr (inr k) ]

---- One less, or one changed

pub in_removed : {A : Type 0} (t : A → Bool) (y : A) (xs : List A) → t y ≡ false → IsOneOf y xs → IsOneOf y (remove_found t xs)
in_removed t y [] n i = absurd i
in_removed {A = A} t y (z ∷ zs) n (inl e) = let f : t z ≡ false = subst (λ (w : A). t w ≡ false) (sym e) n in rw f (inl e)
in_removed t y (z ∷ zs) n (inr i) = elim (cases_Bool (t z)) [ inl f ↦ rw f i | inr f ↦ rw f (inr (in_removed t y zs n i)) ]

pub removed_from : {A : Type 0} (t : A → Bool) (y : A) (xs : List A) → IsOneOf y (remove_found t xs) → IsOneOf y xs
removed_from t y [] i = absurd i
removed_from t y (z ∷ zs) i = elim (cases_Bool (t z)) [
  | inl f ↦ inr (rw f at i)
  | inr f ↦ elim (rw f at i) [ inl e ↦ inl e | inr j ↦ inr (removed_from t y zs j) ]
]

pub in_changed : {A : Type 0} (t : A → Bool) (f : A → A) (y : A) (xs : List A) → t y ≡ false → IsOneOf y xs → IsOneOf y (change_found t f xs)
in_changed t f y [] n i = absurd i
in_changed {A = A} t f y (z ∷ zs) n (inl e) = let g : t z ≡ false = subst (λ (w : A). t w ≡ false) (sym e) n in rw g (inl e)
in_changed t f y (z ∷ zs) n (inr i) = elim (cases_Bool (t z)) [ inl g ↦ rw g (inr i) | inr g ↦ rw g (inr (in_changed t f y zs n i)) ]

pub changed_in : {A : Type 0} (t : A → Bool) (f : A → A) (y : A) (xs : List A) → find t xs ≡ Some y → IsOneOf (f y) (change_found t f xs)
changed_in t f y [] h = absurd (let z : ⊥ = cc in z)
changed_in t f y (z ∷ zs) h = elim (cases_Bool (t z)) [
  | inl g ↦ let k : Some z ≡ Some y = (rw g at h) in rw g (inl (ap f (let same : z ≡ y = cc in same)))
  | inr g ↦ rw g (inr (changed_in t f y zs (rw g at h)))
]

pub changed_cases : {A : Type 0} (t : A → Bool) (f : A → A) (y : A) (xs : List A) → IsOneOf y (change_found t f xs) → IsOneOf y xs ⊎ ((z : A) × IsOneOf z xs × (t z ≡ true) × (f z ≡ y))
changed_cases t f y [] i = absurd i
changed_cases {A = A} t f y (z ∷ zs) i = elim (cases_Bool (t z)) [
  | inl g ↦ here g (rw g at i)
  | inr g ↦ there (rw g at i) (changed_cases t f y zs)
]
  where
    here : t z ≡ true → (f z ≡ y) ⊎ IsOneOf y zs → IsOneOf y (z ∷ zs) ⊎ ((w : A) × IsOneOf w (z ∷ zs) × (t w ≡ true) × (f w ≡ y))
    here g (inl e) = inr (z, inl refl, g, e)
    here g (inr j) = inl (inr j)

    there : (z ≡ y) ⊎ IsOneOf y (change_found t f zs) → (IsOneOf y (change_found t f zs) → IsOneOf y zs ⊎ ((w : A) × IsOneOf w zs × (t w ≡ true) × (f w ≡ y))) → IsOneOf y (z ∷ zs) ⊎ ((w : A) × IsOneOf w (z ∷ zs) × (t w ≡ true) × (f w ≡ y))
    there (inl e) again = inl (inl e)
    there (inr j) again = elim (again j) [ inl k ↦ inl (inr k) | inr w ↦ inr (w.0, inr w.1, w.2, w.3) ]

---- Order

lower_order : (low low' : ℕ) (xs : List Span) → low' ≤ low → AreInOrder low xs → AreInOrder low' xs
lower_order low low' [] l a = tt
lower_order low low' (x ∷ xs) l a = (omega (arith, a.0), a.1, a.2)

pub removed_in_order : (t : Span → Bool) (low : ℕ) (xs : List Span) → AreInOrder low xs → AreInOrder low (remove_found t xs)
removed_in_order t low [] a = tt
removed_in_order t low (x ∷ xs) a = elim (cases_Bool (t x)) [
  | inl e ↦ rw e (lower_order (x.first + x.pages) low xs (omega (arith, a.0)) a.2)
  | inr e ↦ rw e (a.0, a.1, removed_in_order t (x.first + x.pages) xs a.2)
]

-- the units behind a span up to its new end are in no span
abbrev pub IsClearUpTo : ℕ → List Span → Span → Type 0
IsClearUpTo pages xs z = (u : ℕ) → z.first + z.pages ≤ u → u < z.first + pages → list_any (in_span u) xs ≡ false

pub resized_in_order : (first pages low : ℕ) (xs : List Span) → 0 < pages → ((z : Span) → IsOneOf z xs → is_back_at first z ≡ true → IsClearUpTo pages xs z) → AreInOrder low xs → AreInOrder low (change_found (is_back_at first) (with_pages pages) xs)
resized_in_order first pages low [] p h a = tt
resized_in_order first pages low (x ∷ xs) p h a = elim (cases_Bool (is_back_at first x)) [
  | inl e ↦ rw e (a.0, p, behind xs a.2 (λ u l g. (or_parts (in_span u x) (list_any (in_span u) xs) (h x (inl refl) e u l g)).1))
  | inr e ↦ rw e (a.0, a.1, resized_in_order first pages (x.first + x.pages) xs p (λ z i f u l g. (or_parts (in_span u x) (list_any (in_span u) xs) (h z (inr i) f u l g)).1) a.2)
]
  where
    behind : (ys : List Span) → AreInOrder (x.first + x.pages) ys → IsClearUpTo pages ys x → AreInOrder (x.first + pages) ys
    behind [] b c = tt
    behind (y ∷ ys) b c = elim (cases_lt y.first (x.first + pages)) [
      | inr g ↦ (g, b.1, b.2)
      | inl g ↦ absurd (both_ways _ (c y.first b.0 g) (in_some (y ∷ ys) y y.first (inl refl) (omega arith) (omega (arith, b.1))))
    ]
