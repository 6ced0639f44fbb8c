-- On lists of which one element is added, removed or changed.
use Rattle.std.proofs.Common.{◌≡◌, ◌++◌, Bool, true, false, ◌||◌, List, [], ◌∷◌, Some, refl, sym, ap, ◌∙◌, subst, inl, inr}
use Rattle.std.specs.List.{find, list_any, AllByRecursion}
use Rattle.std.proofs.lemmas.Bool.{cases_Bool, or_left, or_right, or_cases, or_parts}
use Rattle.heap_model.specs.State.{Place, change_found, remove_found}
use Rattle.heap_soundness.specs.Sound.{IsOneOf, AreApart, AreDisjoint}

---- Elements

pub all_at : {A : Type 0} (P : A → Type 0) (x : A) (xs : List A) → AllByRecursion P xs → IsOneOf x xs → P x
all_at P x [] a i = absurd i
all_at P x (y ∷ ys) a (inl e) = subst P e a.0
all_at P x (y ∷ ys) a (inr i) = all_at P x ys a.1 i

pub all_from : {A : Type 0} (P : A → Type 0) (xs : List A) → ((x : A) → IsOneOf x xs → P x) → AllByRecursion P xs
all_from P [] f = tt
all_from P (x ∷ xs) f = (f x (inl refl), all_from P xs (λ y i. f y (inr i)))

-- what holds of each, where it follows from what holds of each
pub all_weaker : {A : Type 0} (P Q : A → Type 0) (xs : List A) → ((x : A) → IsOneOf x xs → P x → Q x) → AllByRecursion P xs → AllByRecursion Q xs
all_weaker P Q [] f a = tt
all_weaker P Q (x ∷ xs) f a = (f x (inl refl) a.0, all_weaker P Q xs (λ y i. f y (inr i)) a.1)

pub all_removed : {A : Type 0} (P : A → Type 0) (t : A → Bool) (xs : List A) → AllByRecursion P xs → AllByRecursion P (remove_found t xs)
all_removed P t [] a = tt
all_removed P t (x ∷ xs) a = elim (cases_Bool (t x)) [ inl e ↦ rw e a.1 | inr e ↦ rw e (a.0, all_removed P t xs a.1) ]

pub all_changed : {A : Type 0} (P : A → Type 0) (t : A → Bool) (f : A → A) (xs : List A) → ((x : A) → t x ≡ true → P x → P (f x)) → AllByRecursion P xs → AllByRecursion P (change_found t f xs)
all_changed P t f [] g a = tt
all_changed P t f (x ∷ xs) g a = elim (cases_Bool (t x)) [ inl e ↦ rw e (g x e a.0, a.1) | inr e ↦ rw e (a.0, all_changed P t f xs g a.1) ]

pub found_passes : {A : Type 0} (t : A → Bool) (xs : List A) (p : A) → find t xs ≡ Some p → t p ≡ true
found_passes t [] p h = absurd (let z : ⊥ = cc in z)
found_passes {A = A} t (x ∷ xs) p h = elim (cases_Bool (t x)) [
  | inl e ↦ let g : Some x ≡ Some p = (rw e at h) in let same : x ≡ p = cc in subst (λ (y : A). t y ≡ true) same e
  | inr e ↦ found_passes t xs p (rw e at h)
]

pub found_in : {A : Type 0} (t : A → Bool) (xs : List A) (p : A) → find t xs ≡ Some p → IsOneOf p xs
found_in t [] p h = absurd (let z : ⊥ = cc in z)
found_in t (x ∷ xs) p h = elim (cases_Bool (t x)) [
  | inl e ↦ let g : Some x ≡ Some p = (rw e at h) in inl (let same : x ≡ p = cc in same)
  | inr e ↦ inr (found_in t xs p (rw e at h))
]

-- an element that passes is found, or one before it
pub find_some : {A : Type 0} (t : A → Bool) (xs : List A) (x : A) → IsOneOf x xs → t x ≡ true → (y : A) × (find t xs ≡ Some y)
find_some t [] x i h = absurd i
find_some {A = A} t (y ∷ ys) x (inl q) h = let e : t y ≡ true = subst (λ (z : A). t z ≡ true) (sym q) h in (y, rw e refl)
find_some t (y ∷ ys) x (inr i) h = elim (cases_Bool (t y)) [
  | inl e ↦ (y, rw e refl)
  | inr e ↦ let r = find_some t ys x i h in (r.0, rw e r.1)
]

pub any_in : {A : Type 0} (t : A → Bool) (xs : List A) (x : A) → IsOneOf x xs → t x ≡ true → list_any t xs ≡ true
any_in t [] x i h = absurd i
any_in {A = A} t (y ∷ ys) x (inl e) h = or_left (t y) (list_any t ys) (subst (λ (z : A). t z ≡ true) (sym e) h)
any_in t (y ∷ ys) x (inr i) h = or_right (t y) (list_any t ys) (any_in t ys x i h)

pub any_found : {A : Type 0} (t : A → Bool) (xs : List A) → list_any t xs ≡ true → (x : A) × IsOneOf x xs × (t x ≡ true)
any_found t [] h = absurd (let z : ⊥ = cc in z)
any_found t (x ∷ xs) h = elim (or_cases (t x) (list_any t xs) h) [
  | inl e ↦ (x, inl refl, e)
  | inr e ↦ let r = any_found t xs e in (r.0, inr r.1, r.2)
]

pub none_at : {A : Type 0} (t : A → Bool) (xs : List A) (x : A) → list_any t xs ≡ false → IsOneOf x xs → t x ≡ false
none_at t [] x h i = absurd i
none_at {A = A} t (y ∷ ys) x h (inl e) = subst (λ (z : A). t z ≡ false) e (or_parts (t y) (list_any t ys) h).0
none_at t (y ∷ ys) x h (inr i) = none_at t ys x (or_parts (t y) (list_any t ys) h).1 i

pub none_from : {A : Type 0} (t : A → Bool) (xs : List A) → AllByRecursion (λ x. t x ≡ false) xs → list_any t xs ≡ false
none_from t [] a = refl
none_from t (x ∷ xs) a = let e = a.0 in rw e (none_from t xs a.1)

---- The element that is found, in front of the others

pub all_front : {A : Type 0} (P : A → Type 0) (t : A → Bool) (xs : List A) (p : A) → find t xs ≡ Some p → AllByRecursion P xs → AllByRecursion P (p ∷ remove_found t xs)
all_front P t [] p h a = absurd (let z : ⊥ = cc in z)
all_front P t (x ∷ xs) p h a = elim (cases_Bool (t x)) [
  | inl e ↦ let g : Some x ≡ Some p = (rw e at h) in let same : x ≡ p = cc in rw e (subst P same a.0, a.1)
  | inr e ↦ let r = all_front P t xs p (rw e at h) a.1 in rw e (r.0, (a.0, r.1))
]

pub all_back : {A : Type 0} (P : A → Type 0) (t : A → Bool) (f : A → A) (xs : List A) (p : A) → find t xs ≡ Some p → AllByRecursion P (f p ∷ remove_found t xs) → AllByRecursion P (change_found t f xs)
all_back P t f [] p h a = absurd (let z : ⊥ = cc in z)
all_back {A = A} P t f (x ∷ xs) p h a = elim (cases_Bool (t x)) [
  | inl e ↦ let g : Some x ≡ Some p = (rw e at h) in let same : p ≡ x = cc in let b = (rw e at a) in rw e (subst (λ (y : A). P (f y)) same b.0, b.1)
  | inr e ↦ let b = (rw e at a) in rw e (b.1.0, all_back P t f xs p (rw e at h) (b.0, b.1.1))
]

any_swap : (x y z : Bool) → (x || (y || z)) ≡ (y || (x || z))
any_swap true true z = refl
any_swap true false z = refl
any_swap false y z = refl

pub any_front : {A : Type 0} (u t : A → Bool) (xs : List A) (p : A) → find t xs ≡ Some p → list_any u xs ≡ list_any u (p ∷ remove_found t xs)
any_front u t [] p h = absurd (let z : ⊥ = cc in z)
any_front {A = A} u t (x ∷ xs) p h = elim (cases_Bool (t x)) [
  | inl e ↦ let g : Some x ≡ Some p = (rw e at h) in let same : x ≡ p = cc in rw e (ap (λ (y : A). u y || list_any u xs) same)
  | inr e ↦ rw e (ap (λ (b : Bool). u x || b) (any_front u t xs p (rw e at h)) ∙ any_swap (u x) (u p) (list_any u (remove_found t xs)))
]

pub any_back : {A : Type 0} (u t : A → Bool) (f : A → A) (xs : List A) (p : A) → find t xs ≡ Some p → list_any u (change_found t f xs) ≡ list_any u (f p ∷ remove_found t xs)
any_back u t f [] p h = absurd (let z : ⊥ = cc in z)
any_back {A = A} u t f (x ∷ xs) p h = elim (cases_Bool (t x)) [
  | inl e ↦ let g : Some x ≡ Some p = (rw e at h) in let same : x ≡ p = cc in rw e (ap (λ (y : A). u (f y) || list_any u xs) same)
  | inr e ↦ rw e (ap (λ (b : Bool). u x || b) (any_back u t f xs p (rw e at h)) ∙ any_swap (u x) (u (f p)) (list_any u (remove_found t xs)))
]

---- Disjoint places

pub apart_swap : (p q : Place) → AreApart p q → AreApart q p
apart_swap p q (inl h) = inr h
apart_swap p q (inr h) = inl h

pub disjoint_front : (t : Place → Bool) (ps : List Place) (p : Place) → find t ps ≡ Some p → AreDisjoint ps → AreDisjoint (p ∷ remove_found t ps)
disjoint_front t [] p h a = absurd (let z : ⊥ = cc in z)
disjoint_front t (x ∷ xs) p h a = elim (cases_Bool (t x)) [
  | inl e ↦ let g : Some x ≡ Some p = (rw e at h) in let same : x ≡ p = cc in rw e (subst (λ (y : Place). AllByRecursion (AreApart y) xs) same a.0, a.1)
  | inr e ↦
      let r = disjoint_front t xs p (rw e at h) a.1 in
      let k = all_front (AreApart x) t xs p (rw e at h) a.0 in
      rw e ((apart_swap x p k.0, r.0), (k.1, r.1))
]

pub disjoint_back : (t : Place → Bool) (f : Place → Place) (ps : List Place) (p : Place) → find t ps ≡ Some p → AreDisjoint (f p ∷ remove_found t ps) → AreDisjoint (change_found t f ps)
disjoint_back t f [] p h a = absurd (let z : ⊥ = cc in z)
disjoint_back t f (x ∷ xs) p h a = elim (cases_Bool (t x)) [
  | inl e ↦ let g : Some x ≡ Some p = (rw e at h) in let same : p ≡ x = cc in let b = (rw e at a) in rw e (subst (λ (y : Place). AllByRecursion (AreApart (f y)) xs) same b.0, b.1)
  | inr e ↦
      let b = (rw e at a) in
      rw e (all_back (AreApart x) t f xs p (rw e at h) (apart_swap (f p) x b.0.0, b.1.0), disjoint_back t f xs p (rw e at h) (b.0.1, b.1.1))
]

-- two lists behind one another
pub all_append : {A : Type 0} (P : A → Type 0) (xs ys : List A) → AllByRecursion P xs → AllByRecursion P ys → AllByRecursion P (xs ++ ys)
all_append P [] ys a b = b
all_append P (x ∷ xs) ys a b = (a.0, all_append P xs ys a.1 b)

pub disjoint_append : (ps qs : List Place) → AreDisjoint ps → AreDisjoint qs → AllByRecursion (λ p. AllByRecursion (AreApart p) qs) ps → AreDisjoint (ps ++ qs)
disjoint_append [] qs a b h = b
disjoint_append (p ∷ ps) qs a b h = (all_append (AreApart p) ps qs a.0 h.0, disjoint_append ps qs a.1 b h.1)
