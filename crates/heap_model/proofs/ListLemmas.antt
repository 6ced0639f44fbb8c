-- On lists of which one element changes, and on tests of callers.
use Rattle.std.proofs.Common.{◌≡◌, ℕ, Bool, true, false, ◌||◌, cond, List, [], ◌∷◌, Option, Some, None, refl, sym, ap, ◌∙◌, eqb, ltb, inl, inr}
use Rattle.std.specs.Prelude.{filter}
use Rattle.std.specs.List.{find}
use Rattle.std.proofs.lemmas.Bool.{cases_Bool, eqb-true, ne_eqb, false≢true}
use Rattle.heap_model.specs.State.{Span, updated, is_among, without, is_caller, insert_span, change_found, remove_found}
use Rattle.heap_model.specs.Stay.{for_some, is_some_of}

pub for_some_parts : {A : Type 0} (o : Option A) (test : A → Bool) → for_some o test ≡ true → (x : A) × (o ≡ Some x) × (test x ≡ true)
for_some_parts None test h = absurd (false≢true h)
for_some_parts (Some x) test h = (x, refl, h)

pub is_some_of_parts : (o : Option ℕ) (n : ℕ) → is_some_of o n ≡ true → o ≡ Some n
is_some_of_parts None n h = absurd (false≢true h)
is_some_of_parts (Some x) n h = ap Some (eqb-true x n h)

pub put_other : {A : Type 0} (f : ℕ → A) (c n : ℕ) (x : A) → (c ≡ n → ⊥) → updated f c x n ≡ f n
put_other f c n x ne = let e : eqb n c ≡ false = ne_eqb n c (λ q. ne (sym q)) in rw e refl

pub is_among-without_other : (n c : ℕ) (xs : List ℕ) → (c ≡ n → ⊥) → is_among n (without c xs) ≡ is_among n xs
is_among-without_other n c [] ne = refl
is_among-without_other n c (x ∷ xs) ne = elim (cases_Bool (eqb x c)) [
  | inl e ↦ let f : eqb x n ≡ false = ne_eqb x n (λ q. ne (sym (eqb-true x c e) ∙ q)) in rw (e, f) (is_among-without_other n c xs ne)
  | inr e ↦ rw e (ap (λ (b : Bool). eqb x n || b) (is_among-without_other n c xs ne))
]

pub is_among-without : (c : ℕ) (xs : List ℕ) → is_among c (without c xs) ≡ false
is_among-without c [] = refl
is_among-without c (x ∷ xs) = elim (cases_Bool (eqb x c)) [
  | inl e ↦ rw e (is_among-without c xs)
  | inr e ↦ rw (e, e) (is_among-without c xs)
]

pub is_among-more : (n c : ℕ) (xs : List ℕ) → (c ≡ n → ⊥) → is_among n (c ∷ xs) ≡ is_among n xs
is_among-more n c xs ne = let e = ne_eqb c n ne in rw e refl

-- a holder is one
pub one_caller : (n c : ℕ) (o : Option ℕ) → is_caller n o ≡ true → is_caller c o ≡ true → c ≡ n
one_caller n c None h k = absurd (false≢true h)
one_caller n c (Some d) h k = sym (eqb-true d c k) ∙ eqb-true d n h

pub not_both : (n c : ℕ) (o : Option ℕ) → (c ≡ n → ⊥) → is_caller n o ≡ true → is_caller c o ≡ false
not_both n c o ne h = elim (cases_Bool (is_caller c o)) [ inl e ↦ absurd (ne (one_caller n c o h e)) | inr e ↦ e ]

-- a filter that passes none of what changes
pub filter-insert_span : (test : Span → Bool) (x : Span) (ps : List Span) → test x ≡ false → filter test (insert_span x ps) ≡ filter test ps
filter-insert_span test x [] h = rw h refl
filter-insert_span test x (y ∷ ys) h = elim (cases_Bool (ltb x.first y.first)) [
  | inl l ↦ rw (l, h) refl
  | inr l ↦ rw l (ap (λ (zs : List Span). cond (test y) (y ∷ zs) zs) (filter-insert_span test x ys h))
]

pub filter-change_found : {A : Type 0} (test p : A → Bool) (f : A → A) (xs : List A) → ((x : A) → p x ≡ true → (test x ≡ false) × (test (f x) ≡ false)) → filter test (change_found p f xs) ≡ filter test xs
filter-change_found test p f [] h = refl
filter-change_found {A = A} test p f (x ∷ xs) h = elim (cases_Bool (p x)) [
  | inl e ↦ let k = h x e in let k0 = k.0 in let k1 = k.1 in rw (e, k0, k1) refl
  | inr e ↦ rw e (ap (λ (zs : List A). cond (test x) (x ∷ zs) zs) (filter-change_found test p f xs h))
]

pub filter-remove_found : {A : Type 0} (test p : A → Bool) (xs : List A) → ((x : A) → find p xs ≡ Some x → test x ≡ false) → filter test (remove_found p xs) ≡ filter test xs
filter-remove_found test p [] h = refl
filter-remove_found {A = A} test p (x ∷ xs) h = elim (cases_Bool (p x)) [
  | inl e ↦ let k = h x (rw e refl) in rw (e, k) refl
  | inr e ↦ rw e (ap (λ (zs : List A). cond (test x) (x ∷ zs) zs) (filter-remove_found test p xs (λ y g. h y (rw e g))))
]
