-- Numbers that pass a test, counted; and lists of which some stay.
use Rattle.std.proofs.Common.{◌≡◌, ℕ, zero, suc, ◌+◌, ◌<◌, ◌≤◌, Bool, true, false, cond, List, [], ◌∷◌, length, Some, refl, sym, ap, ◌∙◌, inl, inr, arith}
use Rattle.std.specs.Prelude.{filter}
use Rattle.std.specs.List.{list_any}
use Rattle.std.proofs.lemmas.Bool.{cases_Bool, cases_eq, or_cases, or_left, or_right}
use Rattle.heap_model.specs.Backend.{numbers}
use Rattle.heap_model.specs.State.{Span, remove_found}
use Rattle.heap_model.specs.Search.{first_of}
use Rattle.heap_soundness.specs.Sound.{IsOneOf}

same_above : (t u : ℕ → Bool) (p at n : ℕ) → p < at → ((x : ℕ) → (x ≡ p → ⊥) → u x ≡ t x) → filter u (numbers at n) ≡ filter t (numbers at n)
same_above t u p at zero l h = refl
same_above t u p at (suc n) l h =
    let e = h at (λ q. omega (arith, l, q)) in
    rw e (ap (λ (xs : List ℕ). cond (t at) (at ∷ xs) xs) (same_above t u p (at + 1) n (omega arith) h))

-- one number less passes
pub one_less : (t u : ℕ → Bool) (p at n : ℕ) → t p ≡ true → u p ≡ false → ((x : ℕ) → (x ≡ p → ⊥) → u x ≡ t x) → at ≤ p → p < at + n → length (filter t (numbers at n)) ≡ suc (length (filter u (numbers at n)))
one_less t u p at zero a b h l k = absurd (omega (arith, l, k))
one_less t u p at (suc n) a b h l k = elim (cases_eq at p) [
  | inl e ↦
      let x : t at ≡ true = ap t e ∙ a in
      let y : u at ≡ false = ap u e ∙ b in
      rw (x, y) (ap (λ (xs : List ℕ). suc (length xs)) (sym (same_above t u p (at + 1) n (omega arith) h)))
  | inr ne ↦
      let e = h at ne in
      let rest = one_less t u p (at + 1) n a b h (omega arith) (omega (arith, k)) in
      elim (cases_Bool (t at)) [
        | inl x ↦ let y : u at ≡ true = e ∙ x in rw (x, y) (ap suc rest)
        | inr x ↦ let y : u at ≡ false = e ∙ x in rw (x, y) rest
      ]
]

pub in_numbers : (p at n : ℕ) → at ≤ p → p < at + n → IsOneOf p (numbers at n)
in_numbers p at zero l k = absurd (omega (arith, l, k))
in_numbers p at (suc n) l k = elim (cases_eq at p) [
  | inl e ↦ inl e
  | inr ne ↦ inr (in_numbers p (at + 1) n (omega arith) (omega (arith, k)))
]

-- what is there in a list of which some are left is in the list
pub any_filtered : {A : Type 0} (t u : A → Bool) (xs : List A) → list_any t (filter u xs) ≡ true → list_any t xs ≡ true
any_filtered t u [] h = h
any_filtered t u (x ∷ xs) h = elim (cases_Bool (u x)) [
  | inl e ↦ elim (or_cases (t x) (list_any t (filter u xs)) (rw e at h)) [
    | inl a ↦ or_left (t x) (list_any t xs) a
    | inr a ↦ or_right (t x) (list_any t xs) (any_filtered t u xs a)
  ]
  | inr e ↦ or_right (t x) (list_any t xs) (any_filtered t u xs (rw e at h))
]

pub was_there : {A : Type 0} (t : A → Bool) (x : A) (xs : List A) → IsOneOf x (remove_found t xs) → IsOneOf x xs
was_there t x [] i = i
was_there t x (y ∷ ys) i = elim (cases_Bool (t y)) [
  | inl e ↦ inr (rw e at i)
  | inr e ↦ elim (rw e at i) [ inl s ↦ inl s | inr j ↦ inr (was_there t x ys j) ]
]

-- the first one that stays is the first one that was there, where it stays
pub first_stays : (t u : Span → Bool) (y : Span) (p : ℕ) (xs : List Span) → first_of (filter t xs) ≡ Some p → ((z : Span) → IsOneOf z xs → z.first ≡ p → u z ≡ true) → first_of (filter t (filter u xs)) ≡ Some p
first_stays t u y p [] h k = h
first_stays t u y p (x ∷ xs) h k = elim (cases_Bool (t x)) [
  | inl e ↦
      let f : Some x.first ≡ Some p = (rw e at h) in
      let g : x.first ≡ p = cc in
      let q = k x (inl refl) g in
      rw (q, e) (ap Some g)
  | inr e ↦
      let rest = first_stays t u y p xs (rw e at h) (λ z i. k z (inr i)) in
      elim (cases_Bool (u x)) [ inl q ↦ rw (q, e) rest | inr q ↦ rw q rest ]
]
