-- The bits of the word of a test.
use Rattle.std.proofs.Common.{◌≡◌, ℕ, zero, suc, ◌+◌, ◌*◌, ◌/◌, ◌%◌, ◌^◌, ◌<◌, Bool, true, false, inl, inr, refl, sym, ap, ◌∙◌, arith, eqb, if◌then◌else◌}
use Rattle.std.specs.Int.{bit_at}
use Rattle.std.proofs.Math.Nat.{mul-zero, pow-suc, pow-succ', div-div-eq-div-mul}
use Rattle.std.proofs.lemmas.Bool.{cases_Bool}
use Rattle.heap_model.specs.Bits.{word_of, has_bit}

abbrev pub one_if : Bool → ℕ
one_if b = if b then 1 else 0

-- the same number, without the bits below at
abbrev number : (ℕ → Bool) → ℕ → ℕ → ℕ
number test at zero = 0
number test at (suc n) = one_if (test at) + 2 * number test (suc at) n

with_lowest : (p k w : ℕ) → w ≡ p * 2 * k → p + w ≡ p * (1 + 2 * k)
with_lowest p k w e = grind arith

without_lowest : (p k w : ℕ) → w ≡ p * 2 * k → 0 + w ≡ p * (0 + 2 * k)
without_lowest p k w e = grind arith

word_is : (test : ℕ → Bool) (at n : ℕ) → word_of test at n ≡ 2 ^ at * number test at n
word_is test at zero = sym (mul-zero (2 ^ at))
word_is test at (suc n) =
    let again : word_of test (suc at) n ≡ 2 ^ at * 2 * number test (suc at) n = word_is test (suc at) n ∙ ap (λ (p : ℕ). p * number test (suc at) n) (pow-suc 2 at) in
    elim (cases_Bool (test at)) [
      | inl e ↦ rw e (with_lowest (2 ^ at) (number test (suc at) n) (word_of test (suc at) n) again)
      | inr e ↦ rw e (without_lowest (2 ^ at) (number test (suc at) n) (word_of test (suc at) n) again)
    ]

number_fits : (test : ℕ → Bool) (at n : ℕ) → number test at n < 2 ^ n
number_fits test at zero = omega arith
number_fits test at (suc n) =
    let rest = number_fits test (suc at) n in
    let twice : 2 ^ suc n ≡ 2 * 2 ^ n = pow-succ' 2 n in
    elim (cases_Bool (test at)) [ inl e ↦ rw e (omega arith) | inr e ↦ rw e (omega arith) ]

bit_here : (test : ℕ → Bool) (at n i : ℕ) → i < n → bit_at (number test at n) i ≡ one_if (test (at + i))
bit_here test at zero i l = absurd (omega arith)
bit_here test at (suc n) zero l =
    let e : at + 0 ≡ at = omega arith in
    rw e (elim (cases_Bool (test at)) [ inl t ↦ rw t (lowest 1 (number test (suc at) n) (omega arith)) | inr t ↦ rw t (lowest 0 (number test (suc at) n) (omega arith)) ])
  where
    lowest : (bit k : ℕ) → bit < 2 → (bit + 2 * k) / 1 % 2 ≡ bit
    lowest bit k l = omega arith
bit_here test at (suc n) (suc i) l =
    let e : suc at + i ≡ at + suc i = omega arith in
    let rest = bit_here test (suc at) n i (omega arith) in
    let half : number test at (suc n) / 2 ≡ number test (suc at) n = elim (cases_Bool (test at)) [ inl t ↦ rw t (omega arith) | inr t ↦ rw t (omega arith) ] in
    ap (λ (p : ℕ). number test at (suc n) / p % 2) (pow-succ' 2 i)
    ∙ ap (λ (q : ℕ). q % 2) (sym (div-div-eq-div-mul (number test at (suc n)) 2 (2 ^ i)))
    ∙ ap (λ (q : ℕ). q / 2 ^ i % 2) half ∙ rest ∙ ap (λ (j : ℕ). one_if (test j)) e

whole : (test : ℕ → Bool) (n : ℕ) → word_of test 0 n ≡ number test 0 n
whole test n = word_is test 0 n ∙ omega arith

pub word_fits : (test : ℕ → Bool) (n : ℕ) → word_of test 0 n < 2 ^ n
word_fits test n = let e = whole test n in let f = number_fits test 0 n in omega arith

pub bit_of_word : (test : ℕ → Bool) (n i : ℕ) → i < n → bit_at (word_of test 0 n) i ≡ one_if (test i)
bit_of_word test n i l =
    let f : 0 + i ≡ i = omega arith in
    ap (λ (w : ℕ). bit_at w i) (whole test n) ∙ bit_here test 0 n i l ∙ ap (λ (j : ℕ). one_if (test j)) f

pub bit_of : (test : ℕ → Bool) (n i : ℕ) → i < n → has_bit (word_of test 0 n) i ≡ test i
bit_of test n i l = ap (λ (q : ℕ). eqb q 1) (bit_of_word test n i l) ∙ as_bit (test i)
  where
    as_bit : (t : Bool) → eqb (one_if t) 1 ≡ t
    as_bit true = refl
    as_bit false = refl
