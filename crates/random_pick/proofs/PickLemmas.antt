-- The first bit that passes, by rotation and trailing zeros.
use Rattle.std.proofs.Common.{◌≡◌, ℕ, zero, suc, ◌+◌, ◌-◌, ◌*◌, ◌/◌, ◌%◌, ◌^◌, ◌<◌, ◌≤◌, Bool, true, false, ◌&&◌, not, Some, None, inl, inr, refl, sym, ap, ◌∙◌, arith, eqb, min, max, bit_and, bit_or, w64, add-zero}
use Rattle.std.specs.Int.{bit_at, bit_not, rotate_right, trailing_zeros}
use Rattle.std.proofs.lemmas.Bool.{cases_lt, eq-eqb}
use Rattle.std.proofs.lemmas.Bool.Decides.{nat_tests}
use Rattle.std.proofs.lemmas.Nat.{shr-shr, and_mask, pow_pos, and_le_l}
use Rattle.std.proofs.lemmas.Nat.Bits.{bit_at_and, bit_at_or, bit_at_not, bit_at_ones, bit_at_above, bit_at_cat_low, bit_at_cat_high, bit_at-lt, bit_at-trailing_zeros, bit_at-zero}
use Rattle.heap_model.specs.Bits.{has_bit, first_cyclic, pick}

-- number j from at on passes, and none before it
first_found : (test : ℕ → Bool) (at n j : ℕ) → j < n → test ((at + j) % 64) ≡ true
    → ((i : ℕ) → i < j → test ((at + i) % 64) ≡ false) → first_cyclic test at n ≡ Some ((at + j) % 64)
first_found test at zero j l h before = absurd (omega arith)
first_found test at (suc n) zero l h before =
    let here : test (at % 64) ≡ true = ap (λ (x : ℕ). test (x % 64)) (sym (add-zero at)) ∙ h in
    rw (here, first_cyclic) (ap (λ (x : ℕ). Some (x % 64)) (sym (add-zero at)))
first_found test at (suc n) (suc j) l h before =
    let not_here : test (at % 64) ≡ false = ap (λ (x : ℕ). test (x % 64)) (sym (add-zero at)) ∙ before 0 (omega arith) in
    let shift : (k : ℕ) → suc at + k ≡ at + suc k = λ k. omega arith in
    rw (not_here, first_cyclic)
    (first_found test (suc at) n j (omega arith) (ap (λ (x : ℕ). test (x % 64)) (shift j) ∙ h)
    (λ i m. ap (λ (x : ℕ). test (x % 64)) (shift i) ∙ before (suc i) (omega arith))
    ∙ ap (λ (x : ℕ). Some (x % 64)) (shift j))

-- none of n numbers passes
none_found : (test : ℕ → Bool) (at n : ℕ) → ((i : ℕ) → i < n → test ((at + i) % 64) ≡ false) → first_cyclic test at n ≡ None
none_found test at zero none = refl
none_found test at (suc n) none =
    let not_here : test (at % 64) ≡ false = ap (λ (x : ℕ). test (x % 64)) (sym (add-zero at)) ∙ none 0 (omega arith) in
    let shift : (k : ℕ) → suc at + k ≡ at + suc k = λ k. omega arith in
    rw (not_here, first_cyclic) (none_found test (suc at) n (λ i m. ap (λ (x : ℕ). test (x % 64)) (shift i) ∙ none (suc i) (omega arith)))

-- the low 64 bits of a number
low_bits : (n i : ℕ) → i < 64 → bit_at (n % 2 ^ 64) i ≡ bit_at n i
low_bits n i l =
    let masked : n % 2 ^ 64 ≡ bit_and n (2 ^ 64 - 1) = sym (and_mask n 64) in
    let bit = bit_at_and n (2 ^ 64 - 1) i in
    let one = bit_at_ones 64 i l in
    let small = bit_at-lt n i in
    ap (λ (x : ℕ). bit_at x i) masked ∙ bit ∙ ap (λ (x : ℕ). min (bit_at n i) x) one ∙ at_most_one (bit_at n i) small
  where
    at_most_one : (b : ℕ) → b < 2 → min b 1 ≡ b
    at_most_one b l = grind arith

shifted_bit : (x k i : ℕ) → k ≤ i → bit_at (x * 2 ^ k) i ≡ bit_at x (i - k)
shifted_bit x k i l =
    ap (λ (y : ℕ). bit_at y i) (sym (add-zero (x * 2 ^ k))) ∙ bit_at_cat_high x k 0 i (pow_pos k) l

shifted_low : (x k i : ℕ) → i < k → bit_at (x * 2 ^ k) i ≡ 0
shifted_low x k i l =
    ap (λ (y : ℕ). bit_at y i) (sym (add-zero (x * 2 ^ k))) ∙ bit_at_cat_low x k 0 i l ∙ bit_at-zero i

bit_of_quotient : (x s j : ℕ) → bit_at (x / 2 ^ s) j ≡ bit_at x (s + j)
bit_of_quotient x s j = ap (λ q. q % 2) (shr-shr x s j)

-- the two parts of a number that is turned by s, where s is not 0
turned_parts : (x s j : ℕ) → x < 2 ^ 64 → 0 < s → s < 64 → j < 64
    → max (bit_at (x / 2 ^ s) j) (bit_at (x * 2 ^ (64 - s) % 2 ^ 64) j) ≡ bit_at x ((s + j) % 64)
turned_parts x s j fits p l m = elim (cases_lt (s + j) 64) [
  | inl near ↦
      let low : bit_at (x / 2 ^ s) j ≡ bit_at x (s + j) = bit_of_quotient x s j in
      let none : bit_at (x * 2 ^ (64 - s) % 2 ^ 64) j ≡ 0 =
      low_bits (x * 2 ^ (64 - s)) j m ∙ shifted_low x (64 - s) j (omega arith) in
      let place : s + j ≡ (s + j) % 64 = omega arith in
      rw (low, none) (with_none (bit_at x (s + j)) ∙ ap (bit_at x) place)
  | inr far ↦
      let none : bit_at (x / 2 ^ s) j ≡ 0 = bit_of_quotient x s j ∙ bit_at_above x 64 (s + j) fits far in
      let high : bit_at (x * 2 ^ (64 - s) % 2 ^ 64) j ≡ bit_at x (j - (64 - s)) =
      low_bits (x * 2 ^ (64 - s)) j m ∙ shifted_bit x (64 - s) j (omega arith) in
      let place : j - (64 - s) ≡ (s + j) % 64 = omega arith in
      rw (none, high) (none_with (bit_at x (j - (64 - s))) ∙ ap (bit_at x) place)
]
  where
    with_none : (b : ℕ) → max b 0 ≡ b
    with_none b = omega arith

    none_with : (b : ℕ) → max 0 b ≡ b
    none_with b = omega arith

-- bit j of a number turned by s is bit s + j, cyclically
rotated_bit : (x s j : ℕ) → x < 2 ^ 64 → s < 64 → j < 64 → bit_at (rotate_right w64 x s) j ≡ bit_at x ((s + j) % 64)
rotated_bit x zero j fits l m =
    let left : x / 1 ≡ x = omega arith in
    let right : x * 1 % 2 ^ 64 ≡ x = omega arith in
    let place : j ≡ (0 + j) % 64 = omega arith in
    ap (λ (y : ℕ). bit_at (bit_or y (x * 1 % 2 ^ 64)) j) left
    ∙ ap (λ (y : ℕ). bit_at (bit_or x y) j) right
    ∙ bit_at_or x x j
    ∙ both (bit_at x j)
    ∙ ap (bit_at x) place
  where
    both : (b : ℕ) → max b b ≡ b
    both b = omega arith
rotated_bit x (suc r) j fits l m =
    let whole : suc r % 64 ≡ suc r = omega arith in
    let rest : (64 - suc r % 64) % 64 ≡ 64 - suc r = omega arith in
    bit_at_or (x / 2 ^ (suc r % 64)) (x * 2 ^ ((64 - suc r % 64) % 64) % 2 ^ 64) j
    ∙ ap (λ (y : ℕ). max (bit_at (x / 2 ^ y) j) (bit_at (x * 2 ^ ((64 - suc r % 64) % 64) % 2 ^ 64) j)) whole
    ∙ ap (λ (y : ℕ). max (bit_at (x / 2 ^ suc r) j) (bit_at (x * 2 ^ y % 2 ^ 64) j)) rest
    ∙ turned_parts x (suc r) j fits (omega arith) l m

-- a bit is free where it is valid and clear
free_test : (a b : ℕ) → a < 2 → b < 2 → (eqb a 1 && not (eqb b 1)) ≡ eqb (min a (1 - b)) 1
free_test a b l m = grind (arith, nat_tests)

free_bit : (word valid i : ℕ) → word < 2 ^ 64 → i < 64
    → (has_bit valid i && not (has_bit word i)) ≡ eqb (bit_at (bit_and valid (bit_not w64 word)) i) 1
free_bit word valid i fits l =
    rw (bit_at_and valid (bit_not w64 word) i, bit_at_not w64 word i fits l)
    (free_test (bit_at valid i) (bit_at word i) (bit_at-lt valid i) (bit_at-lt word i))

-- the free bits, from start on
abbrev pub turned : ℕ → ℕ → ℕ → ℕ
turned word valid start = rotate_right w64 (bit_and valid (bit_not w64 word)) start

turned_test : (word valid start i : ℕ) → word < 2 ^ 64 → valid < 2 ^ 64 → start < 64 → i < 64
    → (has_bit valid ((start + i) % 64) && not (has_bit word ((start + i) % 64))) ≡ eqb (bit_at (turned word valid start) i) 1
turned_test word valid start i f g l m =
    free_bit word valid ((start + i) % 64) f (omega arith)
    ∙ ap (λ (b : ℕ). eqb b 1) (sym (rotated_bit (bit_and valid (bit_not w64 word)) start i fits l m))
  where
    fits : bit_and valid (bit_not w64 word) < 2 ^ 64
    fits = omega (arith, and_le_l valid (bit_not w64 word))

-- a free bit is there
pub picks_some : (word valid start : ℕ) → word < 2 ^ 64 → valid < 2 ^ 64 → start < 64 → 0 < turned word valid start
    → turned word valid start < 2 ^ 64
    → pick word valid start ≡ Some ((start + trailing_zeros w64 (turned word valid start)) % 64)
picks_some word valid start f g l p fits =
    let first = bit_at-trailing_zeros w64 (turned word valid start) p fits in
    first_found (λ i. has_bit valid i && not (has_bit word i)) start 64 (trailing_zeros w64 (turned word valid start)) first.0
    (turned_test word valid start (trailing_zeros w64 (turned word valid start)) f g l first.0 ∙ eq-eqb (bit_at (turned word valid start) (trailing_zeros w64 (turned word valid start))) 1 first.1)
    (λ i m. turned_test word valid start i f g l (omega (arith, m, first.0)) ∙ ap (λ (b : ℕ). eqb b 1) (first.2 i m))

-- no bit is free
pub picks_none : (word valid start : ℕ) → word < 2 ^ 64 → valid < 2 ^ 64 → start < 64 → turned word valid start ≡ 0
    → pick word valid start ≡ None
picks_none word valid start f g l e =
    none_found (λ i. has_bit valid i && not (has_bit word i)) start 64
    (λ i m. turned_test word valid start i f g l m ∙ ap (λ (y : ℕ). eqb (bit_at y i) 1) e ∙ ap (λ (b : ℕ). eqb b 1) (bit_at-zero i))
