-- Pages as bits.
use Rattle.std.proofs.Common.{◌≡◌, ℕ, ◌+◌, ◌-◌, ◌*◌, ◌/◌, ◌%◌, ◌^◌, ◌<◌, ◌≤◌, inl, inr, true, false, refl, ap, sym, ◌∙◌, arith, List, length, get_or, set, get_or-set_same, get_or-set_other, eqb, min, bit_and, bit_or, w64}
use Rattle.std.specs.Int.{bit_at, bit_not, trailing_zeros}
use Rattle.std.proofs.lemmas.Bool.{cases_lt, cases_eq}
use Rattle.std.proofs.lemmas.Nat.{and_le_l}
use Rattle.std.proofs.lemmas.Nat.Bits.{bit_at_and, bit_at-lt, bit_at-zero, bit_at-trailing_zeros, ones_shl, bit_at_mask_inside, bit_at_mask_below, bit_at_set_same, bit_at_set_other, bit_at_clear_same, bit_at_clear_other}
use Rattle.backend_fit.specs.Bits.{has, HasNone}

---- The bits of a word from one on

abbrev from_bit : ℕ → ℕ → ℕ
from_bit n k = bit_and n ((2 ^ 64 - 1) * 2 ^ k % 2 ^ 64)

kept_bit : (n k i : ℕ) → k ≤ i → i < 64 → bit_at (from_bit n k) i ≡ bit_at n i
kept_bit n k i l h =
    let within : k ≤ 64 = omega arith in
    let one = bit_at_mask_inside k 64 i l h in
    let small = bit_at-lt n i in
    ap (λ (m : ℕ). bit_at (bit_and n m) i) (ones_shl 64 k within) ∙ bit_at_and n (2 ^ 64 - 2 ^ k) i ∙ ap (λ (b : ℕ). min (bit_at n i) b) one ∙ with_one (bit_at n i) small
  where
    with_one : (b : ℕ) → b < 2 → min b 1 ≡ b
    with_one b l = grind arith

low_bit : (n k i : ℕ) → i < k → k < 64 → bit_at (from_bit n k) i ≡ 0
low_bit n k i l h =
    let within : k ≤ 64 = omega arith in
    let none = bit_at_mask_below k 64 i l in
    ap (λ (m : ℕ). bit_at (bit_and n m) i) (ones_shl 64 k within) ∙ bit_at_and n (2 ^ 64 - 2 ^ k) i ∙ ap (λ (b : ℕ). min (bit_at n i) b) none ∙ with_none (bit_at n i)
  where
    with_none : (b : ℕ) → min b 0 ≡ 0
    with_none b = omega arith

---- The search

-- page p by its word
has_by : (bits : List ℕ) (index i page b : ℕ) → i < 64 → page ≡ 64 * index + i → bit_at (get_or bits index 0) i ≡ b → has bits page ≡ eqb b 1
has_by bits index i page b l e h =
    let word : page / 64 ≡ index = omega arith in
    let bit : page % 64 ≡ i = omega arith in
    rw (word, bit, h) refl

-- What the search knows at a word: its bits are those of the pages from the first one on, and none of these lies before it.
pub record IsTail (bits : List ℕ) (from index word : ℕ) : Type 0 where
  pub small : word < 2 ^ 64
  pub behind : from < 64 * index + 64
  pub same : (i : ℕ) → i < 64 → from ≤ 64 * index + i → bit_at word i ≡ bit_at (get_or bits index 0) i
  pub low : (i : ℕ) → i < 64 → 64 * index + i < from → bit_at word i ≡ 0
  pub none : HasNone bits from (64 * index)

pub tail_begins : (bits : List ℕ) (from : ℕ) → get_or bits (from / 64) 0 < 2 ^ 64 → IsTail bits from (from / 64) (from_bit (get_or bits (from / 64) 0) (from % 64))
tail_begins bits from small =
    let n = get_or bits (from / 64) 0 in
    record {
      small = omega (arith, and_le_l n ((2 ^ 64 - 1) * 2 ^ (from % 64) % 2 ^ 64));
      behind = omega arith;
      same = λ i l h. kept_bit n (from % 64) i (omega arith) l;
      low = λ i l h. low_bit n (from % 64) i (omega arith) (omega arith);
      none = λ page l h. absurd (omega arith);
    }

module _ (bits : List ℕ) (from index word : ℕ) (t : IsTail bits from index word) where
  -- no page of the word where it has no bit
  pub tail_none : word ≡ 0 → HasNone bits from (64 * (index + 1))
  tail_none z page l h = elim (cases_lt page (64 * index)) [
    | inl n ↦ t.none page l n
    | inr n ↦
        let i = page - 64 * index in
        let at : page ≡ 64 * index + i = omega arith in
        let here : i < 64 = omega arith in
        has_by bits index i page 0 here at (sym (t.same i here (omega arith)) ∙ (ap (λ (n : ℕ). bit_at n i) z ∙ bit_at-zero i))
  ]

  pub tail_goes_on : word ≡ 0 → get_or bits (index + 1) 0 < 2 ^ 64 → IsTail bits from (index + 1) (get_or bits (index + 1) 0)
  tail_goes_on z small =
      let behind = t.behind in
      record {
        small = small;
        behind = omega arith;
        same = λ i l h. refl;
        low = λ i l h. absurd (omega arith);
        none = tail_none z;
      }

  module _ (some : word ≡ 0 → ⊥) where
    abbrev bit : ℕ
    bit = trailing_zeros w64 word

    lowest : (bit < 64) × (bit_at word bit ≡ 1) × ((i : ℕ) → i < bit → bit_at word i ≡ 0)
    lowest = bit_at-trailing_zeros w64 word (omega arith) t.small

    pub tail_low : from ≤ 64 * index + bit
    tail_low = let z = lowest in elim (cases_lt (64 * index + bit) from) [
      | inl n ↦ let no : ◌≡◌ {A = ℕ} 1 0 = sym z.1 ∙ t.low bit z.0 n in absurd (omega arith)
      | inr n ↦ n
    ]

    pub tail_there : has bits (64 * index + bit) ≡ true
    tail_there = let z = lowest in has_by bits index bit (64 * index + bit) 1 z.0 refl (sym (t.same bit z.0 tail_low) ∙ z.1)

    pub tail_first : HasNone bits from (64 * index + bit)
    tail_first page l h = let z = lowest in elim (cases_lt page (64 * index)) [
      | inl n ↦ t.none page l n
      | inr n ↦
          let i = page - 64 * index in
          let at : page ≡ 64 * index + i = omega arith in
          let below : i < bit = omega arith in
          let here : i < 64 = omega arith in
          has_by bits index i page 0 here at (sym (t.same i here (omega arith)) ∙ z.2 i below)
    ]

---- One page

has_same : (bits : List ℕ) (page w b : ℕ) → page < 64 * length bits → bit_at w (page % 64) ≡ b → has (set bits (page / 64) w) page ≡ eqb b 1
has_same bits page w b l h =
    let inside : page / 64 < length bits = omega arith in
    rw (get_or-set_same bits (page / 64) w 0 inside, h) refl

has_other : (bits : List ℕ) (page w other : ℕ) → (other ≡ page → ⊥) → ((i : ℕ) → i < 64 → (i ≡ page % 64 → ⊥) → bit_at w i ≡ bit_at (get_or bits (page / 64) 0) i) → page < 64 * length bits →
    has (set bits (page / 64) w) other ≡ has bits other
has_other bits page w other ne h l = elim (cases_eq (other / 64) (page / 64)) [
  | inl same ↦
      let inside : page / 64 < length bits = omega arith in
      let i : other % 64 ≡ page % 64 → ⊥ = λ z. ne (omega arith) in
      let e = h (other % 64) (omega arith) i in
      rw (same, get_or-set_same bits (page / 64) w 0 inside, e) refl
  | inr apart ↦ rw (get_or-set_other bits (page / 64) (other / 64) w 0 apart) refl
]

module _ (bits : List ℕ) (page : ℕ) (l : page < 64 * length bits) where
  abbrev word : ℕ
  word = get_or bits (page / 64) 0

  within : page % 64 < 64
  within = omega arith

  pub inserted : has (set bits (page / 64) (bit_or word (1 * 2 ^ (page % 64) % 2 ^ 64))) page ≡ true
  inserted = has_same bits page (bit_or word (1 * 2 ^ (page % 64) % 2 ^ 64)) 1 l (bit_at_set_same w64 word (page % 64) within)

  pub inserted_other : (other : ℕ) → (other ≡ page → ⊥) → has (set bits (page / 64) (bit_or word (1 * 2 ^ (page % 64) % 2 ^ 64))) other ≡ has bits other
  inserted_other other ne = has_other bits page (bit_or word (1 * 2 ^ (page % 64) % 2 ^ 64)) other ne (λ i h n. bit_at_set_other w64 word (page % 64) within i n) l

  pub removed : has (set bits (page / 64) (bit_and word (bit_not w64 (1 * 2 ^ (page % 64) % 2 ^ 64)))) page ≡ false
  removed = has_same bits page (bit_and word (bit_not w64 (1 * 2 ^ (page % 64) % 2 ^ 64))) 0 l (bit_at_clear_same w64 word (page % 64) within)

  pub removed_other : (other : ℕ) → (other ≡ page → ⊥) → has (set bits (page / 64) (bit_and word (bit_not w64 (1 * 2 ^ (page % 64) % 2 ^ 64)))) other ≡ has bits other
  removed_other other ne = has_other bits page (bit_and word (bit_not w64 (1 * 2 ^ (page % 64) % 2 ^ 64))) other ne (λ i h n. bit_at_clear_other w64 word (page % 64) within i h n) l
