-- From the lanes of a block of words to the words.
use Rattle.std.proofs.Common.{◌≡◌, ℕ, ◌+◌, ◌-◌, ◌%◌, ◌^◌, ◌<◌, ◌≤◌, eqb, Bool, not, cond, List, map, length, get_or, replicate, sym, ap, ◌∙◌, subst, arith, inl, inr, bit_and, w64}
use Rattle.std.proofs.lemmas.Bool.{eqb-true, eqb-false, cases_lt}
use Rattle.std.proofs.lemmas.Simd.{zip2_splat, length-chunk, bitmask_splat, map-map, trailing_mask_l, none_from_empty_mask, run_in_chunk_fails, run_in_chunk_stops, mask_l-lt}
use Rattle.std.proofs.lemmas.List.{length-map}
use Rattle.std.proofs.lemmas.Nat.Bits.{bit_at-trailing_zeros, bit_at_above}
use Rattle.std.specs.Int.{trailing_zeros}
use Rattle.std.specs.List.{prefix_len}
use lib.Lanes.{chunk, zip2, mask_l, top}
use Rattle.lane_scan.specs.Matches.{NoneMatches, IsFirstMatch}

-- the mask of a block: a bit for each of its words, set where the word matches
abbrev pub lanes_of : List ℕ → ℕ → ℕ → ℕ → ℕ
lanes_of words mask value at =
    mask_l (map (top 63)
    (zip2 (λ a b. cond (eqb a b) (2 ^ 64 - 1) 0)
    (zip2 bit_and (chunk at 4 words) (replicate 4 mask)) (replicate 4 value))) % 2 ^ 64

abbrev passes : ℕ → ℕ → ℕ → Bool
passes mask value word = eqb (bit_and word mask) value

lanes_are : (words : List ℕ) (mask value at : ℕ) → at + 4 ≤ length words
    → lanes_of words mask value at ≡ mask_l (map (passes mask value) (chunk at 4 words))
lanes_are words mask value at room =
    let v = chunk at 4 words in
    let long : length v ≡ 4 = length-chunk at 4 words room in
    let masked : zip2 bit_and v (replicate 4 mask) ≡ map (λ x. bit_and x mask) v = zip2_splat bit_and v 4 mask long in
    bitmask_splat w64 eqb (zip2 bit_and v (replicate 4 mask)) 4 value (ap length masked ∙ length-map v (λ x. bit_and x mask) ∙ long) (omega arith)
    ∙ ap (λ (l : List ℕ). mask_l (map (λ x. eqb x value) l)) masked
    ∙ ap mask_l (map-map (λ x. eqb x value) (λ x. bit_and x mask) v)

pub none_in_block : (words : List ℕ) (mask value at : ℕ) → at + 4 ≤ length words → lanes_of words mask value at ≡ 0
    → NoneMatches words mask value at (at + 4)
none_in_block words mask value at room none k from to =
    eqb-false (bit_and (get_or words k 0) mask) value
    (none_from_empty_mask (passes mask value) words at 4 0 room (sym (lanes_are words mask value at room) ∙ none) k from to)

-- the lowest bit of the mask of a block
lowest : (words : List ℕ) (mask value at : ℕ) → at + 4 ≤ length words → 0 < mask_l (map (passes mask value) (chunk at 4 words))
    → trailing_zeros w64 (mask_l (map (passes mask value) (chunk at 4 words))) < 4
lowest words mask value at room some =
    let v = chunk at 4 words in
    let m = mask_l (map (passes mask value) v) in
    let long : length (map (passes mask value) v) ≡ 4 = length-map v (passes mask value) ∙ length-chunk at 4 words room in
    let short : m < 2 ^ 4 = subst (λ (n : ℕ). m < 2 ^ n) long (mask_l-lt (map (passes mask value) v)) in
    let low = bit_at-trailing_zeros w64 m some (omega arith) in
    elim (cases_lt (trailing_zeros w64 m) 4) [
      | inl l ↦ l
      | inr far ↦ absurd (omega (arith, low.1, bit_at_above m 4 (trailing_zeros w64 m) short far))
    ]

pub first_in_block : (words : List ℕ) (mask value at : ℕ) → at + 4 ≤ length words → (lanes_of words mask value at ≡ 0 → ⊥)
    → IsFirstMatch words mask value at (at + trailing_zeros w64 (lanes_of words mask value at))
first_in_block words mask value at room some =
    let v = chunk at 4 words in
    let m = mask_l (map (passes mask value) v) in
    let same = lanes_are words mask value at room in
    let positive : 0 < m = above m (λ e. some (same ∙ e)) in
    let near = lowest words mask value at room positive in
    let counted : trailing_zeros w64 m ≡ prefix_len (λ x. not (passes mask value x)) v =
    trailing_mask_l (passes mask value) 64 v (omega (arith, length-chunk at 4 words room)) positive in
    subst (λ (n : ℕ). IsFirstMatch words mask value at (at + trailing_zeros w64 n)) (sym same) (record {
      from = omega arith;
      in_range = omega (arith, near);
      matches =
          eqb-true (bit_and (get_or words (at + trailing_zeros w64 m) 0) mask) value
          (run_in_chunk_stops (passes mask value) words at 4 (trailing_zeros w64 m) 0 room counted near);
      first = λ k from to.
          eqb-false (bit_and (get_or words k 0) mask) value
          (run_in_chunk_fails (passes mask value) words at 4 (trailing_zeros w64 m) 0 room counted k from to);
    })
  where
    above : (n : ℕ) → (n ≡ 0 → ⊥) → 0 < n
    above n h = omega arith
