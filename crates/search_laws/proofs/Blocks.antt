-- The block that a search finds: its number, its place, and that nothing is there.
use Rattle.std.proofs.Common.{◌≡◌, ℕ, zero, suc, ◌+◌, ◌-◌, ◌*◌, ◌/◌, ◌%◌, ◌<◌, ◌≤◌, max, Bool, true, false, ◌&&◌, not, List, [], ◌∷◌, Option, Some, None, option_map, refl, sym, ap, subst, ◌∙◌, arith, leb, ltb, inl, inr}
use Rattle.std.specs.Option.{option_or}
use Rattle.std.proofs.Math.Nat.{mul-div_cancel}
use Rattle.std.proofs.lemmas.Bool.{cases_Bool, and_parts, le-leb, leb-true, leb-false, lt-leb, lt-ltb, not-true, agree_below_at, ltb-true}
use Rattle.heap_model.specs.Buckets.{bucket_of, block_size, block_count, block_address, valid_bits, words_in_use}
use Rattle.heap_model.specs.Bits.{starts_at, is_taken, bits_of, has_bit, first_cyclic, pick}
use Rattle.heap_model.specs.State.{Span, Place}
use Rattle.heap_model.specs.Search.{SearchKey}
use Rattle.heap_soundness.specs.Sound.{IsOneOf}
use Rattle.heap_soundness.proofs.Picks.{pick_below}
use Rattle.search_laws.specs.Reading.{Found, found_of, word_behind, picked_at, block_from, block_found, pass_found}
use Rattle.search_laws.proofs.Bits.{bit_of}

---- Sizes

pub whole_granules : (b : ℕ) → 16 * (block_size b / 16) ≡ block_size b
whole_granules b = elim (cases_Bool (leb b 64)) [
  | inl e ↦ rw e (omega arith)
  | inr e ↦ elim (cases_Bool (leb b 80)) [
    | inl f ↦ rw (e, f) (omega arith)
    | inr f ↦ elim (cases_Bool (leb b 96)) [
      | inl g ↦ rw (e, f, g) (omega arith)
      | inr g ↦ elim (cases_Bool (leb b 112)) [
        | inl h ↦ rw (e, f, g, h) (omega arith)
        | inr h ↦ rw (e, f, g, h) (omega arith)
      ]
    ]
  ]
]

pub some_size : (b : ℕ) → 1 ≤ b → b ≤ 128 → 0 < block_size b
some_size zero l h = absurd (omega arith)
some_size (suc b) l h = ltb-true 0 (block_size (suc b)) (agree_below_at (λ i. ltb 0 (block_size (suc i))) (λ i. true) 128 b refl (omega arith))

-- a size is none of a longer bucket, and its block has room for it
pub bucket_fits : (n b : ℕ) → bucket_of n ≡ Some b → (n ≤ 16368) × (n ≤ block_size b)
bucket_fits n b h = elim (cases_Bool (leb (max 1 n) 1024)) [
  | inl e ↦
      let l = leb-true (max 1 n) 1024 e in
      let g : Some ((max 1 n + 16 - 1) / 16) ≡ Some b = (rw e at h) in
      let f : (max 1 n + 16 - 1) / 16 ≡ b = cc in
      let t : leb b 64 ≡ true = le-leb b 64 (omega arith) in
      (omega arith, (rw t (omega arith)))
  | inr e ↦ let k = leb-false (max 1 n) 1024 e in elim (cases_Bool (leb (max 1 n) 2048)) [
    | inl e2 ↦
        let l = leb-true (max 1 n) 2048 e2 in
        let g : Some (64 + (max 1 n - 1024 + 64 - 1) / 64) ≡ Some b = (rw (e, e2) at h) in
        let f : 64 + (max 1 n - 1024 + 64 - 1) / 64 ≡ b = cc in
        let t : leb b 64 ≡ false = lt-leb b 64 (omega arith) in
        let t2 : leb b 80 ≡ true = le-leb b 80 (omega arith) in
        (omega arith, (rw (t, t2) (omega arith)))
    | inr e2 ↦ let k2 = leb-false (max 1 n) 2048 e2 in elim (cases_Bool (leb (max 1 n) 4096)) [
      | inl e3 ↦
          let l = leb-true (max 1 n) 4096 e3 in
          let g : Some (80 + (max 1 n - 2048 + 128 - 1) / 128) ≡ Some b = (rw (e, e2, e3) at h) in
          let f : 80 + (max 1 n - 2048 + 128 - 1) / 128 ≡ b = cc in
          let t : leb b 64 ≡ false = lt-leb b 64 (omega arith) in
          let t2 : leb b 80 ≡ false = lt-leb b 80 (omega arith) in
          let t3 : leb b 96 ≡ true = le-leb b 96 (omega arith) in
          (omega arith, (rw (t, t2, t3) (omega arith)))
      | inr e3 ↦ let k3 = leb-false (max 1 n) 4096 e3 in elim (cases_Bool (leb (max 1 n) 8192)) [
        | inl e4 ↦
            let l = leb-true (max 1 n) 8192 e4 in
            let g : Some (96 + (max 1 n - 4096 + 256 - 1) / 256) ≡ Some b = (rw (e, e2, e3, e4) at h) in
            let f : 96 + (max 1 n - 4096 + 256 - 1) / 256 ≡ b = cc in
            let t : leb b 64 ≡ false = lt-leb b 64 (omega arith) in
            let t2 : leb b 80 ≡ false = lt-leb b 80 (omega arith) in
            let t3 : leb b 96 ≡ false = lt-leb b 96 (omega arith) in
            let t4 : leb b 112 ≡ true = le-leb b 112 (omega arith) in
            (omega arith, (rw (t, t2, t3, t4) (omega arith)))
        | inr e4 ↦ let k4 = leb-false (max 1 n) 8192 e4 in elim (cases_Bool (leb (max 1 n) 16368)) [
          | inl e5 ↦
              let l = leb-true (max 1 n) 16368 e5 in
              let g : Some (112 + (max 1 n - 8192 + 512 - 1) / 512) ≡ Some b = (rw (e, e2, e3, e4, e5) at h) in
              let f : 112 + (max 1 n - 8192 + 512 - 1) / 512 ≡ b = cc in
              let t : leb b 64 ≡ false = lt-leb b 64 (omega arith) in
              let t2 : leb b 80 ≡ false = lt-leb b 80 (omega arith) in
              let t3 : leb b 96 ≡ false = lt-leb b 96 (omega arith) in
              let t4 : leb b 112 ≡ false = lt-leb b 112 (omega arith) in
              (omega arith, (rw (t, t2, t3, t4) (omega arith)))
          | inr e5 ↦ let g : None ≡ Some b = (rw (e, e2, e3, e4, e5) at h) in absurd (let z : ⊥ = cc in z)
        ]
      ]
    ]
  ]
]

-- the number of a block, by its place
pub number_is : (b first i : ℕ) → 0 < block_size b → (block_address b first i - block_address b first 0) / block_size b ≡ i
number_is b first i some = by_size (block_size b) some
  where
    by_size : (size : ℕ) → 0 < size → ((4096 * first + 64 + i * size) - (4096 * first + 64 + 0 * size)) / size ≡ i
    by_size size some = let e : (4096 * first + 64 + i * size) - (4096 * first + 64 + 0 * size) ≡ i * size = omega arith in rw e (mul-div_cancel i some)

---- What is found is free

cyclic_passes : (test : ℕ → Bool) (at n i : ℕ) → first_cyclic test at n ≡ Some i → (test i ≡ true) × (i < 64)
cyclic_passes test at zero i h = absurd (let z : ⊥ = cc in z)
cyclic_passes test at (suc n) i h = elim (cases_Bool (test (at % 64))) [
  | inl e ↦ let g : Some (at % 64) ≡ Some i = (rw (e, first_cyclic) at h) in let same : at % 64 ≡ i = cc in (subst (λ (x : ℕ). test x ≡ true) same e, subst (λ (x : ℕ). x < 64) same (omega arith))
  | inr e ↦ cyclic_passes test (suc at) n i (rw (e, first_cyclic) at h)
]

-- a bit that is picked is clear
picked_clear : (bits valid start i : ℕ) → pick bits valid start ≡ Some i → (has_bit bits i ≡ false) × (i < 64)
picked_clear bits valid start i h =
    let p = cyclic_passes (λ i. has_bit valid i && not (has_bit bits i)) start 64 i h in
    (not-true (has_bit bits i) (and_parts (has_bit valid i) (not (has_bit bits i)) p.0).1, p.1)

-- no place begins where the block would
pub record IsFree (ps : List Place) (b : ℕ) (x : Span) (i : ℕ) : Type 0 where
  pub below : i < block_count b
  pub clear : starts_at ps (block_address b x.first i) ≡ false

module _ (ps : List Place) (g : SearchKey) (x : Span) (bucket : x.bucket ≡ g.bucket) where
  word_free : (w i : ℕ) → pick (bits_of ps x w) (valid_bits g.bucket w) (g.draw % 64) ≡ Some i → IsFree ps g.bucket x (64 * w + i)
  word_free w i h =
      let p = picked_clear (bits_of ps x w) (valid_bits g.bucket w) (g.draw % 64) i h in
      let below = pick_below g.bucket w (bits_of ps x w) (g.draw % 64) i h in
      record { below = below; clear = clear_at (64 * w + i) below (sym (bit_of (λ i. is_taken ps x (64 * w + i)) 64 i p.1) ∙ p.0) }
    where
      clear_at : (j : ℕ) → j < block_count g.bucket → is_taken ps x j ≡ false → starts_at ps (block_address g.bucket x.first j) ≡ false
      clear_at j below e =
          let t = lt-ltb j (block_count g.bucket) below in
          let f : (ltb j (block_count g.bucket) && starts_at ps (block_address g.bucket x.first j)) ≡ false = ap (λ (b : ℕ). ltb j (block_count b) && starts_at ps (block_address b x.first j)) (sym bucket) ∙ e in
          rw t at f

  shown_free : (k i : ℕ) → picked_at ps g x k ≡ Some i → IsFree ps g.bucket x i
  shown_free k i h = by_bit (pick (bits_of ps x (word_behind g k)) (valid_bits g.bucket (word_behind g k)) (g.draw % 64)) refl h
    where
      by_bit : (o : Option ℕ) → pick (bits_of ps x (word_behind g k)) (valid_bits g.bucket (word_behind g k)) (g.draw % 64) ≡ o → option_map (λ j. 64 * word_behind g k + j) o ≡ Some i → IsFree ps g.bucket x i
      by_bit None e h = absurd (let z : ⊥ = cc in z)
      by_bit (Some j) e h = let same : 64 * word_behind g k + j ≡ i = cc in subst (IsFree ps g.bucket x) same (word_free (word_behind g k) j e)

  from_free : (n k i : ℕ) → block_from ps g x n k ≡ Some i → IsFree ps g.bucket x i
  from_free zero k i h = absurd (let z : ⊥ = cc in z)
  from_free (suc n) k i h = first_or (picked_at ps g x k) (block_from ps g x n (suc k)) (shown_free k i) (from_free n (suc k) i) h
    where
      first_or : (o rest : Option ℕ) → (o ≡ Some i → IsFree ps g.bucket x i) → (rest ≡ Some i → IsFree ps g.bucket x i) → option_or o rest ≡ Some i → IsFree ps g.bucket x i
      first_or None rest f r h = r h
      first_or (Some j) rest f r h = f h

  pub found_free : (i : ℕ) → block_found ps g x ≡ Some i → IsFree ps g.bucket x i
  found_free i h = from_free (words_in_use g.bucket) 0 i h

-- the block that a pass finds is that of one of its spans
pub pass_parts : (ps : List Place) (g : SearchKey) (xs : List Span) (f : Found) → pass_found ps g xs ≡ Some f → IsOneOf f.span xs × (block_found ps g f.span ≡ Some f.index)
pass_parts ps g [] f h = absurd (let z : ⊥ = cc in z)
pass_parts ps g (x ∷ xs) f h = by_block (block_found ps g x) refl (pass_parts ps g xs f) h
  where
    by_block : (o : Option ℕ) → block_found ps g x ≡ o → (pass_found ps g xs ≡ Some f → IsOneOf f.span xs × (block_found ps g f.span ≡ Some f.index)) →
        option_or (option_map (found_of x) o) (pass_found ps g xs) ≡ Some f → IsOneOf f.span (x ∷ xs) × (block_found ps g f.span ≡ Some f.index)
    by_block None e again h = let r = again h in (inr r.0, r.1)
    by_block (Some i) e again h = let same : found_of x i ≡ f = cc in subst (λ (f : Found). IsOneOf f.span (x ∷ xs) × (block_found ps g f.span ≡ Some f.index)) same (inl refl, e)
