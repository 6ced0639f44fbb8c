-- The block that a draw picks in a new subsegment, as it is worked out.
use Rattle.std.proofs.Common.{◌≡◌, ℕ, ◌+◌, ◌*◌, ◌/◌, ◌%◌, ◌<◌, ◌≤◌, Option, ap, ◌∙◌, arith, add-zero, mod-eq_of_lt}
use Rattle.std.specs.Prelude.{unwrap_or}
use Rattle.std.specs.Int.{div_ceil}
use Rattle.std.proofs.lemmas.Nat.{mod_below}
use Rattle.heap_model.specs.Geometry.{ceil_div}
use Rattle.heap_model.specs.Bits.{pick}
use Rattle.heap_model.specs.Buckets.{words_in_use, valid_bits, block_count}
use Rattle.heap_model.specs.Search.{own_block}
use Rattle.search_laws.proofs.NewSpan.{own_below}
use Rattle.lfh_buckets.specs.Blocks.{IsBucket}
use Rattle.lfh_buckets.proofs.BlockLemmas.{few_blocks}

in_use : (b : ℕ) → IsBucket b → (0 < words_in_use b) × (words_in_use b ≤ 4)
in_use b h = let n = few_blocks b h in let l = n.0 in let m = n.1 in (omega arith, omega arith)

pub in_use_is : (b n count : ℕ) → count ≡ block_count b → n ≡ div_ceil count 64 → n ≡ words_in_use b
in_use_is b n count c e = let f : div_ceil (block_count b) 64 ≡ ceil_div (block_count b) 64 = omega arith in e ∙ ap (λ (m : ℕ). div_ceil m 64) c ∙ f

pub word_below : (b d n k : ℕ) → IsBucket b → n ≡ words_in_use b → (d / 64 % n + k) % n < 4
word_below b d n k h e =
    let u = in_use b h in
    let u0 = u.0 in
    let u1 = u.1 in
    let l = mod_below (d / 64 % n + k) n (omega (arith, e, u0)) in
    omega (arith, l, e, u1)

pub add_zero_mod : (b d n : ℕ) → IsBucket b → n ≡ words_in_use b → (d / 64 % n + 0) % n ≡ d / 64 % n
add_zero_mod b d n h e =
    let u = (in_use b h).0 in
    let l = mod_below (d / 64) n (omega (arith, e, u)) in
    ap (λ (m : ℕ). m % n) (add-zero (d / 64 % n)) ∙ mod_self (d / 64 % n) n l
  where
    mod_self : (m n : ℕ) → m < n → m % n ≡ m
    mod_self m n l = mod-eq_of_lt l

pub own_is : (b d n valid bit : ℕ) (o : Option ℕ) → n ≡ words_in_use b → valid ≡ valid_bits b (d / 64 % n) → o ≡ pick 0 valid (d % 64) → bit ≡ unwrap_or o 0
    → 64 * (d / 64 % n) + bit ≡ own_block (record { bucket = b; slot = 0; draw = d })
own_is b d n valid bit o e v p f =
    ap (λ (m : ℕ). 64 * (d / 64 % n) + m) (f ∙ ap (λ o. unwrap_or o 0) (p ∙ ap (λ (x : ℕ). pick 0 x (d % 64)) v))
    ∙ ap (λ (m : ℕ). 64 * (d / 64 % m) + unwrap_or (pick 0 (valid_bits b (d / 64 % m)) (d % 64)) 0) e

pub own_fits : (b s d : ℕ) → IsBucket b → (own_block (record { bucket = b; slot = s; draw = d }) < block_count b) × (own_block (record { bucket = b; slot = s; draw = d }) < 252)
own_fits b s d h =
    let f = few_blocks b h in
    let f0 = f.0 in
    let f1 = f.1 in
    let o = own_below (record { bucket = b; slot = s; draw = d }) (omega (arith, f0)) in
    (o, omega (arith, o, f1))
