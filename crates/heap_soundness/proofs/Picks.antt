-- What a search picks is a block of its bucket.
use Rattle.std.proofs.Common.{◌≡◌, ℕ, zero, suc, ◌+◌, ◌-◌, ◌*◌, ◌/◌, ◌%◌, ◌^◌, ◌<◌, ◌≤◌, min, Bool, true, false, ◌&&◌, not, Option, Some, None, refl, sym, ◌∙◌, subst, arith, ltb, pow_mono, mod-lt, div-lt_iff_lt-mul, inl, inr, pow_pos, cond}
use Rattle.std.specs.Prelude.{option_and_then, unwrap_or}
use Rattle.std.proofs.lemmas.Bool.{cases_Bool, cases_lt, cases_eq, and_parts, ltb-true, false≢true, agree_below_at, eq-eqb, ne_eqb}
use Rattle.heap_model.specs.declared.Act.{Act}
use Rattle.heap_model.specs.declared.Act.TheVariants as acts
use Rattle.heap_model.specs.declared.Call.{Call}
use Rattle.heap_model.specs.declared.Call.TheVariants as calls
use Rattle.heap_model.specs.declared.Kind.TheVariants as kinds
use Rattle.heap_model.specs.Buckets.{bucket_of, block_count, valid_bits}
use Rattle.heap_model.specs.Bits.{has_bit, first_cyclic, pick}
use Rattle.heap_model.specs.State.{Setting, State, place_at, updated}
use Rattle.heap_model.specs.Stay.{for_some}
use Rattle.heap_model.specs.CallState.{Stage, NotBegun, AtHint, FirstPass, SecondPass, Search, CallState}
use Rattle.heap_model.specs.Search.{SearchKey, search_key_of, asked, asked_by, asked_bucket, sought, sought_by, has_to_move, first_word, after_pick, onto_span, onto_span_at, after_saw, after_no_hint, after_lost, after_no_span, after_own_span, own_block}
use Rattle.heap_model.specs.Legal.{call_after, step_search}
use Rattle.heap_soundness.specs.Invariant.{IsPickSound}
use Rattle.heap_soundness.proofs.MadeSpans.{bucket_is}

---- A bit that is picked is valid

cyclic_passes : (test : ℕ → Bool) (at n i : ℕ) → first_cyclic test at n ≡ Some i → test i ≡ true
cyclic_passes test at zero i h = absurd (let z : ⊥ = cc in z)
cyclic_passes test at (suc n) i h = elim (cases_Bool (test (at % 64))) [
  | inl e ↦ let g : Some (at % 64) ≡ Some i = (rw (e, first_cyclic) at h) in let same : at % 64 ≡ i = cc in subst (λ (x : ℕ). test x ≡ true) same e
  | inr e ↦ cyclic_passes test (suc at) n i (rw (e, first_cyclic) at h)
]

bit_below : (n i : ℕ) → has_bit (2 ^ n - 1) i ≡ true → i < n
bit_below n i h = elim (cases_lt i n) [
  | inl l ↦ l
  | inr l ↦
      let p : 2 ^ n ≤ 2 ^ i = pow_mono l in
      let some = pow_pos i in
      let z : (2 ^ n - 1) / 2 ^ i < 1 = (div-lt_iff_lt-mul some).1 (omega (arith, p, some)) in
      let e : (2 ^ n - 1) / 2 ^ i ≡ 0 = omega arith in
      absurd (false≢true (rw e at h))
]

pub pick_below : (b word bits start i : ℕ) → pick bits (valid_bits b word) start ≡ Some i → 64 * word + i < block_count b
pick_below b word bits start i h = below (block_count b) (bit_below (min 64 (block_count b - 64 * word)) i (and_parts (has_bit (valid_bits b word) i) (not (has_bit bits i)) (cyclic_passes (λ i. has_bit (valid_bits b word) i && not (has_bit bits i)) start 64 i h)).0)
  where
    below : (n : ℕ) → i < min 64 (n - 64 * word) → 64 * word + i < n
    below n l = omega arith

-- each bucket has blocks
some_blocks : (b : ℕ) → 1 ≤ b → b ≤ 128 → 0 < block_count b
some_blocks zero l h = absurd (omega arith)
some_blocks (suc b) l h = ltb-true 0 (block_count (suc b)) (agree_below_at (λ i. ltb 0 (block_count (suc i))) (λ i. true) 128 b refl (omega arith))

own_below : (g : SearchKey) → 0 < block_count g.bucket → own_block g < block_count g.bucket
own_below g some = by_pick (pick 0 (valid_bits g.bucket (first_word g)) (g.draw % 64)) refl
  where
    below : (n w : ℕ) → w < (n + 64 - 1) / 64 → 64 * w + 0 < n
    below n w l = omega arith

    words : (n : ℕ) → 0 < n → 0 < (n + 64 - 1) / 64
    words n l = omega arith

    by_pick : (o : Option ℕ) → pick 0 (valid_bits g.bucket (first_word g)) (g.draw % 64) ≡ o → 64 * first_word g + unwrap_or o 0 < block_count g.bucket
    by_pick None e = below (block_count g.bucket) (first_word g) (mod-lt (g.draw / 64) (words (block_count g.bucket) some))
    by_pick (Some i) e = pick_below g.bucket (first_word g) 0 (g.draw % 64) i e

---- Steps of the search

abbrev IsBelow : Search → ℕ → Type 0
IsBelow f b = (i : ℕ) → f.picked ≡ Some i → i < block_count b

picked_onto : (f : Search) (head : ℕ) (stage : Stage) (ended : Bool) → (onto_span_at f head stage ended).picked ≡ f.picked
picked_onto f head NotBegun true = refl
picked_onto f head NotBegun false = refl
picked_onto f head AtHint true = refl
picked_onto f head AtHint false = refl
picked_onto f head FirstPass true = refl
picked_onto f head FirstPass false = refl
picked_onto f head SecondPass true = refl
picked_onto f head SecondPass false = refl

saw_below : (g : SearchKey) (f : Search) (head word bits : ℕ) → IsBelow f g.bucket → IsBelow (after_saw g f head word bits) g.bucket
saw_below g f head word bits h = by_pick (pick bits (valid_bits g.bucket word) (g.draw % 64)) refl
  where
    by_pick : (o : Option ℕ) → pick bits (valid_bits g.bucket word) (g.draw % 64) ≡ o → IsBelow (after_pick g (onto_span f head) word o) g.bucket
    by_pick None e = λ i p. h i (sym (picked_onto f head f.stage f.ended) ∙ p)
    by_pick (Some j) e = λ i p. let same : 64 * word + j ≡ i = cc in subst (λ (n : ℕ). n < block_count g.bucket) same (pick_below g.bucket word bits (g.draw % 64) j e)

-- a step of the search for the bucket that the call asks
step_sound : (s : Setting) (c : ℕ) (k : CallState) (f : SearchKey → Search → Search) (o : Option ℕ) → asked_bucket k ≡ o → ((b : ℕ) → asked_bucket k ≡ Some b → IsBelow k.search b → IsBelow (f (search_key_of s c k b) k.search) b) → IsPickSound k → IsPickSound (step_search s c k f o)
step_sound s c k f None e g h = h
step_sound s c k f (Some b) e g h = λ i p. (b, e, g b e (λ j q. let r = h j q in let same : Some r.0 ≡ Some b = sym r.1 ∙ e in let at : r.0 ≡ b = cc in subst (λ (n : ℕ). j < block_count n) at r.2) i p)

blocks_of : (k : CallState) (b : ℕ) → asked_bucket k ≡ Some b → 0 < block_count b
blocks_of k b e = let r = bucket_is (asked k) b e in some_blocks b r.0 r.1

spanless : (k : CallState) → IsPickSound k → IsPickSound (record k { no_span = true })
spanless k h = h

pub picks_act : (s : Setting) (c : ℕ) (k : CallState) (act : Act) → IsPickSound k → IsPickSound (call_after s c k act)
picks_act s c k (acts.Begin call) h = λ i p. absurd (let z : ⊥ = cc in z)
picks_act s c k acts.Enter h = h
picks_act s c k (acts.Span first pages kinds.Lfh bucket slot) h = step_sound s c k (λ g f. after_own_span g f first) (asked_bucket k) refl (λ b e l i p. let below = own_below (search_key_of s c k b) (blocks_of k b e) in let same : own_block (search_key_of s c k b) ≡ i = cc in subst (λ (n : ℕ). n < block_count b) same below) h
picks_act s c k (acts.Span first pages kinds.Vs bucket slot) h = h
picks_act s c k (acts.Span first pages kinds.Back bucket slot) h = h
picks_act s c k (acts.Span first pages kinds.Header bucket slot) h = h
picks_act s c k (acts.Span first pages kinds.Free bucket slot) h = h
picks_act s c k (acts.Place start granules layer) h = h
picks_act s c k (acts.Saw head word bits) h = step_sound s c k (λ g f. after_saw g f head word bits) (asked_bucket k) refl (λ b e l. saw_below (search_key_of s c k b) k.search head word bits l) h
picks_act s c k (acts.Lost head index) h = step_sound s c k (λ g f. after_lost f) (asked_bucket k) refl (λ b e l i p. absurd (let z : ⊥ = cc in z)) h
picks_act s c k (acts.NoHint bucket slot) h = step_sound s c k (λ g f. after_no_hint f) (asked_bucket k) refl (λ b e l i p. l i p) h
picks_act s c k (acts.NoSpan bucket) h = spanless (step_search s c k (λ g f. after_no_span f) (asked_bucket k)) (step_sound s c k (λ g f. after_no_span f) (asked_bucket k) refl (λ b e l i p. absurd (let z : ⊥ = cc in z)) h)
picks_act s c k (acts.Take a size) h = h
picks_act s c k _ h = h

-- .. of every caller
pub picks_after : (s : Setting) (calls : ℕ → CallState) (c : ℕ) (act : Act) → ((d : ℕ) → IsPickSound (calls d)) → (d : ℕ) → IsPickSound (updated calls c (call_after s c (calls c) act) d)
picks_after s calls c act h d = elim (cases_eq d c) [
  | inl e ↦ let f = eq-eqb d c e in rw f (picks_act s c (calls c) act (h c))
  | inr ne ↦ let f = ne_eqb d c ne in rw f (h d)
]

---- What a call seeks it asks

pub sought_asked : (s : Setting) (st : State) (c : ℕ) (k : CallState) (b : ℕ) → option_and_then bucket_of (sought s st c k) ≡ Some b → asked_bucket k ≡ Some b
sought_asked s st c k b h = by_placed k.placed h
  where
    by_call : (o : Option Call) → option_and_then bucket_of (option_and_then (sought_by s st c) o) ≡ Some b → option_and_then bucket_of (option_and_then asked_by o) ≡ Some b
    by_call (Some (calls.Alloc n flags)) h = h
    by_call (Some (calls.Realloc a n flags)) h = moved (not flags.in_place && for_some (place_at st c a) (has_to_move s st c n)) h
      where
        moved : (x : Bool) → option_and_then bucket_of (cond x (Some n) None) ≡ Some b → bucket_of n ≡ Some b
        moved true h = h
        moved false h = absurd (let z : ⊥ = cc in z)
    by_call None h = absurd (let z : ⊥ = cc in z)
    by_call (Some _) h = absurd (let z : ⊥ = cc in z)

    by_placed : (x : Bool) → option_and_then bucket_of (cond x None (option_and_then (sought_by s st c) k.call)) ≡ Some b → asked_bucket k ≡ Some b
    by_placed true h = absurd (let z : ⊥ = cc in z)
    by_placed false h = by_call k.call h
