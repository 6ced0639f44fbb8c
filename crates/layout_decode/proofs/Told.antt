-- Header words tell their chunks where the fields of each head have their widths, also after chunks are changed.
use Rattle.std.proofs.Common.{◌≡◌, ℕ, ◌+◌, ◌-◌, ◌*◌, ◌/◌, ◌^◌, ◌<◌, ◌≤◌, inl, inr, Bool, length, replicate, Option, Some, None, sym, subst, refl, ◌∙◌, arith}
use Rattle.std.specs.Option.{option_map}
use Rattle.std.proofs.lemmas.Bool.{cases_order}
use Rattle.std.proofs.lemmas.List.{get_or-set_other}
use Rattle.vs_headers.specs.declared.Head.{Head}
use Rattle.vs_headers.specs.Headers.{IsHead, decoded}
use Rattle.vs_headers.proofs.HeaderLemmas.{encodes}
use Rattle.vs_split.specs.Chunks.{Chunks, chunk_at, head_at, word_at, with_head, with_prev, told_prev, gap, split_chunk}
use Rattle.vs_split.specs.Tiles.{IsTiled}
use Rattle.vs_split.proofs.TileLemmas.{same_head, none_or_some}
use Rattle.vs_split.proofs.TiledLemmas.{granule_within, at_put, as_long, none_at, chunk_of, chunk_there, change}
use Rattle.vs_split.proofs.RowLemmas.{word_tells}

-- each header word tells its chunk, by a key
abbrev pub Tells : Chunks → ℕ → Type 0
Tells v key = (g : ℕ) (h : Head) → head_at v g ≡ Some h → decoded (word_at v g) key (16 * g) ≡ Some h

abbrev pub AreHeads : Chunks → Type 0
AreHeads v = (g : ℕ) (h : Head) → head_at v g ≡ Some h → IsHead h

pub heads_are : (v : Chunks) (key : ℕ) → Tells v key → AreHeads v
heads_are v key tells g h is = (encodes (word_at v g) key (16 * g) h (tells g h is)).head

pub tells_of : (v : Chunks) (key : ℕ) → v.key ≡ key → AreHeads v → Tells v key
tells_of v key same heads g h is = subst (λ k. decoded (word_at v g) k (16 * g) ≡ Some h) same (word_tells v g h (heads g h is) is)

pub tells_nothing : (v : Chunks) (key n : ℕ) → v.heads ≡ replicate n None → Tells v key
tells_nothing v key n none g h is = absurd (none_or_some (head_at v g) h (none_at v n none g) is)

put_heads : (v : Chunks) (g : ℕ) (o : Option Head) → AreHeads v → ((h : Head) → o ≡ Some h → IsHead h) → AreHeads (with_head v g o)
put_heads v g o heads new q h is = elim (cases_order q g) [
  | inl here ↦
      let at : head_at (with_head v g o) g ≡ Some h = subst (λ k. head_at (with_head v g o) k ≡ Some h) here is in
      let within : g < length v.heads = subst (λ n. g < n) (as_long v g o) (granule_within (with_head v g o) g h at) in
      new h (sym (at_put v g o within) ∙ at)
  | inr (inl less) ↦ heads q h (sym (get_or-set_other v.heads g q o None (λ e. omega arith)) ∙ is)
  | inr (inr more) ↦ heads q h (sym (get_or-set_other v.heads g q o None (λ e. omega arith)) ∙ is)
]

pub put_head : (v : Chunks) (g : ℕ) (k : Head) → AreHeads v → IsHead k → AreHeads (with_head v g (Some k))
put_head v g k heads new = put_heads v g (Some k) heads (λ h e. subst IsHead (same_head k h e) new)

prev_heads : (v : Chunks) (g r : ℕ) → AreHeads v → r < 2 ^ 16 → AreHeads (with_prev v g r)
prev_heads v g r heads small = put_heads v g (option_map (told_prev r) (head_at v g)) heads (λ h e. told (head_at v g) h (λ k is. heads g k is) e)
  where
    told : (o : Option Head) (h : Head) → ((k : Head) → o ≡ Some k → IsHead k) → option_map (told_prev r) o ≡ Some h → IsHead h
    told None h all e = absurd (cc)
    told (Some k) h all e =
        let old = all k refl in
        subst IsHead (same_head (told_prev r k) h e) (record { units = old.units; prev = small; unused = old.unused })

pub split_heads : (v : Chunks) (g n : ℕ) (h : Head) → AreHeads v → IsHead h → n ≤ h.units → AreHeads (split_chunk v g h n)
split_heads v g n h heads old l =
    let units = old.units in
    let first = put_head v g (record h { units = n }) heads (record { units = omega arith; prev = old.prev; unused = old.unused }) in
    let second = put_head (with_head v g (Some (record h { units = n }))) (g + n) (gap (h.units - n) n) first (record { units = omega arith; prev = omega arith; unused = omega arith }) in
    prev_heads (with_head (with_head v g (Some (record h { units = n }))) (g + n) (Some (gap (h.units - n) n))) (g + h.units) (h.units - n) second (omega arith)

-- What a cut of a chunk leaves, and what it leaves when the front is then set.
pub record Cut (v w : Chunks) (key addr : ℕ) : Type 0 where
  pub front : Head
  pub there : chunk_at w addr ≡ Some front
  pub same_key : w.key ≡ key
  pub told : (x : Chunks) (unused : ℕ) (busy : Bool) → unused < 2 ^ 8 → x ≡ with_head w (addr / 16) (Some (record front { unused = unused; busy = busy })) → Tells x key

pub cut : (v w : Chunks) (key addr n : ℕ) (h : Head) → IsTiled v → Tells v key → v.key ≡ key → chunk_at v addr ≡ Some h → 2 ≤ n → n + 2 ≤ h.units → w ≡ split_chunk v (addr / 16) h n → Cut v w key addr
cut v w key addr n h t tells same is low high e =
    let at = chunk_of v addr h is in
    let heads = heads_are v key tells in
    let old = heads (addr / 16) h at.head in
    let k : Head = record h { units = n } in
    let new = split_heads v (addr / 16) n h heads old (omega arith) in
    let changed = change v t (addr / 16) n h at.head low high in
    subst (λ (y : Chunks). Cut v y key addr) (sym e) (record {
      front = k;
      there = chunk_there (split_chunk v (addr / 16) h n) addr at.aligned ∙ changed.new;
      same_key = same;
      told = λ x unused busy small f.
          let prev = old.prev in
          let units = old.units in
          let m : Head = record k { unused = unused; busy = busy } in
          subst (λ (y : Chunks). Tells y key) (sym f) (tells_of (with_head (split_chunk v (addr / 16) h n) (addr / 16) (Some m)) key same
          (put_head (split_chunk v (addr / 16) h n) (addr / 16) m new (record { units = omega arith; prev = prev; unused = small })));
    })

-- the first chunk of a heap
pub opened_tells : (v w : Chunks) (key n g units : ℕ) → v.heads ≡ replicate n None → v.key ≡ key → units < 2 ^ 16 → w ≡ with_head v g (Some (gap units 0)) → Tells w key
opened_tells v w key n g units none same small e =
    let empty = heads_are v key (tells_nothing v key n none) in
    subst (λ (y : Chunks). Tells y key) (sym e) (tells_of (with_head v g (Some (gap units 0))) key same
    (put_head v g (gap units 0) empty (record { units = small; prev = omega arith; unused = omega arith })))
