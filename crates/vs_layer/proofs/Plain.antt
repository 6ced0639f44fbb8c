-- The heads of gaps tell no unused bytes, also after a change of the chunks.
use Rattle.std.proofs.Common.{◌≡◌, ℕ, zero, suc, ◌+◌, ◌-◌, ◌≤◌, ◌⊎◌, inl, inr, true, false, List, [], ◌∷◌, length, get_or, Option, Some, None, refl, sym, ap, ◌∙◌, arith}
use Rattle.std.proofs.Math.ListN.{set}
use Rattle.std.specs.Option.{option_map}
use Rattle.std.proofs.lemmas.Bool.{cases_eq, cases_lt, both_ways}
use Rattle.std.proofs.lemmas.List.{get_or-set_other, get_or-set_same}
use Rattle.vs_headers.specs.declared.Head.{Head}
use Rattle.vs_split.specs.Chunks.{Chunks, head_at, with_head, with_prev, told_prev, gap, split_chunk, joined_chunk}
use Rattle.vs_split.proofs.TileLemmas.{same_head}
use Rattle.vs_layer.specs.Sound.{HasPlainGaps}

-- the head, if it is that of a gap, tells none
abbrev pub IsPlain : Option Head → Type 0
IsPlain o = (h : Head) → o ≡ Some h → h.busy ≡ false → h.unused ≡ 0

-- what is read behind a write is the old or the new value
read_set : (os : List (Option Head)) (g : ℕ) (o : Option Head) → (get_or (set os g o) g None ≡ o) ⊎ (get_or (set os g o) g None ≡ get_or os g None)
read_set os g o = elim (cases_lt g (length os)) [
  | inl l ↦ inl (get_or-set_same os g o None l)
  | inr l ↦ inr (past os g o l)
]
  where
    past : (os : List (Option Head)) (g : ℕ) (o : Option Head) → length os ≤ g → get_or (set os g o) g None ≡ get_or os g None
    past [] g o l = refl
    past (x ∷ xs) zero o l = absurd (omega arith)
    past (x ∷ xs) (suc g) o l = past xs g o (omega arith)

pub plain_with : (v : Chunks) (g : ℕ) (o : Option Head) → HasPlainGaps v → IsPlain o → HasPlainGaps (with_head v g o)
plain_with v g o p new q h e free = elim (cases_eq q g) [
  | inr other ↦ p q h (sym (get_or-set_other v.heads g q o None other) ∙ e) free
  | inl same ↦ elim (read_set v.heads g o) [
    | inl is ↦ new h (sym is ∙ ap (head_at (with_head v g o)) (sym same) ∙ e) free
    | inr was ↦ p g h (sym was ∙ ap (head_at (with_head v g o)) (sym same) ∙ e) free
  ]
]

none_plain : IsPlain None
none_plain h e free = absurd (let z : ⊥ = cc in z)

of_some : (k h : Head) → Some k ≡ Some h → (k.busy ≡ false → k.unused ≡ 0) → h.busy ≡ false → h.unused ≡ 0
of_some k h e f free =
    let same : k ≡ h = same_head k h e in
    sym (ap (λ (x : Head). x.unused) same) ∙ f (ap (λ (x : Head). x.busy) same ∙ free)

pub some_plain : (k : Head) → (k.busy ≡ false → k.unused ≡ 0) → IsPlain (Some k)
some_plain k f h e free = of_some k h e f free

told_plain : (u : ℕ) (o : Option Head) → IsPlain o → IsPlain (option_map (told_prev u) o)
told_plain u None p h e free = absurd (let z : ⊥ = cc in z)
told_plain u (Some m) p h e free = of_some (told_prev u m) h e (λ f. p m refl f) free

pub plain_prev : (v : Chunks) (g u : ℕ) → HasPlainGaps v → HasPlainGaps (with_prev v g u)
plain_prev v g u p = plain_with v g (option_map (told_prev u) (head_at v g)) p (told_plain u (head_at v g) (λ h e free. p g h e free))

-- a place
pub plain_place : (v : Chunks) (g : ℕ) (k : Head) → HasPlainGaps v → k.busy ≡ true → HasPlainGaps (with_head v g (Some k))
plain_place v g k p busy = plain_with v g (Some k) p (some_plain k (λ free. absurd (both_ways k.busy free busy)))

-- a chunk that tells none
pub plain_free : (v : Chunks) (g : ℕ) (k : Head) → HasPlainGaps v → k.unused ≡ 0 → HasPlainGaps (with_head v g (Some k))
plain_free v g k p none = plain_with v g (Some k) p (some_plain k (λ free. none))

pub plain_gone : (v : Chunks) (g : ℕ) → HasPlainGaps v → HasPlainGaps (with_head v g None)
plain_gone v g p = plain_with v g None p none_plain

pub plain_split : (v : Chunks) (g : ℕ) (h : Head) (n : ℕ) → HasPlainGaps v → head_at v g ≡ Some h → HasPlainGaps (split_chunk v g h n)
plain_split v g h n p is =
    let front : Head = record h { units = n } in
    let cut = with_head v g (Some front) in
    plain_prev (with_head cut (g + n) (Some (gap (h.units - n) n))) (g + h.units) (h.units - n)
    (plain_free cut (g + n) (gap (h.units - n) n) (plain_with v g (Some front) p (some_plain front (λ free. p g h is free))) refl)

pub plain_join : (v : Chunks) (g : ℕ) (h : Head) (n : ℕ) → HasPlainGaps v → head_at v g ≡ Some h → HasPlainGaps (joined_chunk v g h n)
plain_join v g h n p is =
    let whole : Head = record h { units = h.units + n } in
    let wide = with_head v g (Some whole) in
    plain_prev (with_head wide (g + h.units) None) (g + h.units + n) (h.units + n)
    (plain_gone wide (g + h.units) (plain_with v g (Some whole) p (some_plain whole (λ free. p g h is free))))
