-- The index always has room: gaps of a heap start at least 4 granules apart, since between two of one span lies a place of 2 granules
-- or more, and between those of two spans 3 granules that no chunk has; and none starts in the first 512 granules.
use Rattle.std.proofs.Common.{◌≡◌, ℕ, zero, suc, ◌+◌, ◌*◌, ◌-◌, ◌<◌, ◌≤◌, Bool, true, false, cond, not, length, Option, Some, None, refl, sym, ap, subst, ◌∙◌, arith, leb, inl, inr, ◌⊎◌}
use Rattle.std.specs.List.{list_any}
use Rattle.std.specs.Ordering.{nat_cmp, eq_by_cmp, is_eq}
use Rattle.std.proofs.lemmas.Bool.{cases_Bool, cases_lt, leb-true, le-leb, and_parts, not-true, false≢true, true≢false}
use Rattle.std.proofs.lemmas.Cmp.{tied_itself}
use Rattle.std.proofs.lemmas.Map.Lookups.{CmpEqualImpliesEq, exact_pairs, exact_unsigned}
use Rattle.std.proofs.lemmas.Map.Views.{tells_apart}
use Rattle.std.specs.FinSet as set
use Rattle.heap_soundness.specs.Sound.{IsOneOf}
use Rattle.heap_soundness.proofs.Lists.{any_in, any_found, none_at}
use Rattle.vs_headers.specs.declared.Head.{Head}
use Rattle.vs_split.specs.Chunks.{Chunks, head_at}
use Rattle.vs_split.specs.Tiles.{IsBehind, IsTiled}
use Rattle.vs_split.proofs.TileLemmas.{same_head, none_or_some}
use Rattle.vs_split.proofs.TiledLemmas.{granule_within}
use Rattle.vs_free_tree.specs.Gaps.{gap_cmp, Gaps, GapIndex}
use Rattle.vs_free_tree.proofs.SetLemmas.{gap_cmp_total}
use Rattle.vs_layer.specs.Sound.{IsIndexOf}
use Rattle.vs_layer.proofs.Best.{IsGapHere, gap_at_is}

abbrev Gap : Type 0
Gap = ℕ × ℕ

---- A set of pairs whose second numbers lie 4 apart

tells_gaps : CmpEqualImpliesEq gap_cmp
tells_gaps = exact_pairs nat_cmp nat_cmp exact_unsigned exact_unsigned

abbrev same : Gap → Gap → Bool
same = eq_by_cmp gap_cmp

same_itself : (q : Gap) → same q q ≡ true
same_itself q = ap is_eq (tied_itself gap_cmp_total q)

-- no two members start less than 4 granules apart
abbrev AreSpread : Gaps → Type 0
AreSpread s = (q r : Gap) → set.contains s q ≡ true → set.contains s r ≡ true → q.1 ≤ r.1 → (q ≡ r) ⊎ (q.1 + 4 ≤ r.1)

abbrev AllBelow : Gaps → ℕ → Type 0
AllBelow s n = (q : Gap) → set.contains s q ≡ true → q.1 < n

abbrev AllFrom : Gaps → ℕ → Type 0
AllFrom s n = (q : Gap) → set.contains s q ≡ true → n ≤ q.1

-- those of a set without one of its members
record IsLeft (s : Gaps) (g q : Gap) : Type 0 where
  held : set.contains s q ≡ true
  other : same q g ≡ false

left : (s : Gaps) (g q : Gap) → set.contains (set.remove s g) q ≡ true → IsLeft s g q
left s g q h =
    let p = and_parts (not (same q g)) (set.contains s q) (sym (set.contains-remove gap_cmp_total s g q) ∙ h) in
    record { held = p.1; other = not-true _ p.0 }

len_without : (s : Gaps) (g : Gap) → set.contains s g ≡ true → set.len (set.remove s g) ≡ set.len s - 1
len_without s g h = set.len-remove gap_cmp_total s g ∙ ap (λ b. cond b (set.len s - 1) (set.len s)) h

one_less : (b : Bool) (n : ℕ) → cond b (n - 1) n ≤ n
one_less true n = omega arith
one_less false n = omega arith

-- a removal makes room, and never takes any
pub removed_len : (s : Gaps) (g : Gap) → set.len (set.remove s g) ≤ set.len s
removed_len s g = subst (λ n. n ≤ set.len s) (sym (set.len-remove gap_cmp_total s g)) (one_less (set.contains s g) (set.len s))

none_held : (s : Gaps) → ((q : Gap) → set.contains s q ≡ false) → set.len s ≡ 0
none_held s none =
    ap set.len (set.same_set gap_cmp_total tells_gaps s set.empty (λ q. none q ∙ sym (set.contains-empty gap_cmp q))) ∙ set.len-empty gap_cmp

not_held : (b : Bool) → (b ≡ true → ⊥) → b ≡ false
not_held true f = absurd (f refl)
not_held false f = refl

from_here : ℕ → Gap → Bool
from_here n q = leb n q.1

-- some member starts at n or behind, or none does
is_some_from : (s : Gaps) (n : ℕ) → ((q : Gap) × (set.contains s q ≡ true) × (n ≤ q.1)) ⊎ AllBelow s n
unfolding from_here
is_some_from s n = elim (cases_Bool (list_any (from_here n) (set.items s))) [
  | inl e ↦
      let f = any_found (from_here n) (set.items s) e in
      inl (f.0, set.contains-items s f.0 ∙ any_in (same f.0) (set.items s) f.0 f.1 (same_itself f.0), leb-true n (f.0).1 f.2)
  | inr e ↦ inr (λ q h. below q e (any_found (same q) (set.items s) (sym (set.contains-items s q) ∙ h)))
]
  where
    below : (q : Gap) → list_any (from_here n) (set.items s) ≡ false → ((r : Gap) × IsOneOf r (set.items s) × (same q r ≡ true)) → q.1 < n
    below q e f =
        let eq : q ≡ f.0 = tells_apart tells_gaps q f.0 f.2 in
        elim (cases_lt q.1 n) [
          | inl l ↦ l
          | inr l ↦
              let yes : leb n (f.0).1 ≡ true = subst (λ (r : Gap). leb n r.1 ≡ true) eq (le-leb n q.1 l) in
              absurd (true≢false (sym yes ∙ none_at (from_here n) (set.items s) f.0 e f.1))
        ]

few : (low k : ℕ) (s : Gaps) → AreSpread s → AllFrom s low → AllBelow s (low + 4 * k) → set.len s ≤ k
few low zero s spread from below =
    omega (arith, none_held s (λ q. not_held (set.contains s q) (λ h. let a = from q h in let b = below q h in let z : ⊥ = omega arith in z)))
few low (suc k) s spread from below = elim (is_some_from s (low + 4 * k)) [
  | inr all ↦ omega (arith, few low k s spread from all)
  | inl w ↦
      let g : Gap = w.0 in
      let rest : Gaps = set.remove s g in
      let again = few low k rest (λ q r h j l. spread q r (left s g q h).held (left s g r j).held l)
      (λ q h. from q (left s g q h).held)
      (λ q h. apart g w.1 w.2 q (left s g q h)) in
      omega (arith, len_without s g w.1, again)
]
  where
    apart : (g : Gap) → set.contains s g ≡ true → low + 4 * k ≤ g.1 → (q : Gap) → IsLeft s g q → q.1 < low + 4 * k
    apart g held l q o = elim (cases_lt q.1 (low + 4 * k)) [
      | inl m ↦ m
      | inr m ↦ absurd (let b = below q o.held in let c = below g held in elim (cases_lt q.1 g.1) [
        | inl n ↦ differ (spread q g o.held held (omega arith)) m b c
        | inr n ↦ differ_too (spread g q held o.held n) m b c
      ])
    ]
      where
        differ : (q ≡ g) ⊎ (q.1 + 4 ≤ g.1) → low + 4 * k ≤ q.1 → q.1 < low + 4 * suc k → g.1 < low + 4 * suc k → ⊥
        differ (inl e) m b c = true≢false (sym (same_itself g) ∙ subst (λ (r : Gap). same r g ≡ false) e o.other)
        differ (inr e) m b c = omega arith

        differ_too : (g ≡ q) ⊎ (g.1 + 4 ≤ q.1) → low + 4 * k ≤ q.1 → q.1 < low + 4 * suc k → g.1 < low + 4 * suc k → ⊥
        differ_too (inl e) m b c = true≢false (sym (same_itself g) ∙ subst (λ (r : Gap). same r g ≡ false) (sym e) o.other)
        differ_too (inr e) m b c = omega arith

---- The gaps of a heap

-- no two free chunks are neighbours
abbrev AreJoined : Chunks → Type 0
AreJoined v = (g : ℕ) (h n : Head) → head_at v g ≡ Some h → h.busy ≡ false → head_at v (g + h.units) ≡ Some n → n.busy ≡ true

module _ (v : Chunks) (t : IsTiled v) (joined : AreJoined v) where
  none_or : (o : Option Head) → (o ≡ None) ⊎ ((h : Head) × (o ≡ Some h))
  none_or None = inl refl
  none_or (Some h) = inr (h, refl)

  -- where no chunk starts at the end of one, one that starts later starts 2 granules later or more
  behind_end : (g k : ℕ) (h n : Head) → head_at v g ≡ Some h → head_at v k ≡ Some n → g < k → head_at v (g + h.units) ≡ None → g + h.units + 2 ≤ k
  behind_end g k h n at there l none =
      let b = t.tiles k n there in
      let far = (t.tiles g h at).apart k n l there in
      elim (cases_lt 0 n.prev) [
        | inr z ↦ let first = b.first (omega arith) in let page = (t.tiles g h at).last none in omega arith
        | inl some ↦ by_chunk (b.behind some) far
      ]
    where
      by_chunk : IsBehind (head_at v) k n.prev → g + h.units ≤ k → g + h.units + 2 ≤ k
      by_chunk w far =
          let j : ℕ = k - n.prev in
          let two = (t.tiles j w.head w.there).some in
          let u = w.units in
          let b = w.below in
          elim (cases_lt g j) [
            | inl m ↦ let a = (t.tiles g h at).apart j w.head m w.there in omega arith
            | inr m ↦ elim (cases_lt j g) [
              | inl o ↦ let a = (t.tiles j w.head w.there).apart g h o at in absurd (omega arith)
              | inr o ↦
                  let same_place : j ≡ g = omega arith in
                  let same_one : w.head ≡ h = same_head w.head h (sym w.there ∙ ap (head_at v) same_place ∙ at) in
                  let units : w.head.units ≡ h.units = ap (λ (x : Head). x.units) same_one in
                  let end : g + h.units ≡ k = omega arith in
                  absurd (none_or_some (head_at v k) n (sym (ap (head_at v) end) ∙ none) there)
            ]
          ]

  -- two free chunks lie 4 granules apart
  gaps_apart : (g k : ℕ) (h n : Head) → head_at v g ≡ Some h → h.busy ≡ false → head_at v k ≡ Some n → n.busy ≡ false → g < k → g + 4 ≤ k
  gaps_apart g k h n at free there free_too l =
      let two = (t.tiles g h at).some in
      let far = (t.tiles g h at).apart k n l there in
      elim (none_or (head_at v (g + h.units))) [
        | inl none ↦ let b = behind_end g k h n at there l none in omega arith
        | inr w ↦ by_chunk w.0 w.1 two far
      ]
    where
      by_chunk : (m : Head) → head_at v (g + h.units) ≡ Some m → 2 ≤ h.units → g + h.units ≤ k → g + 4 ≤ k
      by_chunk m w two far =
          let busy : m.busy ≡ true = joined g h m at free w in
          elim (cases_lt (g + h.units) k) [
            | inl o ↦
                let more = (t.tiles (g + h.units) m w).some in
                let a = (t.tiles (g + h.units) m w).apart k n o there in
                omega arith
            | inr o ↦
                let end : g + h.units ≡ k = omega arith in
                let same_one : m ≡ n = same_head m n (sym w ∙ ap (head_at v) end ∙ there) in
                absurd (false≢true (sym free_too ∙ sym (ap (λ (x : Head). x.busy) same_one) ∙ busy))
          ]

-- In a heap that has segments the index has room for many gaps more.
pub spare_room : (v : Chunks) (found : GapIndex) → IsTiled v → AreJoined v → IsIndexOf v found → 0 < length v.heads → set.len found.gaps + 128 ≤ found.capacity
spare_room v found t joined index some =
    let whole = t.granules in
    let room = index.room in
    let counted = few 512 (found.capacity - 128) found.gaps
    (λ q r h j l. by q r (member q h) (member r j) l)
    (λ q h. let m = member q h in let a = (t.tiles q.1 m.head m.there).usable in omega arith)
    (λ q h. let m = member q h in let a = granule_within v q.1 m.head m.there in omega arith) in
    omega arith
  where
    member : (q : Gap) → set.contains found.gaps q ≡ true → IsGapHere v q.0 q.1
    member q h = gap_at_is v q.0 q.1 (sym (index.gaps q.0 q.1) ∙ h)

    by : (q r : Gap) → IsGapHere v q.0 q.1 → IsGapHere v r.0 r.1 → q.1 ≤ r.1 → (q ≡ r) ⊎ (q.1 + 4 ≤ r.1)
    by q r a b l = elim (cases_lt q.1 r.1) [
      | inl m ↦ inr (gaps_apart v t joined q.1 r.1 a.head b.head a.there a.free b.there b.free m)
      | inr m ↦
          let same_place : q.1 ≡ r.1 = omega arith in
          let same_one : a.head ≡ b.head = same_head a.head b.head (sym a.there ∙ ap (head_at v) same_place ∙ b.there) in
          let units : q.0 ≡ r.0 = sym a.units ∙ ap (λ (x : Head). x.units) same_one ∙ b.units in
          inl (λ i. (units i, same_place i))
    ]
