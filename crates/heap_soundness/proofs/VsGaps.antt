-- VS places and the granules that they leave clear.
use Rattle.std.proofs.Common.{◌≡◌, ℕ, zero, suc, ◌+◌, ◌*◌, ◌/◌, ◌%◌, ◌<◌, ◌≤◌, Bool, true, false, not, List, [], ◌∷◌, refl, sym, ap, subst, arith, leb, ltb, inl, inr, ◌⊎◌}
use Rattle.std.specs.List.{list_any, AllByRecursion}
use Rattle.std.proofs.lemmas.Bool.{cases_Bool, cases_lt, and_parts, and_from, or_parts, or_from, not-true, both_ways, ltb-true, lt-ltb, leb-true, le-leb, false_from_ne_true}
use Rattle.heap_model.specs.declared.Kind.TheVariants as kinds
use Rattle.heap_model.specs.State.{Span, Place}
use Rattle.heap_model.specs.Ranges.{in_place, is_clear}
use Rattle.heap_soundness.specs.Sound.{IsOneOf, AreInOrder, AreApart, AreAt, IsInVs}
use Rattle.heap_soundness.specs.Invariant.{IsBeside, IsVsSound}
use Rattle.heap_soundness.proofs.Lists.{all_weaker}
use Rattle.heap_soundness.proofs.Spans.{same_span}

---- Granules of a place

pub in_at : (g : ℕ) (p : Place) → in_place g p ≡ true → (p.start / 16 ≤ g) × (g < p.start / 16 + p.granules)
in_at g p h = let q = and_parts (leb (p.start / 16) g) (ltb g (p.start / 16 + p.granules)) h in (leb-true _ _ q.0, ltb-true _ _ q.1)

pub in_from : (g : ℕ) (p : Place) → p.start / 16 ≤ g → g < p.start / 16 + p.granules → in_place g p ≡ true
in_from g p l h = and_from (leb (p.start / 16) g) (ltb g (p.start / 16 + p.granules)) (le-leb _ _ l) (lt-ltb _ _ h)

pub clear_parts : (g : ℕ) (p : Place) (ps : List Place) → is_clear (p ∷ ps) g ≡ true → (in_place g p ≡ false) × (is_clear ps g ≡ true)
clear_parts g p ps h = let q = or_parts (in_place g p) (list_any (in_place g) ps) (not-true _ h) in (q.0, ap not q.1)

pub clear_from : (g : ℕ) (p : Place) (ps : List Place) → in_place g p ≡ false → is_clear ps g ≡ true → is_clear (p ∷ ps) g ≡ true
clear_from g p ps h k = ap not (or_from (in_place g p) (list_any (in_place g) ps) h (not-true _ k))

abbrev pub StartsAligned : Place → Type 0
StartsAligned p = p.start ≡ 16 * (p.start / 16)

pub aligned_of : (start : ℕ) → start % 16 ≡ 0 → start ≡ 16 * (start / 16)
aligned_of start h = omega arith

-- where no granule of p is in q they are apart
pub apart_if_clear : (p q : Place) → StartsAligned p → StartsAligned q → 0 < p.granules → 0 < q.granules → ((g : ℕ) → p.start / 16 ≤ g → g < p.start / 16 + p.granules → in_place g q ≡ false) → AreApart p q
apart_if_clear p q a b m n h = elim (cases_lt q.start (p.start + 16 * p.granules)) [
  | inr l ↦ inl l
  | inl l ↦ elim (cases_lt p.start (q.start + 16 * q.granules)) [
    | inr k ↦ inr k
    | inl k ↦ elim (cases_lt (q.start / 16) (p.start / 16)) [
      | inl e ↦ absurd (both_ways _ (h (p.start / 16) (omega arith) (omega (arith, m))) (in_from (p.start / 16) q (omega arith) (omega (arith, a, b))))
      | inr e ↦ absurd (both_ways _ (h (q.start / 16) e (omega (arith, a, b))) (in_from (q.start / 16) q (omega arith) (omega (arith, n))))
    ]
  ]
]

pub clear_if_apart : (p q : Place) (g : ℕ) → StartsAligned p → StartsAligned q → AreApart p q → in_place g p ≡ true → in_place g q ≡ false
clear_if_apart p q g a b h i = false_from_ne_true (in_place g q) (λ j. no h (in_at g p i) (in_at g q j))
  where
    no : AreApart p q → (p.start / 16 ≤ g) × (g < p.start / 16 + p.granules) → (q.start / 16 ≤ g) × (g < q.start / 16 + q.granules) → ⊥
    no (inl l) u v = omega (arith, a, b, u.0, u.1, v.0, v.1)
    no (inr l) u v = omega (arith, a, b, u.0, u.1, v.0, v.1)

-- where no granule of p is in the others it is apart from them
pub all_apart : (xs : List Span) (p : Place) (os : List Place) → StartsAligned p → 0 < p.granules → AreAt (IsInVs xs) os → ((g : ℕ) → p.start / 16 ≤ g → g < p.start / 16 + p.granules → is_clear os g ≡ true) → AllByRecursion (AreApart p) os
all_apart xs p [] a m b h = tt
all_apart xs p (q ∷ qs) a m b h =
    let two = b.0.two in
    (apart_if_clear p q a (aligned_of q.start b.0.aligned) m (omega arith) (λ g l k. (clear_parts g q qs (h g l k)).0), all_apart xs p qs a m b.1 (λ g l k. (clear_parts g q qs (h g l k)).1))

-- a granule of p is in none of the places that are apart from it
pub others_clear : (p : Place) (os : List Place) (g : ℕ) → StartsAligned p → AllByRecursion StartsAligned os → AllByRecursion (AreApart p) os → in_place g p ≡ true → is_clear os g ≡ true
others_clear p [] g a b h i = refl
others_clear p (q ∷ qs) g a b h i = clear_from g q qs (clear_if_apart p q g a b.0 h.0 i) (others_clear p qs g a b.1 h.1 i)

pub all_clear : (xs : List Span) (p : Place) (os : List Place) (g : ℕ) → StartsAligned p → AreAt (IsInVs xs) os → AllByRecursion (AreApart p) os → in_place g p ≡ true → is_clear os g ≡ true
all_clear xs p os g a b h i = others_clear p os g a (all_weaker (λ q. IsInVs xs q.start q.granules) StartsAligned os (λ q j k. aligned_of q.start k.aligned) b) h i

-- two spans with a granule in both are one
pub same_vs : (xs : List Span) (x y : Span) (g : ℕ) → AreInOrder 0 xs → IsOneOf x xs → IsOneOf y xs → 256 * x.first ≤ g → g < 256 * (x.first + x.pages) → 256 * y.first ≤ g → g < 256 * (y.first + y.pages) → x ≡ y
same_vs xs x y g a i j l h k m = same_span 0 xs x y (g / 256) a i j (omega arith) (omega arith) (omega arith) (omega arith)

---- One place less

pub vs_dropped : (xs : List Span) (p : Place) (os : List Place) → AreInOrder 0 xs → IsVsSound xs (p ∷ os) → IsVsSound xs os
vs_dropped xs p os a h = record { places = h.places.1; disjoint = h.disjoint.1; clear = λ y i v k low high t. here y i v k low high t (cases_Bool (in_place k p)) }
  where
    home : IsInVs xs p.start p.granules
    home = h.places.0

    start : StartsAligned p
    start = aligned_of p.start home.aligned

    free : (g : ℕ) → in_place g p ≡ true → is_clear os g ≡ true
    free g i = all_clear xs p os g start h.places.1 h.disjoint.0 i

    -- a granule of p lies in its span
    in_span : (g : ℕ) → in_place g p ≡ true → (256 * home.span.first + 3 ≤ g) × (g < 256 * (home.span.first + home.span.pages))
    in_span g i = let q = in_at g p i in let b = home.behind in let e = home.before in let q0 = q.0 in let q1 = q.1 in (omega arith, omega (arith, start))

    here : (y : Span) → IsOneOf y xs → y.kind ≡ kinds.Vs → (k : ℕ) → 256 * y.first + 3 ≤ k → k < 256 * (y.first + y.pages) → is_clear os k ≡ true → (in_place k p ≡ true) ⊎ (in_place k p ≡ false) → IsBeside (is_clear os) (256 * y.first + 3) (256 * (y.first + y.pages)) k
    here y i v k low high t (inr n) = elim (h.clear y i v k low high (clear_from k p os n t)) [
      | inl q ↦ inl (q.0, (clear_parts (suc k) p os q.1).1)
      | inr q ↦ inr (q.0, q.1, q.2, (clear_parts q.0 p os q.3).1)
    ]
    here y i v k low high t (inl n) =
        let l = in_span k n in
        let l0 = l.0 in
        let l1 = l.1 in
        let same : home.span ≡ y = same_vs xs home.span y k a home.there i (omega arith) l1 (omega arith) high in
        beside y same k low (in_at k p n) (cases_lt (suc k) (p.start / 16 + p.granules))
      where
        beside : (y : Span) → home.span ≡ y → (k : ℕ) → 256 * y.first + 3 ≤ k → (p.start / 16 ≤ k) × (k < p.start / 16 + p.granules) → (suc k < p.start / 16 + p.granules) ⊎ (p.start / 16 + p.granules ≤ suc k) → IsBeside (is_clear os) (256 * y.first + 3) (256 * (y.first + y.pages)) k
        beside y same k low q (inl l) =
            let q0 = q.0 in
            let i = in_from (suc k) p (omega arith) l in
            inl (subst (λ (z : Span). suc k < 256 * (z.first + z.pages)) same (in_span (suc k) i).1, free (suc k) i)
        beside y same zero low q (inr l) = absurd (omega arith)
        beside y same (suc j) low q (inr l) =
            let q1 = q.1 in
            let two = home.two in
            let i = in_from j p (omega arith) (omega arith) in
            inr (j, refl, subst (λ (z : Span). 256 * z.first + 3 ≤ j) same (in_span j i).0, free j i)

---- One place more

-- what is clear right in front of a new place, and right behind it, is not clear alone
pub record LeavesNoneAlone (test : ℕ → Bool) (low high at n : ℕ) : Type 0 where
  pub before : (k : ℕ) → suc k ≡ at → low ≤ k → test k ≡ true → (j : ℕ) × (suc j ≡ k) × (low ≤ j) × (test j ≡ true)
  pub behind : at + n < high → test (at + n) ≡ true → (suc (at + n) < high) × (test (suc (at + n)) ≡ true)

pub vs_placed : (xs : List Span) (p : Place) (os : List Place) → AreInOrder 0 xs → (home : IsInVs xs p.start p.granules) → IsVsSound xs os →
    ((g : ℕ) → p.start / 16 ≤ g → g < p.start / 16 + p.granules → is_clear os g ≡ true) →
    LeavesNoneAlone (is_clear os) (256 * home.span.first + 3) (256 * (home.span.first + home.span.pages)) (p.start / 16) p.granules → IsVsSound xs (p ∷ os)
vs_placed xs p os a home h free leaves = record {
  places = (home, h.places);
  disjoint = (all_apart xs p os start some h.places free, h.disjoint);
  clear = λ y i v k low high t. let q = clear_parts k p os t in here y i k low high q.0 q.1 (h.clear y i v k low high q.1);
}
  where
    start : StartsAligned p
    start = aligned_of p.start home.aligned

    some : 0 < p.granules
    some = let two = home.two in omega arith

    in_span : (g : ℕ) → in_place g p ≡ true → (256 * home.span.first + 3 ≤ g) × (g < 256 * (home.span.first + home.span.pages))
    in_span g i = let q = in_at g p i in let b = home.behind in let e = home.before in let q0 = q.0 in let q1 = q.1 in (omega arith, omega (arith, start))

    outside : (k : ℕ) → in_place k p ≡ false → (k < p.start / 16) ⊎ (p.start / 16 + p.granules ≤ k)
    outside k n = elim (cases_lt k (p.start / 16)) [
      | inl l ↦ inl l
      | inr l ↦ elim (cases_lt k (p.start / 16 + p.granules)) [
        | inl q ↦ absurd (both_ways (in_place k p) n (in_from k p l q))
        | inr q ↦ inr q
      ]
    ]

    is_same : (y : Span) → IsOneOf y xs → (g : ℕ) → in_place g p ≡ true → 256 * y.first + 3 ≤ g → g < 256 * (y.first + y.pages) → home.span ≡ y
    is_same y i g n low high = let l = in_span g n in let l0 = l.0 in let l1 = l.1 in same_vs xs home.span y g a home.there i (omega arith) l1 (omega arith) high

    not_before : (k : ℕ) → k < p.start / 16 → in_place k p ≡ false
    not_before k l = false_from_ne_true (in_place k p) (λ m. let u = (in_at k p m).0 in omega arith)

    not_behind : (k : ℕ) → p.start / 16 + p.granules ≤ k → in_place k p ≡ false
    not_behind k l = false_from_ne_true (in_place k p) (λ m. let u = (in_at k p m).1 in omega arith)

    here : (y : Span) → IsOneOf y xs → (k : ℕ) → 256 * y.first + 3 ≤ k → k < 256 * (y.first + y.pages) → in_place k p ≡ false → is_clear os k ≡ true → IsBeside (is_clear os) (256 * y.first + 3) (256 * (y.first + y.pages)) k → IsBeside (is_clear (p ∷ os)) (256 * y.first + 3) (256 * (y.first + y.pages)) k
    here y i k low high n t (inl q) = elim (cases_Bool (in_place (suc k) p)) [
      | inr f ↦ inl (q.0, clear_from (suc k) p os f q.1)
      | inl f ↦ in_front f (outside k n) (in_at (suc k) p f)
    ]
      where
        one_more : (j : ℕ) → suc j ≡ k → suc k ≡ p.start / 16 → 256 * home.span.first + 3 ≤ j → is_clear os j ≡ true → home.span ≡ y → IsBeside (is_clear (p ∷ os)) (256 * y.first + 3) (256 * (y.first + y.pages)) k
        one_more j e f lo c same = inr (j, e, subst (λ (z : Span). 256 * z.first + 3 ≤ j) same lo, clear_from j p os (not_before j (omega arith)) c)

        in_front : in_place (suc k) p ≡ true → (k < p.start / 16) ⊎ (p.start / 16 + p.granules ≤ k) → (p.start / 16 ≤ suc k) × (suc k < p.start / 16 + p.granules) → IsBeside (is_clear (p ∷ os)) (256 * y.first + 3) (256 * (y.first + y.pages)) k
        in_front f (inr l) r = absurd (omega (arith, r.1))
        in_front f (inl l) r =
            let same = is_same y i (suc k) f (omega arith) q.0 in
            let r0 = r.0 in
            let at : suc k ≡ p.start / 16 = omega arith in
            let w = leaves.before k at (subst (λ (z : Span). 256 * z.first + 3 ≤ k) (sym same) low) t in
            one_more w.0 w.1 at w.2 w.3 same
    here y i zero low high n t (inr q) = absurd (omega arith)
    here y i (suc k) low high n t (inr q) = elim (cases_Bool (in_place q.0 p)) [
      | inr f ↦ inr (q.0, q.1, q.2, clear_from q.0 p os f q.3)
      | inl f ↦ in_back q.0 q.1 q.2 f (outside (suc k) n) (in_at q.0 p f)
    ]
      where
        in_back : (j : ℕ) → suc j ≡ suc k → 256 * y.first + 3 ≤ j → in_place j p ≡ true → (suc k < p.start / 16) ⊎ (p.start / 16 + p.granules ≤ suc k) → (p.start / 16 ≤ j) × (j < p.start / 16 + p.granules) → IsBeside (is_clear (p ∷ os)) (256 * y.first + 3) (256 * (y.first + y.pages)) (suc k)
        in_back j e lo f (inl l) r = absurd (omega (arith, r.0))
        in_back j e lo f (inr l) r =
            let same = is_same y i j f lo (omega arith) in
            let r1 = r.1 in
            let at : p.start / 16 + p.granules ≡ suc k = omega arith in
            let w = leaves.behind (subst (λ (n : ℕ). n < 256 * (home.span.first + home.span.pages)) (sym at) (subst (λ (z : Span). suc k < 256 * (z.first + z.pages)) (sym same) high)) (subst (λ (n : ℕ). is_clear os n ≡ true) (sym at) t) in
            behind at same w.0 w.1
          where
            behind : p.start / 16 + p.granules ≡ suc k → home.span ≡ y → suc (p.start / 16 + p.granules) < 256 * (home.span.first + home.span.pages) → is_clear os (suc (p.start / 16 + p.granules)) ≡ true → IsBeside (is_clear (p ∷ os)) (256 * y.first + 3) (256 * (y.first + y.pages)) (suc k)
            behind at same l c = inl (
              subst (λ (n : ℕ). suc n < 256 * (y.first + y.pages)) at (subst (λ (z : Span). suc (p.start / 16 + p.granules) < 256 * (z.first + z.pages)) same l),
              clear_from (suc (suc k)) p os (not_behind (suc (suc k)) (omega arith)) (subst (λ (n : ℕ). is_clear os (suc n) ≡ true) at c),
            )
