-- The places of each layer, as one is made, changed or dropped.
use Rattle.std.proofs.Common.{◌≡◌, ℕ, zero, suc, ◌+◌, ◌-◌, ◌*◌, ◌/◌, ◌<◌, ◌≤◌, Bool, true, false, not, List, [], ◌∷◌, Some, sym, ap, ◌∙◌, subst, arith, eqb, mul-le-mul_right, div-mul-le_self, inl, inr, ◌⊎◌}
use Rattle.std.specs.List.{find, list_any, AllByRecursion}
use Rattle.std.proofs.lemmas.Bool.{cases_lt, both_ways, eq-eqb, or_parts}
use Rattle.heap_model.specs.declared.Kind.TheVariants as kinds
use Rattle.heap_model.specs.declared.Limits.{Limits}
use Rattle.heap_model.specs.Buckets.{bucket_pages, block_size, block_count, block_address}
use Rattle.heap_model.specs.State.{Span, Place, change_found, remove_found}
use Rattle.heap_model.specs.Bits.{starts_at}
use Rattle.heap_model.specs.Ranges.{in_place, is_clear, is_clear_page, large_start}
use Rattle.heap_soundness.specs.Sound.{IsOneOf, AreInOrder, AreApart, AreAt, IsInVs, IsInLfh, IsInBack, IsInLarge}
use Rattle.heap_soundness.specs.Invariant.{NonePassesAlone, IsVsSound, IsLayerSound}
use Rattle.heap_soundness.proofs.Lists.{all_front, all_back, any_front, any_back, disjoint_front, disjoint_back, all_weaker}
use Rattle.heap_soundness.proofs.Spans.{apart_spans}
use Rattle.heap_soundness.proofs.VsGaps.{in_from, clear_parts}

---- The place that is found, in front of the others

pub layer_front : (At : ℕ → ℕ → Type 0) (t : Place → Bool) (ps : List Place) (p : Place) → find t ps ≡ Some p → IsLayerSound At ps → IsLayerSound At (p ∷ remove_found t ps)
layer_front At t ps p f h = record { places = all_front (λ p. At p.start p.granules) t ps p f h.places; disjoint = disjoint_front t ps p f h.disjoint }

pub layer_back : (At : ℕ → ℕ → Type 0) (t : Place → Bool) (g : Place → Place) (ps : List Place) (p : Place) → find t ps ≡ Some p → IsLayerSound At (g p ∷ remove_found t ps) → IsLayerSound At (change_found t g ps)
layer_back At t g ps p f h = record { places = all_back (λ p. At p.start p.granules) t g ps p f h.places; disjoint = disjoint_back t g ps p f h.disjoint }

pub layer_dropped : (At : ℕ → ℕ → Type 0) (p : Place) (ps : List Place) → IsLayerSound At (p ∷ ps) → IsLayerSound At ps
layer_dropped At p ps h = record { places = h.places.1; disjoint = h.disjoint.1 }

pub layer_weaker : (At To : ℕ → ℕ → Type 0) (ps : List Place) → ((p : Place) → IsOneOf p ps → At p.start p.granules → To p.start p.granules) → IsLayerSound At ps → IsLayerSound To ps
layer_weaker At To ps f h = record { places = all_weaker (λ p. At p.start p.granules) (λ p. To p.start p.granules) ps f h.places; disjoint = h.disjoint }

pub same_clear : (ps qs : List Place) → ((u : Place → Bool) → list_any u ps ≡ list_any u qs) → (g : ℕ) → is_clear ps g ≡ is_clear qs g
same_clear ps qs h g = ap not (h (in_place g))

pub alone_same : (test rest : ℕ → Bool) (low high : ℕ) → ((k : ℕ) → test k ≡ rest k) → NonePassesAlone test low high → NonePassesAlone rest low high
alone_same test rest low high e h k l u t = elim (h k l u (e k ∙ t)) [
  | inl q ↦ inl (q.0, sym (e (suc k)) ∙ q.1)
  | inr q ↦ inr (q.0, q.1, q.2, sym (e q.0) ∙ q.3)
]

pub vs_front : (xs : List Span) (t : Place → Bool) (ps : List Place) (p : Place) → find t ps ≡ Some p → IsVsSound xs ps → IsVsSound xs (p ∷ remove_found t ps)
vs_front xs t ps p f h = record {
  places = all_front (λ p. IsInVs xs p.start p.granules) t ps p f h.places;
  disjoint = disjoint_front t ps p f h.disjoint;
  clear = λ x i k. alone_same (is_clear ps) (is_clear (p ∷ remove_found t ps)) (256 * x.first + 3) (256 * (x.first + x.pages)) (same_clear ps (p ∷ remove_found t ps) (λ u. any_front u t ps p f)) (h.clear x i k);
}

pub vs_back : (xs : List Span) (t : Place → Bool) (g : Place → Place) (ps : List Place) (p : Place) → find t ps ≡ Some p → IsVsSound xs (g p ∷ remove_found t ps) → IsVsSound xs (change_found t g ps)
vs_back xs t g ps p f h = record {
  places = all_back (λ p. IsInVs xs p.start p.granules) t g ps p f h.places;
  disjoint = disjoint_back t g ps p f h.disjoint;
  clear = λ x i k. alone_same (is_clear (g p ∷ remove_found t ps)) (is_clear (change_found t g ps)) (256 * x.first + 3) (256 * (x.first + x.pages)) (same_clear (g p ∷ remove_found t ps) (change_found t g ps) (λ u. sym (any_back u t g ps p f))) (h.clear x i k);
}

---- A block of LFH

pub count_fits : (n s i : ℕ) → i < n / s → i * s + s ≤ n
count_fits n s i l = let a : suc i * s ≤ n / s * s = mul-le-mul_right s (omega arith) in let b = div-mul-le_self n s in omega (arith, a, b)

steps : (i j s : ℕ) → i < j → i * s + s ≤ j * s
steps i j s l = let a : suc i * s ≤ j * s = mul-le-mul_right s (omega arith) in omega (arith, a)

pub block_end : (b first i : ℕ) → i < block_count b → block_address b first i + block_size b ≤ 4096 * (first + bucket_pages b)
block_end b first i l = end (block_size b) (bucket_pages b) l
  where
    end : (s pages : ℕ) → i < (4096 * pages - 64) / s → 4096 * first + 64 + i * s + s ≤ 4096 * (first + pages)
    end s zero l = absurd (omega (arith, div-mul-le_self (4096 * 0 - 64) s))
    end s (suc n) l = let a = count_fits (4096 * suc n - 64) s i l in omega (arith, a)

pub apart_blocks : (s first i j g h p q : ℕ) → (i ≡ j → ⊥) → p ≡ 4096 * first + 64 + i * s → q ≡ 4096 * first + 64 + j * s → 16 * g ≡ s → 16 * h ≡ s → (p + 16 * g ≤ q) ⊎ (q + 16 * h ≤ p)
apart_blocks s first i j g h p q ne a b c d = elim (cases_lt i j) [
  | inl l ↦ inl (let m = steps i j s l in omega arith)
  | inr l ↦ inr (let m = steps j i s (omega arith) in omega arith)
]

-- where each LFH span has the pages of its bucket
abbrev pub HaveBucketPages : List Span → Type 0
HaveBucketPages xs = (x : Span) → IsOneOf x xs → x.kind ≡ kinds.Lfh → x.pages ≡ bucket_pages x.bucket

pub lfh_end : (xs : List Span) (start granules : ℕ) → HaveBucketPages xs → (h : IsInLfh xs start granules) → (4096 * h.span.first + 64 ≤ start) × (start + 16 * granules ≤ 4096 * (h.span.first + h.span.pages))
lfh_end xs start granules w h =
    let e = block_end h.span.bucket h.span.first h.index h.below in
    let f = w h.span h.there h.kind in
    let b = h.block in
    let s = h.size in
    (low (h.index * block_size h.span.bucket) b, high (block_address h.span.bucket h.span.first h.index) (block_size h.span.bucket) (bucket_pages h.span.bucket) e f b s)
  where
    low : (n : ℕ) → start ≡ 4096 * h.span.first + 64 + n → 4096 * h.span.first + 64 ≤ start
    low n b = omega arith

    high : (a s n : ℕ) → a + s ≤ 4096 * (h.span.first + n) → h.span.pages ≡ n → start ≡ a → 16 * granules ≡ s → start + 16 * granules ≤ 4096 * (h.span.first + h.span.pages)
    high a s n e f b c = omega arith

pub lfh_placed : (xs : List Span) (p : Place) (ps : List Place) → AreInOrder 0 xs → HaveBucketPages xs → IsInLfh xs p.start p.granules → starts_at ps p.start ≡ false → IsLayerSound (IsInLfh xs) ps → IsLayerSound (IsInLfh xs) (p ∷ ps)
lfh_placed xs p ps a w home new h = record { places = (home, h.places); disjoint = (all ps h.places new, h.disjoint) }
  where
    apart : (q : Place) → IsInLfh xs q.start q.granules → eqb q.start p.start ≡ false → AreApart p q
    apart q at ne = elim (apart_spans 0 xs home.span at.span a home.there at.there) [
      | inl e ↦ one at.span e at.index at.block at.size
      | inr (inl l) ↦ let u = (lfh_end xs p.start p.granules w home).1 in let v = (lfh_end xs q.start q.granules w at).0 in inl (omega arith)
      | inr (inr l) ↦ let u = (lfh_end xs q.start q.granules w at).1 in let v = (lfh_end xs p.start p.granules w home).0 in inr (omega arith)
    ]
      where
        one : (y : Span) → home.span ≡ y → (j : ℕ) → q.start ≡ block_address y.bucket y.first j → 16 * q.granules ≡ block_size y.bucket → AreApart p q
        one y e j b c =
            let b1 : q.start ≡ block_address home.span.bucket home.span.first j = subst (λ (z : Span). q.start ≡ block_address z.bucket z.first j) (sym e) b in
            let c1 : 16 * q.granules ≡ block_size home.span.bucket = subst (λ (z : Span). 16 * q.granules ≡ block_size z.bucket) (sym e) c in
            apart_blocks (block_size home.span.bucket) home.span.first home.index j p.granules q.granules p.start q.start
            (λ f. both_ways _ ne (eq-eqb q.start p.start (b1 ∙ sym (home.block ∙ ap (block_address home.span.bucket home.span.first) f)))) home.block b1 home.size c1

    all : (qs : List Place) → AreAt (IsInLfh xs) qs → starts_at qs p.start ≡ false → AllByRecursion (AreApart p) qs
    all [] b n = tt
    all (q ∷ qs) b n = let r = or_parts (eqb q.start p.start) (starts_at qs p.start) n in (apart q b.0 r.0, all qs b.1 r.1)

---- A span of the back end

pub back_placed : (xs : List Span) (p : Place) (ps : List Place) → AreInOrder 0 xs → (home : IsInBack xs p.start p.granules) → AllByRecursion (λ q. q.start ≡ 4096 * home.span.first → ⊥) ps → IsLayerSound (IsInBack xs) ps → IsLayerSound (IsInBack xs) (p ∷ ps)
back_placed xs p ps a home new h = record { places = (home, h.places); disjoint = (all ps h.places new, h.disjoint) }
  where
    apart : (q : Place) → IsInBack xs q.start q.granules → (q.start ≡ 4096 * home.span.first → ⊥) → AreApart p q
    apart q at ne =
        let b = home.begins in
        let w = home.whole in
        let b' = at.begins in
        let w' = at.whole in
        elim (apart_spans 0 xs home.span at.span a home.there at.there) [
          | inl e ↦ absurd (ne (b' ∙ ap (λ (z : Span). 4096 * z.first) (sym e)))
          | inr (inl l) ↦ inl (omega arith)
          | inr (inr l) ↦ inr (omega arith)
        ]

    all : (qs : List Place) → AreAt (IsInBack xs) qs → AllByRecursion (λ q. q.start ≡ 4096 * home.span.first → ⊥) qs → AllByRecursion (AreApart p) qs
    all [] b n = tt
    all (q ∷ qs) b n = (apart q b.0 n.0, all qs b.1 n.1)

---- Pages of the large area

pub large_placed : (l : Limits) (p : Place) (ps : List Place) → (home : IsInLarge l p.start p.granules) → ((k : ℕ) → k < home.pages → is_clear_page l ps (home.page + k) ≡ true) → IsLayerSound (IsInLarge l) ps → IsLayerSound (IsInLarge l) (p ∷ ps)
large_placed l p ps home free h = record { places = (home, h.places); disjoint = (all ps h.places free, h.disjoint) }
  where
    -- a page of q has its first granule in it
    page_in : (q : Place) → (at : IsInLarge l q.start q.granules) → (k : ℕ) → at.page ≤ k → k < at.page + at.pages → in_place (large_start l + 256 * k) q ≡ true
    page_in q at k low high = let b = at.begins in let w = at.whole in in_from (large_start l + 256 * k) q (omega arith) (omega arith)

    apart : (q : Place) → IsInLarge l q.start q.granules → ((k : ℕ) → k < home.pages → in_place (large_start l + 256 * (home.page + k)) q ≡ false) → AreApart p q
    apart q at none =
        let b = home.begins in
        let w = home.whole in
        let m = home.enough in
        let b' = at.begins in
        let w' = at.whole in
        let m' = at.enough in
        elim (cases_lt at.page (home.page + home.pages)) [
          | inr k ↦ inl (omega arith)
          | inl k ↦ elim (cases_lt home.page (at.page + at.pages)) [
            | inr u ↦ inr (omega arith)
            | inl u ↦ elim (cases_lt at.page home.page) [
              | inl v ↦ absurd (both_ways _ (none 0 (omega arith)) (page_in q at (home.page + 0) (omega arith) (omega arith)))
              | inr v ↦ absurd (both_ways _ (none (at.page - home.page) (omega arith)) (page_in q at (home.page + (at.page - home.page)) (omega arith) (omega arith)))
            ]
          ]
        ]

    all : (qs : List Place) → AreAt (IsInLarge l) qs → ((k : ℕ) → k < home.pages → is_clear_page l qs (home.page + k) ≡ true) → AllByRecursion (AreApart p) qs
    all [] b n = tt
    all (q ∷ qs) b n = (apart q b.0 (λ k m. (clear_parts (large_start l + 256 * (home.page + k)) q qs (n k m)).0), all qs b.1 (λ k m. (clear_parts (large_start l + 256 * (home.page + k)) q qs (n k m)).1))
