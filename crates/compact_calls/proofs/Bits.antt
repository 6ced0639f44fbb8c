-- A subsegment of a sound heap has a block exactly where a bit of it is set.
use Rattle.std.proofs.Common.{◌≡◌, ◌≢◌, ℕ, zero, suc, ◌+◌, ◌*◌, ◌/◌, ◌%◌, ◌^◌, ◌<◌, ◌≤◌, ◌==◌, Bool, true, false, refl, sym, ap, ◌∙◌, subst, arith, inl, inr, leb, ltb, zero-add}
use Rattle.std.proofs.lemmas.Bool.{cases_Bool, and_parts, and_from, eq-eqb, eqb-true, lt-ltb, ltb-true, leb-true, le-leb}
use Rattle.heap_model.specs.declared.Kind.TheVariants as kinds
use Rattle.heap_model.specs.Buckets.{block_address, block_count, block_size, bucket_pages}
use Rattle.heap_model.specs.State.{Setting, Span, Place}
use Rattle.heap_model.specs.Bits.{word_of, bits_of, is_taken, starts_at, has_bit}
use Rattle.heap_model.specs.CallState.{Configuration}
use Rattle.heap_model.specs.Legal.{lies_in, has_place}
use Rattle.heap_soundness.specs.Sound.{IsOneOf, IsInLfh}
use Rattle.heap_soundness.specs.Invariant.{Keeps}
use Rattle.heap_soundness.proofs.Lists.{all_at, all_from, any_in, any_found, none_from}
use Rattle.heap_soundness.proofs.Spans.{same_span}
use Rattle.heap_soundness.proofs.MadeSpans.{lfh_span}
use Rattle.heap_soundness.proofs.Whole.{LiesInSpan, in_lfh}
use Rattle.search_laws.proofs.Bits.{bit_of}
use Rattle.lfh_buckets.specs.Blocks.{IsBucket}
use Rattle.lfh_buckets.proofs.BlockLemmas.{few_blocks, size_in_granules}
use Rattle.lfh_buckets.proofs.Seats.{block_end}

---- Words

-- a word that is not 0 has a bit
some_bit : (test : ℕ → Bool) (at n : ℕ) → word_of test at n ≢ 0 → (i : ℕ) × (at ≤ i) × (i < at + n) × (test i ≡ true)
some_bit test at zero h = absurd (h refl)
some_bit test at (suc n) h = elim (cases_Bool (test at)) [
  | inl e ↦ (at, omega arith, omega arith, e)
  | inr e ↦
      let r = some_bit test (suc at) n (λ z. h (rw (e, zero-add) z)) in
      (r.0, (let l = r.1 in omega (arith, l)), (let l = r.2 in omega (arith, l)), r.3)
]

-- .. and one that has a bit is not 0
bit_shows : (test : ℕ → Bool) (i : ℕ) → i < 64 → test i ≡ true → word_of test 0 64 ≡ 0 → ⊥
bit_shows test i l e z =
    let b : has_bit 0 i ≡ true = ap (λ (w : ℕ). has_bit w i) (sym z) ∙ (bit_of test 64 i l ∙ e) in
    let q : 0 / 2 ^ i % 2 ≡ 1 = eqb-true (0 / 2 ^ i % 2) 1 b in
    let none : 0 / 2 ^ i ≡ 0 = zero_part (2 ^ i) in
    omega (arith, q, none)
  where
    zero_part : (n : ℕ) → 0 / n ≡ 0
    zero_part n = omega arith

---- One subsegment

module _ (us : Setting) (m : Configuration) (k : Keeps us m) (x : Span) (there : IsOneOf x m.state.back.area.spans) (kind : x.kind ≡ kinds.Lfh) where
  bucket : IsBucket x.bucket
  bucket = let b = (lfh_span us m.state x k.of_kinds there kind).bucket in record { first = b.0; last = b.1 }

  pages : x.pages ≡ bucket_pages x.bucket
  pages = (lfh_span us m.state x k.of_kinds there kind).pages

  -- the places that lie in the pages are its blocks
  lies : (p : Place) → 4096 * x.first ≤ p.start → p.start < 4096 * (x.first + x.pages) → IsOneOf p m.state.lfh → LiesInSpan m.state.back.area.spans kinds.Lfh p × ((y : Span) → IsOneOf y m.state.back.area.spans → 4096 * y.first ≤ p.start → p.start < 4096 * (y.first + y.pages) → y ≡ x)
  lies p low high i = (
    all_at (LiesInSpan m.state.back.area.spans kinds.Lfh) p m.state.lfh (in_lfh us m k) i,
    λ y iy ly hy. same_span 0 m.state.back.area.spans y x (p.start / 4096) k.heap.spans.in_order iy there (omega (arith, ly)) (omega (arith, hy)) (omega (arith, low)) (omega (arith, high)),
  )

  in_all : (p : Place) → IsOneOf p m.state.lfh → IsInLfh m.state.back.area.spans p.start p.granules
  in_all p i = all_at (λ (q : Place). IsInLfh m.state.back.area.spans q.start q.granules) p m.state.lfh k.heap.lfh.places i

  -- a place of the front end has bytes
  some : (p : Place) → IsOneOf p m.state.lfh → 0 < p.granules
  some p i =
      let h = in_all p i in
      let b = (lfh_span us m.state h.span k.of_kinds h.there h.kind).bucket in
      let g = size_in_granules h.span.bucket (record { first = b.0; last = b.1 }) in
      let e = h.size in let f = g.1 in omega (arith, e, f)

  -- a set bit is a block
  pub bit_has : (w : ℕ) → bits_of m.state.lfh x w ≢ 0 → has_place 4096 m.state.lfh x ≡ true
  bit_has w ne =
      let r = some_bit (λ i. is_taken m.state.lfh x (64 * w + i)) 0 64 ne in
      let j = 64 * w + r.0 in
      let t = and_parts (ltb j (block_count x.bucket)) (starts_at m.state.lfh (block_address x.bucket x.first j)) r.3 in
      let below = ltb-true j (block_count x.bucket) t.0 in
      let f = any_found (λ (p : Place). p.start == block_address x.bucket x.first j) m.state.lfh t.1 in
      let p = f.0 in
      let at = eqb-true p.start (block_address x.bucket x.first j) f.2 in
      let end = block_end x.bucket x.first j below in
      let size = (size_in_granules x.bucket bucket).1 in
      let low : 4096 * x.first ≤ p.start = begins x.first (block_size x.bucket) j p.start at in
      let high : p.start < 4096 * (x.first + x.pages) = omega (arith, at, end, size, pages) in
      let l = lies p low high f.1 in
      let same = l.1 l.0.span l.0.there l.0.low (let h = l.0.high in let g = some p f.1 in omega (arith, h, g)) in
      let lo : 4096 * x.first ≤ p.start = low in
      let hi : p.start + 16 * p.granules ≤ 4096 * (x.first + x.pages) = subst (λ (y : Span). p.start + 16 * p.granules ≤ 4096 * (y.first + y.pages)) same l.0.high in
      any_in (lies_in 4096 x) m.state.lfh p f.1 (and_from (leb (4096 * x.first) p.start) (leb (p.start + 16 * p.granules) (4096 * (x.first + x.pages))) (le-leb (4096 * x.first) p.start lo) (le-leb (p.start + 16 * p.granules) (4096 * (x.first + x.pages)) hi))
    where
      begins : (first s n a : ℕ) → a ≡ 4096 * first + 64 + n * s → 4096 * first ≤ a
      begins first s n a e = omega (arith, e)

  -- .. and where none is set there is none
  pub no_bit : ((w : ℕ) → w < 4 → bits_of m.state.lfh x w ≡ 0) → has_place 4096 m.state.lfh x ≡ false
  no_bit none = none_from (lies_in 4096 x) m.state.lfh (all_from (λ (p : Place). lies_in 4096 x p ≡ false) m.state.lfh out)
    where
      out : (p : Place) → IsOneOf p m.state.lfh → lies_in 4096 x p ≡ false
      out p i = elim (cases_Bool (lies_in 4096 x p)) [
        | inr e ↦ e
        | inl e ↦
            let b = and_parts (leb (4096 * x.first) p.start) (leb (p.start + 16 * p.granules) (4096 * (x.first + x.pages))) e in
            let low = leb-true (4096 * x.first) p.start b.0 in
            let high = leb-true (p.start + 16 * p.granules) (4096 * (x.first + x.pages)) b.1 in
            let g = some p i in
            let home = in_all p i in
            let l = lies p low (omega (arith, high, g)) i in
            let at = all_at (LiesInSpan m.state.back.area.spans kinds.Lfh) p m.state.lfh (in_lfh us m k) i in
            let e1 = block_end home.span.bucket home.span.first home.index home.below in
            let pg = (lfh_span us m.state home.span k.of_kinds home.there home.kind).pages in
            let blk = home.block in
            let sz = home.size in
            let lo : 4096 * home.span.first ≤ p.start = begins home.span.first (block_size home.span.bucket) home.index p.start blk in
            let hi : p.start < 4096 * (home.span.first + home.span.pages) = omega (arith, blk, e1, sz, g, pg) in
            let same : home.span ≡ x = l.1 home.span home.there lo hi in
            let index = home.index in
            let below : index < block_count x.bucket = subst (λ (y : Span). index < block_count y.bucket) same home.below in
            let start : p.start ≡ block_address x.bucket x.first index = subst (λ (y : Span). p.start ≡ block_address y.bucket y.first index) same blk in
            let few = (few_blocks x.bucket bucket).1 in
            let w = index / 64 in
            let j = index % 64 in
            let is : 64 * w + j ≡ index = omega arith in
            let begun : starts_at m.state.lfh (block_address x.bucket x.first index) ≡ true = any_in (λ (q : Place). q.start == block_address x.bucket x.first index) m.state.lfh p i (eq-eqb p.start (block_address x.bucket x.first index) start) in
            let taken : is_taken m.state.lfh x index ≡ true = and_from (ltb index (block_count x.bucket)) (starts_at m.state.lfh (block_address x.bucket x.first index)) (lt-ltb index (block_count x.bucket) below) begun in
            absurd (bit_shows (λ n. is_taken m.state.lfh x (64 * w + n)) j (omega arith) (ap (is_taken m.state.lfh x) is ∙ taken) (none w (omega (arith, below, few))))
      ]
        where
          begins : (first s n a : ℕ) → a ≡ 4096 * first + 64 + n * s → 4096 * first ≤ a
          begins first s n a e = omega (arith, e)
