-- The words of a block of the front end: its bit, the other bits, and its size word.
use Rattle.std.proofs.Common.{◌≡◌, ℕ, ◌+◌, ◌*◌, ◌/◌, ◌%◌, ◌<◌, ◌≤◌, Bool, true, false, ◌&&◌, List, [], ◌∷◌, Option, Some, None, inl, inr, refl, sym, ap, subst, ◌∙◌, arith, ltb}
use Rattle.std.specs.Prelude.{option_map, unwrap_or, filter}
use Rattle.std.specs.List.{find}
use Rattle.std.proofs.lemmas.Bool.{cases_lt, cases_Bool, eq-eqb, eqb-true, le-ltb, lt-ltb}
use Rattle.heap_model.specs.declared.Kind.TheVariants as kinds
use Rattle.heap_model.specs.declared.Limits.{Limits}
use Rattle.heap_model.specs.Buckets.{block_size, block_address, block_count}
use Rattle.heap_model.specs.Bits.{starts_at, is_taken, bits_of, has_bit}
use Rattle.heap_model.specs.Search.{begins_at}
use Rattle.heap_model.specs.Ranges.{is_of_kind}
use Rattle.heap_model.specs.State.{Area, Span, Place, is_kind}
use Rattle.heap_soundness.specs.Sound.{IsOneOf}
use Rattle.heap_soundness.proofs.Lists.{found_in, found_passes, find_some}
use Rattle.heap_soundness.proofs.Spans.{same_span}
use Rattle.heap_soundness.proofs.Enums.{kind_is}
use Rattle.search_laws.proofs.Bits.{bit_of}
use Rattle.claim_rule.specs.Shown.{lfh_spans, bitmap_word}
use Rattle.lfh_buckets.specs.Blocks.{IsBucket}
use Rattle.lfh_buckets.proofs.BlockLemmas.{few_blocks}
use Rattle.lfh_buckets.proofs.Seats.{IsSeat, block_seat, same_number}
use Rattle.step_parts.proofs.FrontEnd.{IsFront, some_pages}
use Rattle.step_parts.proofs.BitmapWords.{with_bit, cleared, same_word_of, word_with, word_cleared}

-- subsegments are spans of the kind, and the other way round
pub in_lfh : (xs : List Span) (x : Span) → IsOneOf x (filter (is_of_kind kinds.Lfh) xs) → IsOneOf x xs × (x.kind ≡ kinds.Lfh)
in_lfh [] x i = absurd i
in_lfh (y ∷ ys) x i = elim (cases_Bool (is_kind y.kind kinds.Lfh)) [
  | inl e ↦ by_head e (rw e at i) (in_lfh ys x)
  | inr e ↦ let r = in_lfh ys x (rw e at i) in (inr r.0, r.1)
]
  where
    by_head : is_kind y.kind kinds.Lfh ≡ true → IsOneOf x (y ∷ filter (is_of_kind kinds.Lfh) ys) → (IsOneOf x (filter (is_of_kind kinds.Lfh) ys) → IsOneOf x ys × (x.kind ≡ kinds.Lfh)) → IsOneOf x (y ∷ ys) × (x.kind ≡ kinds.Lfh)
    by_head e (inl f) more = (inl f, subst (λ (z : Span). z.kind ≡ kinds.Lfh) f (kind_is y.kind kinds.Lfh e))
    by_head e (inr j) more = let r = more j in (inr r.0, r.1)

pub into_lfh : (xs : List Span) (x : Span) → IsOneOf x xs → x.kind ≡ kinds.Lfh → IsOneOf x (filter (is_of_kind kinds.Lfh) xs)
into_lfh [] x i k = absurd i
into_lfh (y ∷ ys) x (inl f) k = let e : is_kind y.kind kinds.Lfh ≡ true = subst (λ (z : Span). is_kind z.kind kinds.Lfh ≡ true) (sym f) (ap (λ z. is_kind z kinds.Lfh) k) in rw e (inl f)
into_lfh (y ∷ ys) x (inr i) k = elim (cases_Bool (is_kind y.kind kinds.Lfh)) [
  | inl e ↦ rw e (inr (into_lfh ys x i k))
  | inr e ↦ rw e (into_lfh ys x i k)
]

module _ (l : Limits) (a : Area) (ps : List Place) (f : IsFront l a ps) where
  -- the bucket of a subsegment is one
  pub bucket_of_span : (x : Span) → IsOneOf x a.spans → x.kind ≡ kinds.Lfh → IsBucket x.bucket
  bucket_of_span x i k = let b = (f.spans x i k).bucket in record { first = b.0; last = b.1 }

  -- where block i of a subsegment lies
  pub seat_at : (x : Span) (i : ℕ) → IsOneOf x a.spans → x.kind ≡ kinds.Lfh → i < block_count x.bucket → IsSeat l x.first x.pages (block_size x.bucket) (block_address x.bucket x.first i)
  seat_at x i j k below = let s = f.spans x j k in block_seat l x.bucket x.first x.pages i (bucket_of_span x j k) s.pages s.there below

  -- two blocks that begin at one address are one
  pub one_span : (x y : Span) (i j : ℕ) → IsOneOf x a.spans → x.kind ≡ kinds.Lfh → IsOneOf y a.spans → y.kind ≡ kinds.Lfh
      → i < block_count x.bucket → j < block_count y.bucket → block_address x.bucket x.first i ≡ block_address y.bucket y.first j → (x ≡ y) × (i ≡ j)
  one_span x y i j ix kx iy ky li lj e =
      let p = seat_at x i ix kx li in
      let q = seat_at y j iy ky lj in
      let page : block_address x.bucket x.first i / 4096 ≡ block_address y.bucket y.first j / 4096 = ap (λ (n : ℕ). n / 4096) e in
      let same = same_span 0 a.spans x y (block_address x.bucket x.first i / 4096) f.order ix iy p.from p.before
      (subst (λ (n : ℕ). y.first ≤ n) (sym page) q.from) (subst (λ (n : ℕ). n < y.first + y.pages) (sym page) q.before) in
      (same, same_number x.bucket x.first i j (bucket_of_span x ix kx) (e ∙ ap (λ (z : Span). block_address z.bucket z.first j) (sym same)))

  -- a subsegment is found by its first page
  pub span_found : (x : Span) → IsOneOf x a.spans → x.kind ≡ kinds.Lfh → find (begins_at x.first) (lfh_spans a) ≡ Some x
  span_found x i k =
      let r = find_some (begins_at x.first) (lfh_spans a) x (into_lfh a.spans x i k) (eq-eqb x.first x.first refl) in
      let j = in_lfh a.spans r.0 (found_in (begins_at x.first) (lfh_spans a) r.0 r.1) in
      let e = eqb-true r.0.first x.first (found_passes (begins_at x.first) (lfh_spans a) r.0 r.1) in
      let p = some_pages 0 a.spans x f.order i in
      let q = some_pages 0 a.spans r.0 f.order j.0 in
      r.1 ∙ ap Some (same_span 0 a.spans r.0 x x.first f.order j.0 i (omega arith) (omega arith) (omega arith) (omega arith))

  -- A list of places that has the same first bytes, but for that of block i of x.
  module _ (x : Span) (there : IsOneOf x a.spans) (is : x.kind ≡ kinds.Lfh) (i : ℕ) (below : i < block_count x.bucket) (qs : List Place)
      (kept : (b : ℕ) → (b ≡ block_address x.bucket x.first i → ⊥) → starts_at ps b ≡ starts_at qs b) where
    -- four words have all bits
    pub few : i / 64 < 4
    few = let n = (few_blocks x.bucket (bucket_of_span x there is)).1 in omega (arith, below, n)

    -- its first page is of a segment
    pub head_below : x.first < 256 * l.segments
    head_below = let s = seat_at x i there is below in let p = s.from in let q = s.page in omega arith

    -- the block begins at a granule
    pub granule : 16 * (block_address x.bucket x.first i / 16) ≡ block_address x.bucket x.first i
    granule = let p = (seat_at x i there is below).aligned in omega arith

    taken_kept : (y : Span) (m : ℕ) → IsOneOf y a.spans → y.kind ≡ kinds.Lfh → (y ≡ x → m ≡ i → ⊥) → is_taken ps y m ≡ is_taken qs y m
    taken_kept y m j k other = elim (cases_lt m (block_count y.bucket)) [
      | inl lt ↦ ap (λ (c : Bool). ltb m (block_count y.bucket) && c) (kept (block_address y.bucket y.first m) (λ e.
          let one = one_span y x m i j k there is lt below e in
          other one.0 one.1))
      | inr le ↦ rw (le-ltb m (block_count y.bucket) le) refl
    ]

    whole : 64 * (i / 64) + i % 64 ≡ i
    whole = omega arith

    -- the other words of bitmaps stay
    pub words_kept : (page w : ℕ) → w < 4 → (4 * page + w ≡ 4 * x.first + i / 64 → ⊥) → bitmap_word ps (lfh_spans a) page w ≡ bitmap_word qs (lfh_spans a) page w
    words_kept page w lt other = ap (λ o. unwrap_or o 0) (by_span (find (begins_at page) (lfh_spans a)) refl)
      where
        by_span : (o : Option Span) → find (begins_at page) (lfh_spans a) ≡ o → option_map (λ y. bits_of ps y w) o ≡ option_map (λ y. bits_of qs y w) o
        by_span None e = refl
        by_span (Some y) e =
            let j = in_lfh a.spans y (found_in (begins_at page) (lfh_spans a) y e) in
            ap Some (same_word_of (λ n. is_taken ps y (64 * w + n)) (λ n. is_taken qs y (64 * w + n)) 0 64
            (λ n m k. taken_kept y (64 * w + n) j.0 j.1 (λ same number.
            let at_page : y.first ≡ page = eqb-true y.first page (found_passes (begins_at page) (lfh_spans a) y e) in
            let at : page ≡ x.first = sym at_page ∙ ap (λ (z : Span). z.first) same in
            other (omega (arith, number, at, k)))))

    -- the word of the block's bitmap
    pub word_here : (rs : List Place) → bitmap_word rs (lfh_spans a) x.first (i / 64) ≡ bits_of rs x (i / 64)
    word_here rs = ap (λ o. unwrap_or (option_map (λ y. bits_of rs y (i / 64)) o) 0) (span_found x there is)

    -- the word where the block has come
    pub set_word : starts_at qs (block_address x.bucket x.first i) ≡ true → with_bit (bits_of ps x (i / 64)) (i % 64) ≡ bits_of qs x (i / 64)
    set_word t =
        word_with (λ n. is_taken ps x (64 * (i / 64) + n)) (λ n. is_taken qs x (64 * (i / 64) + n)) (i % 64) (omega arith)
        (ap (is_taken qs x) whole ∙ (rw (lt-ltb i (block_count x.bucket) below, t) refl))
        (λ j lt n. taken_kept x (64 * (i / 64) + j) there is (λ e g. n (omega (arith, g))))

    -- the word where the block has gone
    pub cleared_word : starts_at qs (block_address x.bucket x.first i) ≡ false → cleared (bits_of ps x (i / 64)) (i % 64) ≡ bits_of qs x (i / 64)
    cleared_word t =
        word_cleared (λ n. is_taken ps x (64 * (i / 64) + n)) (λ n. is_taken qs x (64 * (i / 64) + n)) (i % 64) (omega arith)
        (ap (is_taken qs x) whole ∙ (rw (lt-ltb i (block_count x.bucket) below, t) refl))
        (λ j lt n. taken_kept x (64 * (i / 64) + j) there is (λ e g. n (omega (arith, g))))

    -- the bit tells whether a place begins there
    pub bit_here : has_bit (bits_of ps x (i / 64)) (i % 64) ≡ starts_at ps (block_address x.bucket x.first i)
    bit_here = bit_of (λ n. is_taken ps x (64 * (i / 64) + n)) 64 (i % 64) (omega arith) ∙ (ap (is_taken ps x) whole ∙ (rw (lt-ltb i (block_count x.bucket) below) refl))

    -- where the words of the bitmaps are counted on
    pub at_page : (4 * x.first + i / 64) / 4 ≡ x.first
    at_page = omega (arith, few)

    pub at_word : (4 * x.first + i / 64) % 4 ≡ i / 64
    at_word = omega (arith, few)

    pub word_at : (rs : List Place) → bitmap_word rs (lfh_spans a) ((4 * x.first + i / 64) / 4) ((4 * x.first + i / 64) % 4) ≡ bits_of rs x (i / 64)
    word_at rs = ap (λ (n : ℕ). bitmap_word rs (lfh_spans a) n ((4 * x.first + i / 64) % 4)) at_page ∙ (ap (bitmap_word rs (lfh_spans a) x.first) at_word ∙ word_here rs)

    -- the word is one of the region
    pub at_below : 4 * x.first + i / 64 < 1024 * l.segments
    at_below = omega (arith, head_below, few)
