-- A span that is added, with one gap.
use Rattle.std.proofs.Common.{◌≡◌, ℕ, ◌+◌, ◌-◌, ◌*◌, ◌<◌, ◌≤◌, ◌⊎◌, inl, inr, true, false, List, [], ◌∷◌, length, get_or, set, Option, Some, None, refl, sym, ap, subst, ◌∙◌, arith, ltb, eqb, not, ◌&&◌, true≢false}
use Rattle.std.specs.List.{AllByRecursion}
use Rattle.std.specs.FinSet as finset
use Rattle.std.proofs.lemmas.List.{length-set}
use Rattle.std.proofs.lemmas.Bool.{cases_Bool, cases_lt, cases_eq, ltb-true, ltb-false}
use Rattle.heap_model.specs.State.{Span, insert_span}
use Rattle.heap_model.specs.Stay.{for_some}
use Rattle.heap_soundness.specs.Sound.{AreInOrder}
use Rattle.heap_soundness.proofs.Lists.{all_at, all_weaker}
use Rattle.heap_soundness.proofs.Spans.{all_inserted, in_inserted, made_in}
use Rattle.vs_headers.specs.declared.Head.{Head}
use Rattle.vs_split.specs.Chunks.{Chunks, head_at, with_head, gap}
use Rattle.vs_split.specs.Tiles.{AreSpanPages, front_of, IsClear, IsTiled}
use Rattle.vs_split.specs.Laws.{IsRow}
use Rattle.vs_split.proofs.TileLemmas.{none_or_some, same_head}
use Rattle.vs_split.proofs.TiledLemmas.{at_put, as_long, tiled_open}
use Rattle.vs_split.proofs.RowLemmas.{opened_row}
use Rattle.vs_free_tree.specs.Gaps.{GapIndex}
use Rattle.vs_layer.specs.Kept.{VsKept, vs_span, places_from}
use Rattle.vs_layer.specs.Effects.{LieApart, IsSpanOfChunks}
use Rattle.vs_layer.specs.Steps.{with_gap}
use Rattle.vs_layer.specs.Sound.{AreUsablePages, IsOfSpan, is_gap_at, AreChunksSound, IsIndexOf, HasPlainGaps, IsSound, spans_from}
use Rattle.vs_layer.proofs.Changes.{off_put, inserted_here, inserted_elsewhere, gap_there, no_gap_at_none}
use Rattle.vs_layer.proofs.Counts.{counted_same}
use Rattle.vs_layer.proofs.Gaps.{row_end}
use Rattle.vs_layer.proofs.Places.{is_busy, places_free}
use Rattle.vs_layer.proofs.Plain.{plain_free}
use Rattle.vs_layer.proofs.Spans.{span_there, span_inserted}

inserted_in_order : (low : ℕ) (x : Span) (xs : List Span) → low ≤ x.first → 0 < x.pages → AreInOrder low xs → AllByRecursion (LieApart x.first x.pages) xs → AreInOrder low (insert_span x xs)
inserted_in_order low x [] l some a b = (l, some, tt)
inserted_in_order low x (y ∷ ys) l some a b = elim (cases_Bool (ltb x.first y.first)) [
  | inl e ↦ rw e (l, some, (before (ltb-true x.first y.first e) b.0, a.1, a.2))
  | inr e ↦ rw e (a.0, a.1, inserted_in_order (y.first + y.pages) x ys (behind (ltb-false x.first y.first e) b.0) some a.2 b.1)
]
  where
    before : x.first < y.first → LieApart x.first x.pages y → x.first + x.pages ≤ y.first
    before m (inl c) = absurd (omega arith)
    before m (inr c) = c

    behind : y.first ≤ x.first → LieApart x.first x.pages y → y.first + y.pages ≤ x.first
    behind m (inl c) = c
    behind m (inr c) = absurd (omega arith)

-- a row of chunks that are the same
pub row_same : (v w : Chunks) → IsTiled v → (prev from to : ℕ) (hs : List Head) → ((q : ℕ) → from ≤ q → q < to → head_at w q ≡ head_at v q) → IsRow v prev from to hs → IsRow w prev from to hs
row_same v w t prev from to [] f row = row
row_same v w t prev from to (h ∷ hs) f row =
    let some = (t.tiles from h row.0).some in
    let low = row_end v h.units (from + h.units) to hs row.2 in
    (f from (omega arith) (omega arith) ∙ row.0, row.1, row_same v w t h.units (from + h.units) to hs (λ q l m. f q (omega arith) m) row.2)

module _ (k : VsKept) (s : AreChunksSound k) (first pages : ℕ) (p : AreSpanPages k.chunks first pages) (apart : AllByRecursion (LieApart first pages) k.spans) where
  abbrev v : Chunks
  v = k.chunks

  abbrev front : ℕ
  front = front_of first

  abbrev all : Head
  all = gap (256 * pages - 3) 0

  abbrev pub opened : Chunks
  opened = with_head v front (Some all)

  abbrev spans : List Span
  spans = insert_span (vs_span first pages) k.spans

  pub clear : IsClear v (256 * first) (256 * (first + pages))
  clear g h is = by (s.inside g h is)
    where
      by : IsOfSpan k.spans g h.units → (g + h.units ≤ 256 * first) ⊎ (256 * (first + pages) ≤ g)
      by i = elim (all_at (LieApart first pages) i.span k.spans apart i.there) [
        | inl l ↦ inl (omega (arith, i.lies.to))
        | inr l ↦ inr (omega (arith, i.lies.from))
      ]

  pub front_none : head_at v front ≡ None
  front_none = by (head_at v front) refl
    where
      by : (o : Option Head) → head_at v front ≡ o → head_at v front ≡ None
      by None e = e
      by (Some h) e = elim (clear front h e) [ inl l ↦ absurd (omega arith) | inr l ↦ absurd (omega (arith, p.least)) ]

  within : front < length v.heads
  within = omega (arith, p.there, p.least)

  front_is : head_at opened front ≡ Some all
  front_is = at_put v front (Some all) within

  tiled : IsTiled opened
  tiled = tiled_open v s.tiled first pages p clear

  -- a chunk is the new one, or was there before
  cases_opened : (q : ℕ) (m : Head) → head_at opened q ≡ Some m → ((q ≡ front) × (m ≡ all)) ⊎ ((q ≡ front → ⊥) × (head_at v q ≡ Some m))
  cases_opened q m is = elim (cases_eq q front) [
    | inl e ↦ inl (e, same_head m all (sym (subst (λ j. head_at opened j ≡ Some m) e is) ∙ front_is))
    | inr other ↦ inr (other, sym (off_put v front (Some all) q other) ∙ is)
  ]

  rows_opened : AllByRecursion (IsSpanOfChunks opened) spans
  rows_opened =
      all_inserted (IsSpanOfChunks opened) (vs_span first pages) k.spans (all ∷ [], opened_row v first pages p)
      (all_weaker (IsSpanOfChunks v) (IsSpanOfChunks opened) k.spans (λ x i r.
      let a = all_at (LieApart first pages) x k.spans apart i in
      (r.0, row_same v opened s.tiled 0 (front_of x.first) (256 * (x.first + x.pages)) r.0 (λ q l m. off_put v front (Some all) q (λ e. elsewhere x q a l m e)) r.1)) s.rows)
    where
      elsewhere : (x : Span) (q : ℕ) → LieApart first pages x → front_of x.first ≤ q → q < 256 * (x.first + x.pages) → q ≡ front → ⊥
      elsewhere x q (inl a) l m e = omega arith
      elsewhere x q (inr a) l m e = omega (arith, p.least)

  inside_opened : (q : ℕ) (m : Head) → head_at opened q ≡ Some m → IsOfSpan spans q m.units
  inside_opened q m is = elim (cases_opened q m is) [
    | inl new ↦
        let units : m.units ≡ 256 * pages - 3 = ap (λ (h : Head). h.units) new.1 in
        record { span = vs_span first pages; there = made_in (vs_span first pages) k.spans; lies = record { from = omega (arith, new.0); to = omega (arith, new.0, p.least) } }
    | inr old ↦ let i = s.inside q m old.1 in record { span = i.span; there = in_inserted (vs_span first pages) i.span k.spans i.there; lies = i.lies }
  ]

  joined_opened : (q : ℕ) (m n : Head) → head_at opened q ≡ Some m → m.busy ≡ false → head_at opened (q + m.units) ≡ Some n → n.busy ≡ true
  joined_opened q m n is free next = by (cases_opened q m is) (cases_opened (q + m.units) n next)
    where
      told : n.prev ≡ m.units
      told = (tiled.tiles q m is).next n next

      some : 2 ≤ m.units
      some = (tiled.tiles q m is).some

      by : ((q ≡ front) × (m ≡ all)) ⊎ ((q ≡ front → ⊥) × (head_at v q ≡ Some m)) → ((q + m.units ≡ front) × (n ≡ all)) ⊎ ((q + m.units ≡ front → ⊥) × (head_at v (q + m.units) ≡ Some n)) → n.busy ≡ true
      by a (inl b) = let prev : n.prev ≡ 0 = ap (λ (h : Head). h.prev) b.1 in absurd (omega (arith, told, some))
      by (inr a) (inr b) = s.joined q m n a.1 free b.1
      by (inl a) (inr b) =
          let w = (s.tiled.tiles (q + m.units) n b.1).behind (omega (arith, told, some)) in
          let back : q + m.units - n.prev ≡ front = omega (arith, told, a.0) in
          absurd (none_or_some (head_at v front) w.head front_none (subst (λ j. head_at v j ≡ Some w.head) back w.there))

  pub sound_opened : (n : VsKept) → n.spans ≡ spans → n.chunks ≡ opened → AreChunksSound n
  sound_opened n es ec = record {
    tiled = subst IsTiled (sym ec) tiled;
    in_order = subst (AreInOrder 0) (sym es) (inserted_in_order 0 (vs_span first pages) k.spans (omega arith) (omega (arith, p.least)) s.in_order apart);
    usable = subst (AllByRecursion AreUsablePages) (sym es) (all_inserted AreUsablePages (vs_span first pages) k.spans (record { least = p.least; most = p.most; usable = p.usable; one_segment = p.one_segment }) s.usable);
    rows = subst (λ xs. AllByRecursion (IsSpanOfChunks n.chunks) xs) (sym es) (subst (λ c. AllByRecursion (IsSpanOfChunks c) spans) (sym ec) rows_opened);
    inside = λ q m is. subst (λ xs. IsOfSpan xs q m.units) (sym es) (inside_opened q m (subst (λ c. head_at c q ≡ Some m) ec is));
    joined = λ q m j is free next. joined_opened q m j (subst (λ c. head_at c q ≡ Some m) ec is) free (subst (λ c. head_at c (q + m.units) ≡ Some j) ec next);
    sized = λ q m is busy. elim (cases_opened q m (subst (λ c. head_at c q ≡ Some m) ec is)) [
      | inl new ↦ absurd (true≢false (sym busy ∙ ap (λ (h : Head). h.busy) new.1))
      | inr old ↦ s.sized q m old.1 busy
    ];
  }

  pub index_opened : (x : GapIndex) → IsIndexOf v x → IsIndexOf opened (with_gap x (256 * pages - 3) front)
  index_opened x i = record {
    gaps = λ units q. elim (cases_eq q front) [
      | inl e ↦ subst (λ j. finset.contains (finset.insert x.gaps (256 * pages - 3, front)) (units, j) ≡ is_gap_at opened units j) (sym e)
          (inserted_here x.gaps (256 * pages - 3) front units (i.gaps units front ∙ no_gap_at_none v front units front_none)
          ∙ sym (gap_there opened front units all front_is refl))
      | inr other ↦ inserted_elsewhere x.gaps (256 * pages - 3) front units q other ∙ i.gaps units q
          ∙ sym (ap (λ o. for_some o (λ h. not h.busy && eqb h.units units)) (off_put v front (Some all) q other))
    ];
    room = i.room ∙ sym (as_long v front (Some all));
  }

  pub absent_opened : (x : GapIndex) → IsIndexOf v x → (units : ℕ) → finset.contains x.gaps (units, front) ≡ false
  absent_opened x i units = i.gaps units front ∙ no_gap_at_none v front units front_none

  pub places_opened : places_from 0 opened.heads ≡ places_from 0 v.heads
  places_opened = places_free v front (Some all) (ap is_busy front_none) refl

-- no span is told of the page
pub not_told : (told : List ℕ) (first pages : ℕ) → 0 < pages → first < length told → AllByRecursion (LieApart first pages) (spans_from 0 told) → get_or told first 0 ≡ 0
not_told told first pages some l apart = by (cases_lt 0 (get_or told first 0))
  where
    no : 0 < get_or told first 0 → LieApart first pages (vs_span (0 + first) (get_or told first 0)) → ⊥
    no m (inl a) = omega arith
    no m (inr a) = omega arith

    by : (0 < get_or told first 0) ⊎ (get_or told first 0 ≤ 0) → get_or told first 0 ≡ 0
    by (inl m) = absurd (no m (all_at (LieApart first pages) (vs_span (0 + first) (get_or told first 0)) (spans_from 0 told) apart (span_there 0 first told l m)))
    by (inr m) = omega arith

module _ (k : VsKept) (told live : List ℕ) (x : GapIndex) (i : IsSound k told x live) (first pages : ℕ) (p : AreSpanPages k.chunks first pages) (apart : AllByRecursion (LieApart first pages) k.spans) where
  page_within : first < length told
  page_within = omega (arith, i.granules, p.there, p.least)

  pub spans_opened : spans_from 0 (set told first pages) ≡ insert_span (vs_span first pages) k.spans
  spans_opened =
      span_inserted told first pages page_within
      (not_told told first pages (omega (arith, p.least)) page_within (subst (AllByRecursion (LieApart first pages)) i.spans apart)) (omega (arith, p.least))
      ∙ ap (insert_span (vs_span first pages)) (sym i.spans)

  pub is_sound_opened : (n : VsKept) (y : GapIndex) → n.spans ≡ spans_from 0 (set told first pages) → n.chunks ≡ opened k i.chunks first pages p apart → n.served ≡ k.served → n.active ≡ k.active
      → y ≡ with_gap x (256 * pages - 3) (front_of first) → IsSound n (set told first pages) y live
  is_sound_opened n y es ec er ea ey = record {
    spans = es;
    granules = ap (λ (c : Chunks). length c.heads) ec ∙ as_long k.chunks (front_of first) (Some (gap (256 * pages - 3) 0)) ∙ i.granules ∙ ap (λ j. 256 * j) (sym (length-set told first pages));
    chunks = sound_opened k i.chunks first pages p apart n (es ∙ spans_opened) ec;
    plain = subst HasPlainGaps (sym ec) (plain_free k.chunks (front_of first) (gap (256 * pages - 3) 0) i.plain refl);
    index = subst (λ c. IsIndexOf c y) (sym ec) (subst (IsIndexOf (opened k i.chunks first pages p apart)) (sym ey) (index_opened k i.chunks first pages p apart x i.index));
    counted = counted_same k n live i.counted (ap (λ (c : Chunks). places_from 0 c.heads) ec ∙ places_opened k i.chunks first pages p apart) er ea;
  }
