-- The invariant at the end of a call, where only one chunk was left that may be anything.
use Rattle.std.proofs.Common.{◌≡◌, ◌≢◌, ℕ, ◌+◌, ◌*◌, ◌<◌, ◌≤◌, ◌⊎◌, inl, inr, true, false, not, ◌&&◌, eqb, List, [], ◌∷◌, Option, Some, None, sym, ap, subst, ◌∙◌, arith}
use Rattle.std.specs.List.{AllByRecursion}
use Rattle.std.specs.FinSet as set
use Rattle.std.proofs.lemmas.Bool.{cases_Bool, cases_order, eqb-true, eqb-false, ne_eqb, both_ways}
use Rattle.heap_model.specs.State.{Span, remove_found}
use Rattle.heap_model.specs.Search.{begins_at}
use Rattle.heap_model.specs.Stay.{for_some}
use Rattle.heap_soundness.specs.Sound.{IsOneOf, AreInOrder}
use Rattle.heap_soundness.proofs.Lists.{all_at, all_from, all_removed}
use Rattle.heap_soundness.proofs.Spans.{apart_spans, above, in_removed, removed_from, removed_in_order}
use Rattle.vs_headers.specs.declared.Head.{Head}
use Rattle.vs_split.specs.Chunks.{Chunks, head_at, with_head}
use Rattle.vs_split.specs.Tiles.{front_of, IsTiled, IsWhole}
use Rattle.vs_split.specs.Laws.{IsRow}
use Rattle.vs_split.proofs.TileLemmas.{none_or_some, same_head}
use Rattle.vs_split.proofs.TiledLemmas.{at_put, as_long, granule_within, tiled_close}
use Rattle.vs_free_tree.specs.Gaps.{GapIndex}
use Rattle.vs_layer.specs.Kept.{VsKept}
use Rattle.vs_layer.specs.Effects.{IsSpanOfChunks}
use Rattle.vs_layer.specs.Sound.{AreUsablePages, LiesIn, IsOfSpan, IsSized, is_gap_at, AreChunksSound, IsIndexOf}
use Rattle.vs_layer.specs.Steps.{with_gap}
use Rattle.vs_layer.proofs.Rows.{row_le}
use Rattle.vs_layer.proofs.Changes.{off_put, IsSoundBut, inserted_elsewhere, inserted_here, gap_there, no_gap_there, no_gap_at_none}
use Rattle.vs_layer.proofs.Steps.{alone, has_some}

-- the chunk behind h at g is a place, or there is none
abbrev pub IsPlaceBehind : Chunks → ℕ → Head → Type 0
IsPlaceBehind v g h = (n : Head) → head_at v (g + h.units) ≡ Some n → n.busy ≡ true

-- .. in front of what starts at g
abbrev pub IsPlaceBefore : Chunks → ℕ → Type 0
IsPlaceBefore v g = (q : ℕ) (m : Head) → head_at v q ≡ Some m → q + m.units ≡ g → m.busy ≡ true

pub record IsSoundAgain (k : VsKept) (x : GapIndex) : Type 0 where
  pub chunks : AreChunksSound k
  pub index : IsIndexOf k.chunks x

---- It has become a place with its block

module _ (k : VsKept) (x : GapIndex) (g : ℕ) (h : Head) (s : IsSoundBut k.spans k.chunks x g g) (at : head_at k.chunks g ≡ Some h) where
  is_h : (q : ℕ) (m : Head) → q ≡ g → head_at k.chunks q ≡ Some m → h ≡ m
  is_h q m z is = same_head h m (sym at ∙ subst (λ y. head_at k.chunks y ≡ Some m) z is)

  pub placed_again : h.busy ≡ true → IsSized h → IsSoundAgain k x
  placed_again busy size = record {
    chunks = record {
      tiled = s.tiled;
      in_order = s.in_order;
      usable = s.usable;
      rows = s.rows;
      inside = s.inside;
      joined = λ q m n is free next. elim (cases_Bool (eqb q g)) [
        | inl z ↦ absurd (both_ways h.busy (ap (λ (y : Head). y.busy) (is_h q m (eqb-true q g z) is) ∙ free) busy)
        | inr z ↦ elim (cases_Bool (eqb (q + m.units) g)) [
          | inl y ↦ ap (λ (y : Head). y.busy) (sym (is_h (q + m.units) n (eqb-true (q + m.units) g y) next)) ∙ busy
          | inr y ↦ s.joined q m n (eqb-false q g z) (eqb-false q g z) (eqb-false (q + m.units) g y) (eqb-false (q + m.units) g y) is free next
        ]
      ];
      sized = λ q m is told. elim (cases_Bool (eqb q g)) [
        | inl z ↦ subst IsSized (is_h q m (eqb-true q g z) is) size
        | inr z ↦ s.sized q m (eqb-false q g z) (eqb-false q g z) is told
      ];
    };
    index = record {
      gaps = λ units q. elim (cases_Bool (eqb q g)) [
        | inl z ↦
            subst (λ y. set.contains x.gaps (units, y) ≡ is_gap_at k.chunks units y) (sym (eqb-true q g z))
            (s.absent units ∙ sym (no_gap_there k.chunks g units h at busy))
        | inr z ↦ s.gaps units q (eqb-false q g z) (eqb-false q g z)
      ];
      room = s.room;
    };
  }

  -- it has become a gap between places, and was put into the index
  pub freed_again : h.busy ≡ false → IsPlaceBehind k.chunks g h → IsPlaceBefore k.chunks g → IsSoundAgain k (with_gap x h.units g)
  freed_again free next before = record {
    chunks = record {
      tiled = s.tiled;
      in_order = s.in_order;
      usable = s.usable;
      rows = s.rows;
      inside = s.inside;
      joined = λ q m n is told behind. elim (cases_Bool (eqb q g)) [
        | inl z ↦
            let same : m ≡ h = sym (is_h q m (eqb-true q g z) is) in
            next n (subst (λ (y : Head). head_at k.chunks (g + y.units) ≡ Some n) same (subst (λ y. head_at k.chunks (y + m.units) ≡ Some n) (eqb-true q g z) behind))
        | inr z ↦ elim (cases_Bool (eqb (q + m.units) g)) [
          | inl y ↦ absurd (both_ways m.busy told (before q m is (eqb-true (q + m.units) g y)))
          | inr y ↦ s.joined q m n (eqb-false q g z) (eqb-false q g z) (eqb-false (q + m.units) g y) (eqb-false (q + m.units) g y) is told behind
        ]
      ];
      sized = λ q m is told. elim (cases_Bool (eqb q g)) [
        | inl z ↦ absurd (both_ways h.busy free (ap (λ (y : Head). y.busy) (is_h q m (eqb-true q g z) is) ∙ told))
        | inr z ↦ s.sized q m (eqb-false q g z) (eqb-false q g z) is told
      ];
    };
    index = record {
      gaps = λ units q. elim (cases_Bool (eqb q g)) [
        | inl z ↦
            subst (λ y. set.contains (set.insert x.gaps (h.units, g)) (units, y) ≡ is_gap_at k.chunks units y) (sym (eqb-true q g z))
            (inserted_here x.gaps h.units g units (s.absent units) ∙ sym (gap_there k.chunks g units h at free))
        | inr z ↦ inserted_elsewhere x.gaps h.units g units q (eqb-false q g z) ∙ s.gaps units q (eqb-false q g z) (eqb-false q g z)
      ];
      room = s.room;
    };
  }

---- It filled its span, which is closed

-- what is left of the spans in order starts elsewhere
pub starts_elsewhere : (low first : ℕ) (xs : List Span) (y : Span) → AreInOrder low xs → IsOneOf y (remove_found (begins_at first) xs) → y.first ≢ first
starts_elsewhere low first [] y order i = absurd i
starts_elsewhere low first (z ∷ zs) y order i = elim (cases_Bool (eqb z.first first)) [
  | inl e ↦ behind (eqb-true z.first first e) (rw e at i)
  | inr e ↦ here_or e (rw e at i) (starts_elsewhere (z.first + z.pages) first zs y order.2)
]
  where
    behind : z.first ≡ first → IsOneOf y zs → y.first ≢ first
    behind e j f = let a = above (z.first + z.pages) zs y order.2 j in omega (arith, a.0, order.1)

    here_or : eqb z.first first ≡ false → IsOneOf y (z ∷ remove_found (begins_at first) zs) → (IsOneOf y (remove_found (begins_at first) zs) → y.first ≢ first) → y.first ≢ first
    here_or e (inl f) again = λ g. eqb-false z.first first e (ap (λ (w : Span). w.first) f ∙ g)
    here_or e (inr j) again = again j

-- a row that does not have the granule stays
row_off : (v : Chunks) (g : ℕ) (o : Option Head) → IsTiled v → (prev from to : ℕ) (hs : List Head) → (g < from) ⊎ (to ≤ g) → IsRow v prev from to hs → IsRow (with_head v g o) prev from to hs
row_off v g o t prev from to [] l row = row
row_off v g o t prev from to (h ∷ hs) l row = (
  off_put v g o from (not_here l) ∙ row.0,
  row.1,
  row_off v g o t h.units (from + h.units) to hs (still l) row.2,
)
  where
    not_here : (g < from) ⊎ (to ≤ g) → from ≢ g
    not_here (inl l) z = omega arith
    not_here (inr l) z = omega (arith, (t.tiles from h row.0).some, row_le v h.units (from + h.units) to hs row.2)

    still : (g < from) ⊎ (to ≤ g) → (g < from + h.units) ⊎ (to ≤ g)
    still (inl l) = inl (omega arith)
    still (inr l) = inr l

module _ (xs : List Span) (v : Chunks) (x : GapIndex) (y : Span) (h : Head) (s : IsSoundBut xs v x (front_of y.first) (front_of y.first)) (whole : IsWhole v y.first h)
    (there : IsOneOf y xs) (end : front_of y.first + h.units ≡ 256 * (y.first + y.pages)) where
  abbrev g : ℕ
  g = front_of y.first

  abbrev w : Chunks
  w = with_head v g None

  abbrev rest : List Span
  rest = remove_found (begins_at y.first) xs

  -- a chunk that is left
  not_at : (q : ℕ) (m : Head) → head_at w q ≡ Some m → q ≢ g
  not_at q m is z = none_or_some (head_at w g) m (at_put v g None (granule_within v g h whole.there)) (subst (λ p. head_at w p ≡ Some m) z is)

  stays : (q : ℕ) (m : Head) → head_at w q ≡ Some m → head_at v q ≡ Some m
  stays q m is = sym (off_put v g None q (not_at q m is)) ∙ is

  -- .. lies in another span
  elsewhere : (q : ℕ) (m : Head) → head_at w q ≡ Some m → (z : Span) → LiesIn q m.units z → z ≡ y → ⊥
  elsewhere q m is z lies same =
      let first : z.first ≡ y.first = ap (λ (p : Span). p.first) same in
      let pages : z.pages ≡ y.pages = ap (λ (p : Span). p.pages) same in
      let two = has_some v s.tiled q m (stays q m is) in
      elim (cases_order q g) [
        | inl e ↦ not_at q m is e
        | inr (inl less) ↦ absurd (omega (arith, lies.from))
        | inr (inr more) ↦ alone v s.tiled g h whole.there q m more (omega (arith, lies.to)) (stays q m is)
      ]

  pub left_in : (q : ℕ) (m : Head) → head_at w q ≡ Some m → IsOfSpan rest q m.units
  left_in q m is =
      let o = s.inside q m (stays q m is) in
      record {
        span = o.span;
        there = in_removed (begins_at y.first) o.span xs (ne_eqb o.span.first y.first (λ z. elsewhere q m is o.span o.lies (one_first o.span o.there z))) o.there;
        lies = o.lies;
      }
    where
      one_first : (z : Span) → IsOneOf z xs → z.first ≡ y.first → z ≡ y
      one_first z i e = elim (apart_spans 0 xs z y s.in_order i there) [
        | inl same ↦ same
        | inr (inl low) ↦ absurd (let a = above 0 xs z s.in_order i in omega (arith, a.1))
        | inr (inr high) ↦ absurd (let a = above 0 xs y s.in_order there in omega (arith, a.1))
      ]

  -- .. so none is left in this one
  pub none_in_it : (q : ℕ) (m : Head) → head_at w q ≡ Some m → 256 * y.first ≤ q → q + m.units ≤ 256 * (y.first + y.pages) → ⊥
  none_in_it q m is low high =
      let o = s.inside q m (stays q m is) in
      let two = has_some v s.tiled q m (stays q m is) in
      elim (apart_spans 0 xs o.span y s.in_order o.there there) [
        | inl same ↦ elsewhere q m is o.span o.lies same
        | inr (inl before) ↦ absurd (omega (arith, o.lies.to))
        | inr (inr after) ↦ absurd (omega (arith, o.lies.from))
      ]

  pub closed_again : (k : VsKept) → k.spans ≡ rest → k.chunks ≡ w → IsSoundAgain k x
  closed_again k spans chunks = record {
    chunks = record {
      tiled = subst IsTiled (sym chunks) (tiled_close v s.tiled y.first h whole);
      in_order = subst (AreInOrder 0) (sym spans) (removed_in_order (begins_at y.first) 0 xs s.in_order);
      usable = subst (AllByRecursion AreUsablePages) (sym spans) (all_removed AreUsablePages (begins_at y.first) xs s.usable);
      rows = subst (λ (c : Chunks). AllByRecursion (IsSpanOfChunks c) k.spans) (sym chunks) (subst (AllByRecursion (IsSpanOfChunks w)) (sym spans) (all_from (IsSpanOfChunks w) rest row_left));
      inside = subst (λ (c : Chunks). (q : ℕ) (m : Head) → head_at c q ≡ Some m → IsOfSpan k.spans q m.units) (sym chunks)
          (subst (λ zs. (q : ℕ) (m : Head) → head_at w q ≡ Some m → IsOfSpan zs q m.units) (sym spans) left_in);
      joined = subst (λ (c : Chunks). (q : ℕ) (m n : Head) → head_at c q ≡ Some m → m.busy ≡ false → head_at c (q + m.units) ≡ Some n → n.busy ≡ true) (sym chunks)
          (λ q m n is free next.
          let here = not_at q m is in
          let there = not_at (q + m.units) n next in
          s.joined q m n here here there there (stays q m is) free (stays (q + m.units) n next));
      sized = subst (λ (c : Chunks). (q : ℕ) (m : Head) → head_at c q ≡ Some m → m.busy ≡ true → IsSized m) (sym chunks)
          (λ q m is told. s.sized q m (not_at q m is) (not_at q m is) (stays q m is) told);
    };
    index = subst (λ (c : Chunks). IsIndexOf c x) (sym chunks) (record { gaps = same_gaps; room = s.room ∙ sym (as_long v g None) });
  }
    where
      row_left : (z : Span) → IsOneOf z rest → IsSpanOfChunks w z
      row_left z i =
          let was = removed_from (begins_at y.first) z xs i in
          let row = all_at (IsSpanOfChunks v) z xs s.rows was in
          (row.0, row_off v g None s.tiled 0 (front_of z.first) (256 * (z.first + z.pages)) row.0 (off z was (starts_elsewhere 0 y.first xs z s.in_order i)) row.1)
        where
          off : (z : Span) → IsOneOf z xs → z.first ≢ y.first → (g < front_of z.first) ⊎ (256 * (z.first + z.pages) ≤ g)
          off z i other = elim (apart_spans 0 xs z y s.in_order i there) [
            | inl same ↦ absurd (other (ap (λ (p : Span). p.first) same))
            | inr (inl low) ↦ inr (omega arith)
            | inr (inr high) ↦ inl (omega (arith, has_some v s.tiled g h whole.there))
          ]

      same_gaps : (units q : ℕ) → set.contains x.gaps (units, q) ≡ is_gap_at w units q
      same_gaps units q = elim (cases_Bool (eqb q g)) [
        | inl z ↦
            subst (λ p. set.contains x.gaps (units, p) ≡ is_gap_at w units p) (sym (eqb-true q g z))
            (s.absent units ∙ sym (no_gap_at_none w g units (at_put v g None (granule_within v g h whole.there))))
        | inr z ↦ s.gaps units q (eqb-false q g z) (eqb-false q g z) ∙ ap (λ o. for_some o (λ m. not m.busy && eqb m.units units)) (sym (off_put v g None q (eqb-false q g z)))
      ]
