-- The chunks of one span: which is the first, which is the last, and whether another has a block.
use Rattle.std.proofs.Common.{◌≡◌, ◌≢◌, ℕ, ◌+◌, ◌-◌, ◌*◌, ◌<◌, ◌≤◌, inl, inr, true, false, not, ◌&&◌, eqb, leb, List, Option, Some, None, refl, sym, ap, subst, ◌∙◌, arith}
use Rattle.std.specs.Prelude.{is_none}
use Rattle.std.specs.List.{list_any, AllByRecursion}
use Rattle.std.proofs.lemmas.Bool.{cases_Bool, cases_order, cases_lt, eqb-true, eqb-false, both_ways, or_cases, or_parts, and_parts, and_from, le-leb, leb-true, not-true, false_from_ne_true}
use Rattle.heap_model.specs.Geometry.{page_bytes}
use Rattle.heap_model.specs.State.{Span, Place}
use Rattle.heap_model.specs.Legal.{lies_in, has_place}
use Rattle.heap_soundness.specs.Sound.{IsOneOf, AreInOrder}
use Rattle.heap_soundness.proofs.Lists.{all_at, any_in, any_found}
use Rattle.heap_soundness.proofs.Spans.{apart_spans}
use Rattle.vs_headers.specs.declared.Head.{Head}
use Rattle.vs_split.specs.Chunks.{Chunks, head_at}
use Rattle.vs_split.specs.Tiles.{front_of, IsTiled}
use Rattle.vs_split.proofs.TileLemmas.{none_or_some, same_head}
use Rattle.vs_layer.specs.Kept.{place_of, places_from}
use Rattle.vs_layer.specs.Effects.{IsSpanOfChunks}
use Rattle.vs_layer.specs.Sound.{LiesIn, IsOfSpan}
use Rattle.vs_layer.specs.Steps.{is_first_gap, is_last_gap, is_free_before, is_free_after}
use Rattle.vs_layer.proofs.Places.{place_in, in_places, IsOfHead}
use Rattle.vs_layer.proofs.Gaps.{first_or_behind, last_or_next}
use Rattle.vs_layer.proofs.Steps.{alone, has_some}

-- a chunk with a block in this span
pub record IsBlockOf (v : Chunks) (y : Span) (q : ℕ) : Type 0 where
  pub head : Head
  pub there : head_at v q ≡ Some head
  pub busy : head.busy ≡ true
  pub lies : LiesIn q head.units y

pub lies_from : (y : Span) (q : ℕ) (m : Head) → LiesIn q m.units y → lies_in page_bytes y (place_of q m) ≡ true
lies_from y q m l =
    and_from (leb (4096 * y.first) (16 * q)) (leb (16 * q + 16 * m.units) (4096 * (y.first + y.pages)))
    (le-leb (4096 * y.first) (16 * q) (omega (arith, l.from))) (le-leb (16 * q + 16 * m.units) (4096 * (y.first + y.pages)) (omega (arith, l.to)))

pub lies_to : (y : Span) (q : ℕ) (m : Head) → lies_in page_bytes y (place_of q m) ≡ true → (256 * y.first ≤ q) × (q + m.units ≤ 256 * (y.first + y.pages))
lies_to y q m e =
    let p = and_parts (leb (4096 * y.first) (16 * q)) (leb (16 * q + 16 * m.units) (4096 * (y.first + y.pages))) e in
    let low = leb-true (4096 * y.first) (16 * q) p.0 in
    let high = leb-true (16 * q + 16 * m.units) (4096 * (y.first + y.pages)) p.1 in
    (omega arith, omega arith)

-- the span has a block
pub has_block : (v : Chunks) (y : Span) (q : ℕ) → IsBlockOf v y q → has_place page_bytes (places_from 0 v.heads) y ≡ true
has_block v y q b =
    any_in (lies_in page_bytes y) (places_from 0 v.heads) (place_of q b.head) (place_in 0 q q v.heads b.head (omega arith) b.there b.busy) (lies_from y q b.head b.lies)

-- it has none
pub no_block : (v : Chunks) (y : Span) → ((q : ℕ) (m : Head) → head_at v q ≡ Some m → m.busy ≡ true → 256 * y.first ≤ q → q + m.units ≤ 256 * (y.first + y.pages) → ⊥)
    → has_place page_bytes (places_from 0 v.heads) y ≡ false
no_block v y never = false_from_ne_true (list_any (lies_in page_bytes y) (places_from 0 v.heads)) (λ e.
    let f = any_found (lies_in page_bytes y) (places_from 0 v.heads) e in
    let r = in_places 0 v.heads f.0 f.1 in
    one r.0 f.0 f.2 r.1)
  where
    one : (n : ℕ) (p : Place) → lies_in page_bytes y p ≡ true → IsOfHead v.heads 0 n p → ⊥
    one n p e h =
        let same : h.index ≡ n = omega (arith, h.granule) in
        let l = lies_to y n h.head (subst (λ (z : Place). lies_in page_bytes y z ≡ true) (sym h.is) e) in
        never n h.head (subst (λ j. head_at v j ≡ Some h.head) same h.there) h.busy l.0 l.1

pub record IsFirstGap (o : Option Head) : Type 0 where
  pub head : Head
  pub there : o ≡ Some head
  pub free : head.busy ≡ false
  pub first : head.prev ≡ 0

first_gap : (o : Option Head) → is_first_gap o ≡ true → IsFirstGap o
first_gap None e = absurd (let z : ⊥ = cc in z)
first_gap (Some p) e =
    let a = and_parts (not p.busy) (eqb p.prev 0) e in
    record { head = p; there = refl; free = not-true p.busy a.0; first = eqb-true p.prev 0 a.1 }

module _ (xs : List Span) (v : Chunks) (t : IsTiled v) (order : AreInOrder 0 xs) (inside : (q : ℕ) (m : Head) → head_at v q ≡ Some m → IsOfSpan xs q m.units)
    (rows : AllByRecursion (IsSpanOfChunks v) xs) (y : Span) (of_them : IsOneOf y xs) where
  -- a chunk that starts in the span lies in it
  pub in_this : (q : ℕ) (m : Head) → head_at v q ≡ Some m → 256 * y.first ≤ q → q < 256 * (y.first + y.pages) → LiesIn q m.units y
  in_this q m is low high =
      let o = inside q m is in
      let two = has_some v t q m is in
      elim (apart_spans 0 xs o.span y order o.there of_them) [
        | inl same ↦ subst (LiesIn q m.units) same o.lies
        | inr (inl before) ↦ absurd (omega (arith, o.lies.to))
        | inr (inr after) ↦ absurd (omega (arith, o.lies.from))
      ]

  -- .. and so do its neighbours
  pub next_in : (g : ℕ) (h n : Head) → LiesIn g h.units y → head_at v g ≡ Some h → head_at v (g + h.units) ≡ Some n → LiesIn (g + h.units) n.units y
  next_in g h n l at next =
      let o = inside (g + h.units) n next in
      let two = has_some v t (g + h.units) n next in
      let two_too = has_some v t g h at in
      elim (apart_spans 0 xs o.span y order o.there of_them) [
        | inl same ↦ subst (LiesIn (g + h.units) n.units) same o.lies
        | inr (inl before) ↦ absurd (omega (arith, o.lies.to, l.from))
        | inr (inr after) ↦ absurd (omega (arith, o.lies.from, l.to))
      ]

  pub prev_in : (q g : ℕ) (p h : Head) → LiesIn g h.units y → head_at v g ≡ Some h → head_at v q ≡ Some p → q + p.units ≡ g → LiesIn q p.units y
  prev_in q g p h l at there meets =
      let o = inside q p there in
      let two = has_some v t q p there in
      let two_too = has_some v t g h at in
      elim (apart_spans 0 xs o.span y order o.there of_them) [
        | inl same ↦ subst (LiesIn q p.units) same o.lies
        | inr (inl before) ↦ absurd (omega (arith, o.lies.to, l.from))
        | inr (inr after) ↦ absurd (omega (arith, o.lies.from, l.to))
      ]

  row : IsSpanOfChunks v y
  row = all_at (IsSpanOfChunks v) y xs rows of_them

  -- the first of the span starts at its front
  pub starts_it : (g : ℕ) (h : Head) → LiesIn g h.units y → head_at v g ≡ Some h → h.prev ≡ 0 → g ≡ front_of y.first
  starts_it g h l at first =
      let two = has_some v t g h at in
      elim (first_or_behind v t 0 (front_of y.first) (256 * (y.first + y.pages)) g h row.0 row.1 at (omega (arith, l.from)) (omega (arith, l.to))) [
        | inl e ↦ e
        | inr some ↦ absurd (omega arith)
      ]

  -- the last of the span ends at its end
  pub ends_it : (g : ℕ) (h : Head) → LiesIn g h.units y → head_at v g ≡ Some h → head_at v (g + h.units) ≡ None → g + h.units ≡ 256 * (y.first + y.pages)
  ends_it g h l at none = elim (cases_lt (g + h.units) (256 * (y.first + y.pages))) [
    | inl less ↦
        let n = last_or_next v t 0 (front_of y.first) (256 * (y.first + y.pages)) g h row.0 row.1 at (omega (arith, l.from)) less in
        absurd (none_or_some (head_at v (g + h.units)) n.0 none n.1)
    | inr more ↦ omega (arith, l.to)
  ]

  module _ (g : ℕ) (h : Head) (at : head_at v g ≡ Some h) (l : LiesIn g h.units y)
      (joined : (q : ℕ) (m n : Head) → head_at v q ≡ Some m → m.busy ≡ false → head_at v (q + m.units) ≡ Some n → n.busy ≡ true) where
    -- all in front of it is free
    pub free_before : is_free_before v g h ≡ true → (q : ℕ) (m : Head) → head_at v q ≡ Some m → 256 * y.first ≤ q → q < g → m.busy ≡ false
    free_before e q m is low less =
        let two = has_some v t g h at in
        let lies = in_this q m is low (omega (arith, l.to)) in
        elim (cases_lt 0 h.prev) [
          | inr first ↦ absurd (let s = starts_it g h l at (omega arith) in omega (arith, lies.from))
          | inl some ↦ elim (or_cases (eqb h.prev 0) (is_first_gap (head_at v (g - h.prev))) e) [
            | inl none ↦ absurd (let z = eqb-true h.prev 0 none in omega arith)
            | inr gap ↦ in_front some lies (first_gap (head_at v (g - h.prev)) gap)
          ]
        ]
      where
        in_front : 0 < h.prev → LiesIn q m.units y → IsFirstGap (head_at v (g - h.prev)) → m.busy ≡ false
        in_front some lies f =
            let b = (t.tiles g h at).behind some in
            let units = ap (λ (z : Head). z.units) (same_head f.head b.head (sym f.there ∙ b.there)) ∙ b.units in
            let p = prev_in (g - h.prev) g f.head h l at f.there (omega (arith, units, b.below)) in
            let start = starts_it (g - h.prev) f.head p f.there f.first in
            elim (cases_order q (g - h.prev)) [
              | inl z ↦ ap (λ (z : Head). z.busy) (sym (same_head f.head m (sym f.there ∙ subst (λ j. head_at v j ≡ Some m) z is))) ∙ f.free
              | inr (inl under) ↦ absurd (omega (arith, lies.from))
              | inr (inr over) ↦ absurd (alone v t (g - h.prev) f.head f.there q m over (omega (arith, units, b.below)) is)
            ]

    -- .. and if not, there is a block
    pub block_before : is_free_before v g h ≡ false → (q : ℕ) × (q < g) × IsBlockOf v y q
    block_before e =
        let p = or_parts (eqb h.prev 0) (is_first_gap (head_at v (g - h.prev))) e in
        some_prev (eqb-false h.prev 0 p.0) p.1
      where
        two_back : (b : ℕ) (p : Head) → head_at v b ≡ Some p → p.busy ≡ false → LiesIn b p.units y → b < g → p.prev ≢ 0 → (q : ℕ) × (q < g) × IsBlockOf v y q
        two_back b p there free lies less other =
            let some : 0 < p.prev = elim (cases_lt 0 p.prev) [ inl z ↦ z | inr z ↦ absurd (other (omega arith)) ] in
            let k = (t.tiles b p there).behind some in
            let meets : b ≡ b - p.prev + k.head.units = omega (arith, k.units, k.below) in (
              b - p.prev,
              omega (arith, k.below),
              record {
                head = k.head;
                there = k.there;
                busy = elim (cases_Bool k.head.busy) [
                  | inl busy ↦ busy
                  | inr gap ↦ absurd (both_ways p.busy free (joined (b - p.prev) k.head p k.there gap (subst (λ j. head_at v j ≡ Some p) meets there)))
                ];
                lies = prev_in (b - p.prev) b k.head p lies there k.there (sym meets);
              },
            )

        some_prev : h.prev ≢ 0 → is_first_gap (head_at v (g - h.prev)) ≡ false → (q : ℕ) × (q < g) × IsBlockOf v y q
        some_prev other none =
            let some : 0 < h.prev = elim (cases_lt 0 h.prev) [ inl z ↦ z | inr z ↦ absurd (other (omega arith)) ] in
            let b = (t.tiles g h at).behind some in
            let lies = prev_in (g - h.prev) g b.head h l at b.there (omega (arith, b.units, b.below)) in
            let told : is_first_gap (Some b.head) ≡ false = sym (ap is_first_gap b.there) ∙ none in
            elim (cases_Bool b.head.busy) [
              | inl busy ↦ (g - h.prev, omega (arith, b.below), record { head = b.head; there = b.there; busy = busy; lies = lies })
              | inr gap ↦ two_back (g - h.prev) b.head b.there gap lies (omega (arith, b.below)) (eqb-false b.head.prev 0 (ap (λ z. not z && eqb b.head.prev 0) (sym gap) ∙ told))
            ]

    -- all behind it is free
    pub free_after : is_free_after v g h ≡ true → (q : ℕ) (m : Head) → head_at v q ≡ Some m → q + m.units ≤ 256 * (y.first + y.pages) → g < q → m.busy ≡ false
    free_after e q m is high more = by (head_at v (g + h.units)) refl e
      where
        past : g + h.units ≤ q
        past = (t.tiles g h at).apart q m more is

        by : (o : Option Head) → head_at v (g + h.units) ≡ o → is_last_gap v (g + h.units) o ≡ true → m.busy ≡ false
        by None none f = absurd (omega (arith, past, ends_it g h l at none, has_some v t q m is))
        by (Some n) next f =
            let a = and_parts (not n.busy) (is_none (head_at v (g + h.units + n.units))) f in
            let end = ends_it (g + h.units) n (next_in g h n l at next) next (is_none_of (head_at v (g + h.units + n.units)) a.1) in
            elim (cases_order q (g + h.units)) [
              | inl z ↦ ap (λ (z : Head). z.busy) (sym (same_head n m (sym next ∙ subst (λ j. head_at v j ≡ Some m) z is))) ∙ not-true n.busy a.0
              | inr (inl under) ↦ absurd (omega (arith, past))
              | inr (inr over) ↦ absurd (alone v t (g + h.units) n next q m over (omega (arith, has_some v t q m is)) is)
            ]
          where
            is_none_of : (o : Option Head) → is_none o ≡ true → o ≡ None
            is_none_of None z = refl
            is_none_of (Some k) z = absurd (let z : ⊥ = cc in z)

    pub block_after : is_free_after v g h ≡ false → (q : ℕ) × (g < q) × IsBlockOf v y q
    block_after e = by (head_at v (g + h.units)) refl e
      where
        by : (o : Option Head) → head_at v (g + h.units) ≡ o → is_last_gap v (g + h.units) o ≡ false → (q : ℕ) × (g < q) × IsBlockOf v y q
        by None none f = absurd (let z : ⊥ = cc in z)
        by (Some n) next f = elim (cases_Bool n.busy) [
          | inl busy ↦ (g + h.units, omega (arith, has_some v t g h at), record { head = n; there = next; busy = busy; lies = next_in g h n l at next })
          | inr gap ↦ two_on (head_at v (g + h.units + n.units)) refl gap (ap (λ z. not z && is_none (head_at v (g + h.units + n.units))) (sym gap) ∙ f)
        ]
          where
            two_on : (o : Option Head) → head_at v (g + h.units + n.units) ≡ o → n.busy ≡ false → is_none o ≡ false → (q : ℕ) × (g < q) × IsBlockOf v y q
            two_on None none gap z = absurd (let z : ⊥ = cc in z)
            two_on (Some k) there gap z = (
              g + h.units + n.units,
              omega (arith, has_some v t g h at),
              record { head = k; there = there; busy = joined (g + h.units) n k next gap there; lies = next_in (g + h.units) n k (next_in g h n l at next) next there },
            )
