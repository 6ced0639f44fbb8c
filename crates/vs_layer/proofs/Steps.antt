-- A chunk that is written, joined with the one behind it, or cut.
use Rattle.std.proofs.Common.{◌≡◌, ◌≢◌, ℕ, ◌+◌, ◌-◌, ◌<◌, ◌≤◌, inl, inr, false, List, ◌∷◌, Option, Some, None, refl, sym, ap, subst, ◌∙◌, arith}
use Rattle.std.specs.Option.{option_map}
use Rattle.std.proofs.lemmas.Bool.{cases_order}
use Rattle.heap_model.specs.State.{Span}
use Rattle.heap_soundness.specs.Sound.{AreInOrder}
use Rattle.heap_soundness.proofs.Spans.{apart_spans}
use Rattle.vs_headers.specs.declared.Head.{Head}
use Rattle.vs_split.specs.Chunks.{Chunks, head_at, with_head, told_prev, gap, split_chunk, joined_chunk}
use Rattle.vs_split.specs.Tiles.{IsTiled}
use Rattle.vs_split.specs.Laws.{IsRow}
use Rattle.vs_split.proofs.TileLemmas.{none_or_some, same_head}
use Rattle.vs_split.proofs.TiledLemmas.{at_put, as_long, granule_within, tiled_set, tiled_split, tiled_join, change, second_is, join_change}
use Rattle.vs_free_tree.specs.Gaps.{GapIndex}
use Rattle.vs_layer.specs.Sound.{IsOfSpan}
use Rattle.vs_layer.proofs.Changes.{off_put, IsSoundBut, HasSamePlacesBut, IsStep, stepped, places_but}

-- no other chunk starts inside a chunk
pub alone : (v : Chunks) → IsTiled v → (g : ℕ) (h : Head) → head_at v g ≡ Some h → (q : ℕ) (m : Head) → g < q → q < g + h.units → head_at v q ≡ Some m → ⊥
alone v t g h at q m more less is = absurd (omega (arith, (t.tiles g h at).apart q m more is))

pub has_some : (v : Chunks) → IsTiled v → (g : ℕ) (h : Head) → head_at v g ≡ Some h → 2 ≤ h.units
has_some v t g h at = (t.tiles g h at).some

prev_told : (u : ℕ) (o : Option Head) → ((n : Head) → o ≡ Some n → n.prev ≡ u) → o ≡ option_map (told_prev u) o
prev_told u None all = refl
prev_told u (Some n) all = ap (λ p. let k : Head = record n { prev = p } in Some k) (all n refl)

-- two neighbours lie in one span
pub in_one_span : (xs : List Span) (g n m : ℕ) → AreInOrder 0 xs → IsOfSpan xs g n → IsOfSpan xs (g + n) m → 0 < n → 0 < m → IsOfSpan xs g (n + m)
in_one_span xs g n m order a b some more = elim (apart_spans 0 xs a.span b.span order a.there b.there) [
  | inl same ↦
      let first : a.span.first ≡ b.span.first = ap (λ (y : Span). y.first) same in
      let pages : a.span.pages ≡ b.span.pages = ap (λ (y : Span). y.pages) same in
      record { span = a.span; there = a.there; lies = record { from = a.lies.from; to = omega (arith, b.lies.to) } }
  | inr (inl low) ↦ absurd (omega (arith, a.lies.to, b.lies.from))
  | inr (inr high) ↦ absurd (omega (arith, a.lies.from, b.lies.to))
]

---- One head is written

module _ (xs : List Span) (v : Chunks) (x : GapIndex) (g : ℕ) (h k : Head) (s : IsSoundBut xs v x g g) (at : head_at v g ≡ Some h) (size : k.units ≡ h.units) (prev : k.prev ≡ h.prev) where
  set_step : IsStep xs v (with_head v g (Some k)) g (g + h.units) g g h.units h.units h k
  set_step = record {
    change = record {
      old = at;
      new = at_put v g (Some k) (granule_within v g h at);
      prev = prev;
      some = omega (arith, some);
      below = λ q less. off_put v g (Some k) q (λ z. omega arith);
      above = λ q more. off_put v g (Some k) q (λ z. omega arith);
      at_end = off_put v g (Some k) (g + h.units) (λ z. omega (arith, some)) ∙ prev_told h.units (head_at v (g + h.units)) (s.tiled.tiles g h at).next;
      inside = λ q m low high is. elim (cases_order q g) [
        | inl z ↦
            let same : h ≡ m = same_head h m (sym at ∙ subst (λ y. head_at v y ≡ Some m) z is) in
            omega (arith, ap (λ (y : Head). y.units) same)
        | inr (inl less) ↦ absurd (omega arith)
        | inr (inr more) ↦ absurd (alone v s.tiled g h at q m more high is)
      ];
    };
    tiled = tiled_set v s.tiled g h k at size prev;
    long = as_long v g (Some k);
    followed = λ to hs row. (k ∷ hs, (at_put v g (Some k) (granule_within v g h at), refl, subst (λ n. IsRow (with_head v g (Some k)) n (g + n) to hs) (sym size) row));
    old = λ q m more less is. absurd (alone v s.tiled g h at q m more less is);
    new = λ q m more less is. absurd (alone v s.tiled g h at q m more less (sym (off_put v g (Some k) q (λ z. omega arith)) ∙ is));
    fits = omega (arith, size);
    within = (omega arith, omega (arith, some), omega arith, omega (arith, some));
    size = refl;
    span = s.inside g h at;
  }
    where
      some : 2 ≤ h.units
      some = has_some v s.tiled g h at

  -- the chunk at g stays the one that may be anything
  pub but_set : IsSoundBut xs (with_head v g (Some k)) x g g
  but_set = stepped xs v (with_head v g (Some k)) g (g + h.units) g g h.units h.units h k set_step x s

  pub places_set : HasSamePlacesBut g v (with_head v g (Some k))
  places_set = places_but xs v (with_head v g (Some k)) g (g + h.units) g g h.units h.units h k set_step

  pub head_set : head_at (with_head v g (Some k)) g ≡ Some k
  head_set = at_put v g (Some k) (granule_within v g h at)

---- Two neighbours become one, the second of which is free

module _ (xs : List Span) (v : Chunks) (x : GapIndex) (g : ℕ) (h n : Head) (s : IsSoundBut xs v x g (g + h.units)) (at : head_at v g ≡ Some h) (next : head_at v (g + h.units) ≡ Some n) (free : n.busy ≡ false) where
  abbrev end : ℕ
  end = g + h.units + n.units

  abbrev u : ℕ
  u = h.units + n.units

  abbrev whole : Head
  whole = record h { units = u }

  abbrev w1 : Chunks
  w1 = with_head v g (Some whole)

  abbrev w2 : Chunks
  w2 = with_head w1 (g + h.units) None

  abbrev w : Chunks
  w = joined_chunk v g h n.units

  some : 2 ≤ h.units
  some = has_some v s.tiled g h at

  more_too : 2 ≤ n.units
  more_too = has_some v s.tiled (g + h.units) n next

  gone : head_at w (g + h.units) ≡ None
  gone =
      off_put w2 end (option_map (told_prev u) (head_at w2 end)) (g + h.units) (λ z. omega (arith, more_too))
      ∙ at_put w1 (g + h.units) None (omega (arith, as_long v g (Some whole), granule_within v (g + h.units) n next))

  between : (q : ℕ) → g < q → q < end → q ≢ g + h.units → head_at w q ≡ head_at v q
  between q more less other =
      off_put w2 end (option_map (told_prev u) (head_at w2 end)) q (λ z. omega arith)
      ∙ off_put w1 (g + h.units) None q other ∙ off_put v g (Some whole) q (λ z. omega arith)

  two_alone : (q : ℕ) (m : Head) → g < q → q < end → q ≢ g + h.units → head_at v q ≡ Some m → ⊥
  two_alone q m more less other is = elim (cases_order q (g + h.units)) [
    | inl z ↦ other z
    | inr (inl low) ↦ alone v s.tiled g h at q m more low is
    | inr (inr high) ↦ alone v s.tiled (g + h.units) n next q m high less is
  ]

  was_second : (q : ℕ) (m : Head) → g < q → q < end → head_at v q ≡ Some m → (q ≡ g + h.units) × (m.busy ≡ false)
  was_second q m more less is = elim (cases_order q (g + h.units)) [
    | inl z ↦
        let same : n ≡ m = same_head n m (sym next ∙ subst (λ y. head_at v y ≡ Some m) z is) in
        (z, ap (λ (y : Head). y.busy) (sym same) ∙ free)
    | inr (inl low) ↦ absurd (two_alone q m more less (λ z. omega arith) is)
    | inr (inr high) ↦ absurd (two_alone q m more less (λ z. omega arith) is)
  ]

  none_left : (q : ℕ) (m : Head) → g < q → q < end → head_at w q ≡ Some m → ⊥
  none_left q m more less is = elim (cases_order q (g + h.units)) [
    | inl z ↦ none_or_some (head_at w (g + h.units)) m gone (subst (λ y. head_at w y ≡ Some m) z is)
    | inr (inl low) ↦ two_alone q m more less (λ z. omega arith) (sym (between q more less (λ z. omega arith)) ∙ is)
    | inr (inr high) ↦ two_alone q m more less (λ z. omega arith) (sym (between q more less (λ z. omega arith)) ∙ is)
  ]

  pub join_step : IsStep xs v w g end (g + h.units) g u u h whole
  join_step = record {
    change = join_change v s.tiled g h n at next;
    tiled = tiled_join v s.tiled g h n at next;
    long = as_long w2 end (option_map (told_prev u) (head_at w2 end)) ∙ as_long w1 (g + h.units) None ∙ as_long v g (Some whole);
    followed = λ to hs row. (whole ∷ hs, ((join_change v s.tiled g h n at next).new, refl, let same : end ≡ g + u = omega arith in subst (λ y. IsRow w u y to hs) same row));
    old = was_second;
    new = λ q m more less is. absurd (none_left q m more less is);
    fits = omega arith;
    within = (omega arith, omega (arith, more_too), omega arith, omega (arith, some));
    size = omega arith;
    span = in_one_span xs g h.units n.units s.in_order (s.inside g h at) (s.inside (g + h.units) n next) (omega (arith, some)) (omega (arith, more_too));
  }

  pub but_join : IsSoundBut xs w x g g
  but_join = stepped xs v w g end (g + h.units) g u u h whole join_step x s

  pub places_join : HasSamePlacesBut g v w
  places_join = places_but xs v w g end (g + h.units) g u u h whole join_step

  pub head_join : head_at w g ≡ Some whole
  head_join = (join_change v s.tiled g h n at next).new

  -- what lies behind the two
  pub behind_join : head_at w (g + u) ≡ option_map (told_prev u) (head_at v end)
  behind_join =
      let same : end ≡ g + u = omega arith in
      subst (λ y. head_at w y ≡ option_map (told_prev u) (head_at v end)) same (join_change v s.tiled g h n at next).at_end

---- A chunk is cut, and its rest is free

module _ (xs : List Span) (v : Chunks) (x : GapIndex) (g n : ℕ) (h : Head) (s : IsSoundBut xs v x g g) (at : head_at v g ≡ Some h) (front : 2 ≤ n) (back : n + 2 ≤ h.units) where
  abbrev r : ℕ
  r = h.units - n

  abbrev e : ℕ
  e = g + h.units

  abbrev k : Head
  k = record h { units = n }

  abbrev c1 : Chunks
  c1 = with_head v g (Some k)

  abbrev c2 : Chunks
  c2 = with_head c1 (g + n) (Some (gap r n))

  abbrev c : Chunks
  c = split_chunk v g h n

  untouched : (q : ℕ) → g < q → q < e → q ≢ g + n → head_at c q ≡ head_at v q
  untouched q more less other =
      off_put c2 e (option_map (told_prev r) (head_at c2 e)) q (λ z. omega arith)
      ∙ off_put c1 (g + n) (Some (gap r n)) q other ∙ off_put v g (Some k) q (λ z. omega arith)

  is_rest : (q : ℕ) (m : Head) → g < q → q < e → head_at c q ≡ Some m → (q ≡ g + n) × (m.busy ≡ false) × (q + m.units ≤ e)
  is_rest q m more less is = elim (cases_order q (g + n)) [
    | inl z ↦
        let same : gap r n ≡ m = same_head (gap r n) m (sym (second_is v s.tiled g n h at front back) ∙ subst (λ y. head_at c y ≡ Some m) z is) in
        (z, sym (ap (λ (y : Head). y.busy) same), omega (arith, ap (λ (y : Head). y.units) same))
    | inr (inl low) ↦ absurd (alone v s.tiled g h at q m more less (sym (untouched q more less (λ z. omega arith)) ∙ is))
    | inr (inr high) ↦ absurd (alone v s.tiled g h at q m more less (sym (untouched q more less (λ z. omega arith)) ∙ is))
  ]

  pub split_step : IsStep xs v c g e g (g + n) r h.units h k
  split_step = record {
    change = change v s.tiled g n h at front back;
    tiled = tiled_split v s.tiled g n h at front back;
    long = as_long c2 e (option_map (told_prev r) (head_at c2 e)) ∙ as_long c1 (g + n) (Some (gap r n)) ∙ as_long v g (Some k);
    followed = λ to hs row. (
      k ∷ gap r n ∷ hs,
      (
        (change v s.tiled g n h at front back).new,
        refl,
        (second_is v s.tiled g n h at front back, refl, let same : e ≡ g + n + r = omega arith in subst (λ y. IsRow c r y to hs) same row),
      ),
    );
    old = λ q m more less is. absurd (alone v s.tiled g h at q m more less is);
    new = is_rest;
    fits = omega arith;
    within = (omega arith, omega arith, omega arith, omega arith);
    size = refl;
    span = s.inside g h at;
  }

  -- the rest may be anything too, since it is in no index yet
  pub but_split : IsSoundBut xs c x g (g + n)
  but_split = stepped xs v c g e g (g + n) r h.units h k split_step x s

  pub places_split : HasSamePlacesBut g v c
  places_split = places_but xs v c g e g (g + n) r h.units h k split_step

  pub head_split : head_at c g ≡ Some k
  head_split = (change v s.tiled g n h at front back).new

  pub rest_split : head_at c (g + n) ≡ Some (gap r n)
  rest_split = second_is v s.tiled g n h at front back

  -- what lies behind the chunk that was cut
  pub behind_split : head_at c (g + n + r) ≡ option_map (told_prev r) (head_at v e)
  behind_split =
      let same : e ≡ g + n + r = omega arith in
      subst (λ y. head_at c y ≡ option_map (told_prev r) (head_at v e)) same (change v s.tiled g n h at front back).at_end
