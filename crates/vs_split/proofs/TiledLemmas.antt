-- Each call keeps the chunks tiling their spans.
use Rattle.std.proofs.Common.{◌≡◌, ◌≢◌, ℕ, ◌+◌, ◌-◌, ◌*◌, ◌/◌, ◌%◌, ◌^◌, ◌<◌, ◌≤◌, inl, inr, Bool, true, false, eqb, length, get_or, replicate, Option, Some, None, refl, sym, ap, subst, ◌∙◌, arith, if◌then◌else◌}
use Rattle.std.specs.Option.{option_map}
use Rattle.std.proofs.lemmas.Bool.{cases_order, cases_lt, eqb-true, eq-eqb}
use Rattle.std.proofs.lemmas.List.{get_or-set_same, get_or-set_other, get_or-replicate, get_or_past, length-set, length-replicate}
use Rattle.vs_headers.specs.declared.Head.{Head}
use Rattle.vs_split.specs.Chunks.{Chunks, head_at, chunk_at, with_head, with_prev, told_prev, gap, split_chunk, joined_chunk}
use Rattle.vs_split.specs.Tiles.{AreSpanPages, front_of, IsClear, IsBehind, IsTile, IsTiled, IsWhole, HasNext}
use Rattle.vs_split.proofs.TileLemmas.{IsChange, none_or_some, same_head, one_tiles, two_tile}

-- what an address names
pub record IsChunkAt (v : Chunks) (addr : ℕ) (h : Head) : Type 0 where
  pub aligned : addr % 16 ≡ 0
  pub head : head_at v (addr / 16) ≡ Some h

pub chunk_of : (v : Chunks) (addr : ℕ) (h : Head) → chunk_at v addr ≡ Some h → IsChunkAt v addr h
chunk_of v addr h e = by (eqb (addr % 16) 0) refl e
  where
    by : (b : Bool) → eqb (addr % 16) 0 ≡ b → (if b then head_at v (addr / 16) else None) ≡ Some h → IsChunkAt v addr h
    by true even is = record { aligned = eqb-true _ _ even; head = is }
    by false odd is = absurd (cc)

pub granule_within : (v : Chunks) (g : ℕ) (h : Head) → head_at v g ≡ Some h → g < length v.heads
granule_within v g h e = elim (cases_lt g (length v.heads)) [
  | inl l ↦ l
  | inr past ↦ absurd (none_or_some (head_at v g) h (get_or_past v.heads g None past) e)
]

pub at_put : (v : Chunks) (g : ℕ) (o : Option Head) → g < length v.heads → head_at (with_head v g o) g ≡ o
at_put v g o l = get_or-set_same v.heads g o None l

off_put : (v : Chunks) (g : ℕ) (o : Option Head) (q : ℕ) → q ≢ g → head_at (with_head v g o) q ≡ head_at v q
off_put v g o q other = get_or-set_other v.heads g q o None other

pub as_long : (v : Chunks) (g : ℕ) (o : Option Head) → length (with_head v g o).heads ≡ length v.heads
as_long v g o = length-set v.heads g o

at_prev : (v : Chunks) (g r : ℕ) → head_at (with_prev v g r) g ≡ option_map (told_prev r) (head_at v g)
at_prev v g r = elim (cases_lt g (length v.heads)) [
  | inl l ↦ at_put v g (option_map (told_prev r) (head_at v g)) l
  | inr past ↦
      get_or_past (with_prev v g r).heads g None (omega (arith, as_long v g (option_map (told_prev r) (head_at v g))))
      ∙ sym (ap (option_map (told_prev r)) (get_or_past v.heads g None past))
]

module _ (v : Chunks) (t : IsTiled v) where
  abbrev f : ℕ → Option Head
  f = head_at v

  -- no other chunk starts inside a chunk
  alone : (g : ℕ) (h : Head) → f g ≡ Some h → (q : ℕ) (m : Head) → g < q → q < g + h.units → f q ≡ Some m → ⊥
  alone g h at q m more less is = absurd (omega (arith, (t.tiles g h at).apart q m more is))

  pub end_within : (g : ℕ) (h : Head) → f g ≡ Some h → g + h.units ≤ length v.heads
  end_within g h at = let tile = t.tiles g h at in omega (arith, granule_within v g h at, tile.one_segment, t.granules)

  pub few_granules : length v.heads ≤ 1048576
  few_granules = omega (arith, t.granules, t.few)

  prev_told : (u : ℕ) (o : Option Head) → ((n : Head) → o ≡ Some n → n.prev ≡ u) → o ≡ option_map (told_prev u) o
  prev_told u None all = refl
  prev_told u (Some n) all = ap (λ p. let k : Head = record n { prev = p } in Some k) (all n refl)

  kept : (w : Chunks) → length w.heads ≡ length v.heads → ((g : ℕ) (h : Head) → head_at w g ≡ Some h → IsTile (head_at w) g h) → IsTiled w
  kept w e tiles = record {
    segments = t.segments;
    granules = e ∙ t.granules;
    few = t.few;
    tiles = tiles;
  }

  pub tiled_set : (g : ℕ) (h k : Head) → f g ≡ Some h → k.units ≡ h.units → k.prev ≡ h.prev → IsTiled (with_head v g (Some k))
  tiled_set g h k at size prev =
      kept (with_head v g (Some k)) (as_long v g (Some k))
      (one_tiles f (head_at (with_head v g (Some k))) g (g + h.units) h.units h k t.tiles change size refl tile.some tile.one_segment tile.last
      (λ q m more less is. alone g h at q m more less (sym (off_put v g (Some k) q (λ e. omega arith)) ∙ is)))
    where
      tile : IsTile f g h
      tile = t.tiles g h at

      inside : (q : ℕ) (m : Head) → g ≤ q → q < g + h.units → f q ≡ Some m → q + m.units ≤ g + h.units
      inside q m low high is = elim (cases_order q g) [
        | inl e ↦
            let same : h ≡ m = same_head h m (sym at ∙ subst (λ y. f y ≡ Some m) e is) in
            omega (arith, ap (λ (y : Head). y.units) same)
        | inr (inl less) ↦ absurd (omega arith)
        | inr (inr more) ↦ absurd (alone g h at q m more high is)
      ]

      change : IsChange f (head_at (with_head v g (Some k))) g (g + h.units) h.units h k
      change = record {
        old = at;
        new = at_put v g (Some k) (granule_within v g h at);
        prev = prev;
        some = omega (arith, tile.some);
        below = λ q less. off_put v g (Some k) q (λ e. omega arith);
        above = λ q more. off_put v g (Some k) q (λ e. omega arith);
        at_end = off_put v g (Some k) (g + h.units) (λ e. omega (arith, tile.some)) ∙ prev_told h.units (f (g + h.units)) tile.next;
        inside = inside;
      }

  module _ (g n : ℕ) (h : Head) (at : f g ≡ Some h) (front : 2 ≤ n) (back : n + 2 ≤ h.units) where
    abbrev r : ℕ
    r = h.units - n

    abbrev e : ℕ
    e = g + h.units

    abbrev k : Head
    k = record h { units = n }

    abbrev v1 : Chunks
    v1 = with_head v g (Some k)

    abbrev v2 : Chunks
    v2 = with_head v1 (g + n) (Some (gap r n))

    abbrev w : Chunks
    w = with_prev v2 e r

    tile : IsTile f g h
    tile = t.tiles g h at

    second_within : g + n < length v1.heads
    second_within = omega (arith, as_long v g (Some k), end_within g h at)

    apart_from : (q : ℕ) → q ≢ g → q ≢ g + n → q ≢ e → head_at w q ≡ f q
    apart_from q a b c =
        off_put v2 e (option_map (told_prev r) (head_at v2 e)) q c ∙ off_put v1 (g + n) (Some (gap r n)) q b ∙ off_put v g (Some k) q a

    first_is : head_at w g ≡ Some k
    first_is =
        off_put v2 e (option_map (told_prev r) (head_at v2 e)) g (λ z. omega (arith, tile.some))
        ∙ off_put v1 (g + n) (Some (gap r n)) g (λ z. omega arith)
        ∙ at_put v g (Some k) (granule_within v g h at)

    pub second_is : head_at w (g + n) ≡ Some (gap r n)
    second_is = off_put v2 e (option_map (told_prev r) (head_at v2 e)) (g + n) (λ z. omega arith) ∙ at_put v1 (g + n) (Some (gap r n)) second_within

    end_is : head_at w e ≡ option_map (told_prev r) (f e)
    end_is =
        at_prev v2 e r
        ∙ ap (option_map (told_prev r)) (off_put v1 (g + n) (Some (gap r n)) e (λ z. omega arith) ∙ off_put v g (Some k) e (λ z. omega (arith, tile.some)))

    inside : (q : ℕ) (m : Head) → g ≤ q → q < e → f q ≡ Some m → q + m.units ≤ e
    inside q m low high is = elim (cases_order q g) [
      | inl z ↦
          let same : h ≡ m = same_head h m (sym at ∙ subst (λ y. f y ≡ Some m) z is) in
          omega (arith, ap (λ (y : Head). y.units) same)
      | inr (inl less) ↦ absurd (omega arith)
      | inr (inr more) ↦ absurd (alone g h at q m more high is)
    ]

    pub change : IsChange f (head_at w) g e r h k
    change = record {
      old = at;
      new = first_is;
      prev = refl;
      some = omega (arith, tile.some);
      below = λ q less. apart_from q (λ z. omega arith) (λ z. omega arith) (λ z. omega arith);
      above = λ q more. apart_from q (λ z. omega arith) (λ z. omega arith) (λ z. omega arith);
      at_end = end_is;
      inside = inside;
    }

    pub tiled_split : IsTiled (split_chunk v g h n)
    tiled_split =
        kept w
        (as_long v2 e (option_map (told_prev r) (head_at v2 e)) ∙ as_long v1 (g + n) (Some (gap r n)) ∙ as_long v g (Some k))
        (two_tile f (head_at w) g e n r h k t.tiles change refl refl (omega arith) front (omega arith) second_is
        (λ q m more less other is. alone g h at q m more less (sym (apart_from q (λ z. omega arith) other (λ z. omega arith)) ∙ is)))

    pub second_in : g + n < length v.heads
    second_in = omega (arith, end_within g h at)

  module _ (g : ℕ) (h n : Head) (at : f g ≡ Some h) (next : f (g + h.units) ≡ Some n) where
    tile_h : IsTile f g h
    tile_h = t.tiles g h at

    tile_n : IsTile f (g + h.units) n
    tile_n = t.tiles (g + h.units) n next

    abbrev u : ℕ
    u = h.units + n.units

    abbrev end : ℕ
    end = g + h.units + n.units

    pub one_segment : g % 65536 + u ≤ 65536
    one_segment = omega (arith, tile_h.one_segment, tile_n.usable, tile_n.one_segment)

    pub join_fits : u < 2 ^ 16
    join_fits = omega (arith, one_segment, tile_h.usable)

    abbrev whole : Head
    whole = record h { units = u }

    abbrev w1 : Chunks
    w1 = with_head v g (Some whole)

    abbrev w2 : Chunks
    w2 = with_head w1 (g + h.units) None

    abbrev w3 : Chunks
    w3 = with_prev w2 end u

    untouched : (q : ℕ) → q ≢ g → q ≢ g + h.units → q ≢ end → head_at w3 q ≡ f q
    untouched q a b c =
        off_put w2 end (option_map (told_prev u) (head_at w2 end)) q c ∙ off_put w1 (g + h.units) None q b ∙ off_put v g (Some whole) q a

    whole_is : head_at w3 g ≡ Some whole
    whole_is =
        off_put w2 end (option_map (told_prev u) (head_at w2 end)) g (λ z. omega (arith, tile_h.some))
        ∙ off_put w1 (g + h.units) None g (λ z. omega (arith, tile_h.some))
        ∙ at_put v g (Some whole) (granule_within v g h at)

    gone : head_at w3 (g + h.units) ≡ None
    gone =
        off_put w2 end (option_map (told_prev u) (head_at w2 end)) (g + h.units) (λ z. omega (arith, tile_n.some))
        ∙ at_put w1 (g + h.units) None (omega (arith, as_long v g (Some whole), granule_within v (g + h.units) n next))

    past_is : head_at w3 end ≡ option_map (told_prev u) (f end)
    past_is =
        at_prev w2 end u
        ∙ ap (option_map (told_prev u)) (off_put w1 (g + h.units) None end (λ z. omega (arith, tile_n.some)) ∙ off_put v g (Some whole) end (λ z. omega (arith, tile_h.some)))

    -- the two chunks alone start there
    two_alone : (q : ℕ) (m : Head) → g < q → q < end → q ≢ g + h.units → f q ≡ Some m → ⊥
    two_alone q m more less other is = elim (cases_order q (g + h.units)) [
      | inl z ↦ other z
      | inr (inl low) ↦ alone g h at q m more low is
      | inr (inr high) ↦ alone (g + h.units) n next q m high less is
    ]

    inside_both : (q : ℕ) (m : Head) → g ≤ q → q < end → f q ≡ Some m → q + m.units ≤ end
    inside_both q m low high is = elim (cases_order q g) [
      | inl z ↦
          let same : h ≡ m = same_head h m (sym at ∙ subst (λ y. f y ≡ Some m) z is) in
          omega (arith, ap (λ (y : Head). y.units) same)
      | inr (inl less) ↦ absurd (omega arith)
      | inr (inr more) ↦ elim (cases_order q (g + h.units)) [
        | inl z ↦
            let same : n ≡ m = same_head n m (sym next ∙ subst (λ y. f y ≡ Some m) z is) in
            omega (arith, ap (λ (y : Head). y.units) same)
        | inr (inl less) ↦ absurd (two_alone q m more high (λ z. omega arith) is)
        | inr (inr above) ↦ absurd (two_alone q m more high (λ z. omega arith) is)
      ]
    ]

    pub join_change : IsChange f (head_at w3) g end u h whole
    join_change = record {
      old = at;
      new = whole_is;
      prev = refl;
      some = omega (arith, tile_h.some);
      below = λ q less. untouched q (λ z. omega arith) (λ z. omega arith) (λ z. omega arith);
      above = λ q more. untouched q (λ z. omega arith) (λ z. omega arith) (λ z. omega arith);
      at_end = past_is;
      inside = inside_both;
    }

    only : (q : ℕ) (m : Head) → g < q → q < end → head_at w3 q ≡ Some m → ⊥
    only q m more less is = elim (cases_order q (g + h.units)) [
      | inl z ↦ none_or_some (head_at w3 (g + h.units)) m gone (subst (λ y. head_at w3 y ≡ Some m) z is)
      | inr (inl low) ↦ two_alone q m more less (λ z. omega arith) (sym (untouched q (λ z. omega arith) (λ z. omega arith) (λ z. omega arith)) ∙ is)
      | inr (inr high) ↦ two_alone q m more less (λ z. omega arith) (sym (untouched q (λ z. omega arith) (λ z. omega arith) (λ z. omega arith)) ∙ is)
    ]

    pub tiled_join : IsTiled (joined_chunk v g h n.units)
    tiled_join =
        kept w3
        (as_long w2 end (option_map (told_prev u) (head_at w2 end)) ∙ as_long w1 (g + h.units) None ∙ as_long v g (Some whole))
        (one_tiles f (head_at w3) g end u h whole t.tiles join_change refl (omega arith) (omega (arith, tile_h.some)) one_segment tile_n.last only)

-- no chunk at all
pub none_at : (v : Chunks) (n : ℕ) → v.heads ≡ replicate n None → (g : ℕ) → head_at v g ≡ None
none_at v n all_none g = ap (λ hs. get_or hs g None) all_none ∙ elim (cases_lt g n) [
  | inl l ↦ get_or-replicate n g None None l
  | inr l ↦ get_or_past (replicate n None) g None (subst (λ k. k ≤ g) (sym (length-replicate n None)) l)
]

pub tiled_empty : (v : Chunks) (segments : ℕ) → v.heads ≡ replicate (65536 * segments) None → segments ≤ 16 → IsTiled v
tiled_empty v segments all_none few = record {
  segments = segments;
  granules = ap length all_none ∙ length-replicate (65536 * segments) None;
  few = few;
  tiles = λ g h is. absurd (none_or_some (head_at v g) h (none_at v (65536 * segments) all_none g) is);
}

module _ (v : Chunks) (t : IsTiled v) (first pages : ℕ) (p : AreSpanPages v first pages) (clear : IsClear v (256 * first) (256 * (first + pages))) where
  abbrev at : ℕ → Option Head
  at = head_at v

  abbrev front : ℕ
  front = front_of first

  abbrev stop : ℕ
  stop = 256 * (first + pages)

  abbrev all : Head
  all = gap (256 * pages - 3) 0

  abbrev opened : Chunks
  opened = with_head v front (Some all)

  front_within : front < length v.heads
  front_within = omega (arith, p.there, p.least)

  front_none : at front ≡ None
  front_none = by (at front) refl
    where
      by : (o : Option Head) → at front ≡ o → at front ≡ None
      by None e = e
      by (Some h) e = elim (clear front h e) [ inl l ↦ absurd (omega arith) | inr l ↦ absurd (omega (arith, p.least)) ]

  stays : (q : ℕ) → q ≢ front → head_at opened q ≡ at q
  stays q other = off_put v front (Some all) q other

  -- no chunk of before ends here, nor lies here
  not_to : (q : ℕ) (m : Head) → at q ≡ Some m → q + m.units ≡ front → ⊥
  not_to q m is e = elim (clear q m is) [ inl l ↦ omega arith | inr l ↦ omega (arith, p.least) ]

  not_at : (q : ℕ) (m : Head) → at q ≡ Some m → q ≡ front → ⊥
  not_at q m is e = none_or_some (at front) m front_none (subst (λ y. at y ≡ Some m) e is)

  nothing_behind : (n : Head) → at stop ≡ Some n → ⊥
  nothing_behind n is = elim (cases_lt 0 n.prev) [
    | inl some ↦
        let b = (t.tiles stop n is).behind some in
        elim (clear (stop - n.prev) b.head b.there) [ inl l ↦ omega (arith, b.units, b.below, p.least) | inr l ↦ omega (arith, b.below, p.least) ]
    | inr none ↦ omega (arith, (t.tiles stop n is).first (omega arith))
  ]

  whole_span : front + all.units ≡ stop
  whole_span = omega (arith, p.least)

  new_tile : IsTile (head_at opened) front all
  new_tile = record {
    some = omega (arith, p.least);
    usable = omega (arith, p.usable);
    one_segment = omega (arith, p.usable, p.one_segment, p.least);
    next = λ n is. absurd (nothing_behind n (sym (stays stop (λ z. omega (arith, p.least))) ∙ subst (λ q. head_at opened q ≡ Some n) whole_span is));
    last = λ is. omega (arith, whole_span);
    first = λ z. omega arith;
    behind = λ some. absurd (omega arith);
    apart = λ q m more is. elim (clear q m (sym (stays q (λ z. omega arith)) ∙ is)) [
      | inl l ↦ absurd (omega arith)
      | inr l ↦ omega (arith, whole_span)
    ];
  }

  old_tile : (q : ℕ) (m : Head) → at q ≡ Some m → IsTile (head_at opened) q m
  old_tile q m is =
      let tile = t.tiles q m is in
      record {
        some = tile.some;
        usable = tile.usable;
        one_segment = tile.one_segment;
        next = λ n there. tile.next n (sym (stays (q + m.units) (not_to q m is)) ∙ there);
        last = λ none. tile.last (sym (stays (q + m.units) (not_to q m is)) ∙ none);
        first = tile.first;
        behind = λ some. let b = tile.behind some in
            record { head = b.head; below = b.below; there = stays (q - m.prev) (not_at (q - m.prev) b.head b.there) ∙ b.there; units = b.units };
        apart = λ y n more there. elim (cases_order y front) [
          | inl here ↦ elim (clear q m is) [ inl l ↦ omega arith | inr l ↦ absurd (omega (arith, p.least)) ]
          | inr (inl less) ↦ tile.apart y n more (sym (stays y (λ z. omega arith)) ∙ there)
          | inr (inr above) ↦ tile.apart y n more (sym (stays y (λ z. omega arith)) ∙ there)
        ];
      }

  pub tiled_open : IsTiled opened
  tiled_open = record {
    segments = t.segments;
    granules = as_long v front (Some all) ∙ t.granules;
    few = t.few;
    tiles = λ q m is. elim (cases_order q front) [
      | inl here ↦
          let same : all ≡ m = same_head all m (sym (at_put v front (Some all) front_within) ∙ subst (λ y. head_at opened y ≡ Some m) here is) in
          subst (λ y. IsTile (head_at opened) y m) (sym here) (subst (IsTile (head_at opened) front) same new_tile)
      | inr (inl less) ↦ old_tile q m (sym (stays q (λ z. omega arith)) ∙ is)
      | inr (inr more) ↦ old_tile q m (sym (stays q (λ z. omega arith)) ∙ is)
    ];
  }

module _ (v : Chunks) (t : IsTiled v) (first : ℕ) (h : Head) (whole : IsWhole v first h) where
  abbrev closed : Chunks
  closed = with_head v (front_of first) None

  remains : (q : ℕ) → q ≢ front_of first → head_at closed q ≡ head_at v q
  remains q other = off_put v (front_of first) None q other

  emptied : head_at closed (front_of first) ≡ None
  emptied = at_put v (front_of first) None (granule_within v (front_of first) h whole.there)

  -- a chunk that is left
  other_than : (q : ℕ) (m : Head) → head_at closed q ≡ Some m → q ≢ front_of first
  other_than q m is here = none_or_some (head_at closed (front_of first)) m emptied (subst (λ y. head_at closed y ≡ Some m) here is)

  -- none of the others ends where it began, or begins where it ended
  not_before : (q : ℕ) (m : Head) → head_at v q ≡ Some m → q + m.units ≢ front_of first
  not_before q m is here =
      let told = (t.tiles q m is).next h (subst (λ y. head_at v y ≡ Some h) (sym here) whole.there) in
      omega (arith, told, whole.first_of, (t.tiles q m is).some)

  not_after : (q : ℕ) (m : Head) → head_at v q ≡ Some m → (b : IsBehind (head_at v) q m.prev) → q - m.prev ≢ front_of first
  not_after q m is b here =
      let same : h ≡ b.head = same_head h b.head (sym whole.there ∙ subst (λ y. head_at v y ≡ Some b.head) here b.there) in
      let end : q ≡ front_of first + h.units = omega (arith, ap (λ (y : Head). y.units) same, b.units, b.below) in
      none_or_some (head_at v (front_of first + h.units)) m whole.last_of (subst (λ y. head_at v y ≡ Some m) end is)

  left_tile : (q : ℕ) (m : Head) → head_at v q ≡ Some m → IsTile (head_at closed) q m
  left_tile q m is =
      let tile = t.tiles q m is in
      record {
        some = tile.some;
        usable = tile.usable;
        one_segment = tile.one_segment;
        next = λ n there. tile.next n (sym (remains (q + m.units) (not_before q m is)) ∙ there);
        last = λ none. tile.last (sym (remains (q + m.units) (not_before q m is)) ∙ none);
        first = tile.first;
        behind = λ some. let b = tile.behind some in
            record { head = b.head; below = b.below; there = remains (q - m.prev) (not_after q m is b) ∙ b.there; units = b.units };
        apart = λ y n more there. tile.apart y n more (sym (remains y (other_than y n there)) ∙ there);
      }

  pub tiled_close : IsTiled closed
  tiled_close = record {
    segments = t.segments;
    granules = as_long v (front_of first) None ∙ t.granules;
    few = t.few;
    tiles = λ q m is. left_tile q m (sym (remains q (other_than q m is)) ∙ is);
  }

-- an address past all granules names no chunk
pub no_chunk : (v : Chunks) → IsTiled v → (addr : ℕ) → (addr % 16 ≡ 0 → 4294967295 < addr / 16) → chunk_at v addr ≡ None
no_chunk v t addr far = by (eqb (addr % 16) 0) refl
  where
    by : (b : Bool) → eqb (addr % 16) 0 ≡ b → (if b then head_at v (addr / 16) else None) ≡ None
    by true even = get_or_past v.heads (addr / 16) None (omega (arith, few_granules v t, far (eqb-true _ _ even)))
    by false odd = refl

pub chunk_there : (v : Chunks) (addr : ℕ) → addr % 16 ≡ 0 → chunk_at v addr ≡ head_at v (addr / 16)
chunk_there v addr even = ap (λ b. if b then head_at v (addr / 16) else None) (eq-eqb (addr % 16) 0 even)

-- the chunk in front of one that is not the first of its span
pub prev_chunk : (v : Chunks) → IsTiled v → (addr : ℕ) (h : Head) → chunk_at v addr ≡ Some h → 0 < h.prev → (start : ℕ) → start + 16 * h.prev ≡ addr → HasNext v start
prev_chunk v t addr h there some start from =
    let c = chunk_of v addr h there in
    let b = (t.tiles (addr / 16) h c.head).behind some in
    let g : addr / 16 - h.prev ≡ start / 16 = omega (arith, c.aligned, from) in
    record {
      head = b.head;
      next = h;
      there = chunk_there v start (omega (arith, c.aligned, from)) ∙ subst (λ q. head_at v q ≡ Some b.head) g b.there;
      behind = let back : addr / 16 ≡ start / 16 + b.head.units = omega (arith, c.aligned, from, b.units, b.below) in subst (λ q. head_at v q ≡ Some h) back c.head;
    }

pub prev_below : (v : Chunks) → IsTiled v → (addr : ℕ) (h : Head) → chunk_at v addr ≡ Some h → 16 * h.prev ≤ addr
prev_below v t addr h there = elim (cases_lt 0 h.prev) [
  | inl some ↦
      let c = chunk_of v addr h there in
      let b = (t.tiles (addr / 16) h c.head).behind some in
      omega (arith, b.below)
  | inr none ↦ omega arith
]

-- .. ends where that one starts
pub prev_meets : (v : Chunks) → IsTiled v → (addr : ℕ) (h : Head) → chunk_at v addr ≡ Some h → 0 < h.prev → (start : ℕ) → start + 16 * h.prev ≡ addr
    → (p : Head) → chunk_at v start ≡ Some p → head_at v (start / 16 + p.units) ≡ Some h
unfolding prev_chunk
prev_meets v t addr h there some start from p front =
    let b = prev_chunk v t addr h there some start from in
    subst (λ (k : Head). head_at v (start / 16 + k.units) ≡ Some h) (same_head b.head p (sym b.there ∙ front)) b.behind
