-- Chunks that tile their spans still do after a part between two granules is cut or joined.
use Rattle.std.proofs.Common.{◌≡◌, ◌≢◌, ℕ, ◌+◌, ◌-◌, ◌%◌, ◌<◌, ◌≤◌, inl, inr, Option, Some, None, refl, sym, ap, subst, ◌∙◌, arith}
use Rattle.std.specs.Option.{option_map}
use Rattle.std.proofs.lemmas.Bool.{cases_order, cases_lt}
use Rattle.vs_headers.specs.declared.Head.{Head}
use Rattle.vs_split.specs.Chunks.{told_prev, gap}
use Rattle.vs_split.specs.Tiles.{IsBehind, IsTile}

abbrev At : Type 0
At = ℕ → Option Head

pub same_head : (h k : Head) → Some h ≡ Some k → h ≡ k
same_head h k e = cc

pub none_or_some : (o : Option Head) (h : Head) → o ≡ None → o ≡ Some h → ⊥
none_or_some o h e f = absurd (cc)

told_none : (r : ℕ) (o : Option Head) → option_map (told_prev r) o ≡ None → o ≡ None
told_none r None e = refl
told_none r (Some k) e = absurd (cc)

pub record IsTold (r : ℕ) (o : Option Head) (m : Head) : Type 0 where
  pub head : Head
  pub was : o ≡ Some head
  pub is : m ≡ told_prev r head

told_some : (r : ℕ) (o : Option Head) (m : Head) → option_map (told_prev r) o ≡ Some m → IsTold r o m
told_some r None m e = absurd (cc)
told_some r (Some k) m e = record { head = k; was = refl; is = sym (same_head (told_prev r k) m e) }

-- f' is f with other chunks between g and e; the last of them has r granules
pub record IsChange (f f' : At) (g e r : ℕ) (h k : Head) : Type 0 where
  pub old : f g ≡ Some h
  pub new : f' g ≡ Some k
  pub prev : k.prev ≡ h.prev
  pub some : g < e
  pub below : (q : ℕ) → q < g → f' q ≡ f q
  pub above : (q : ℕ) → e < q → f' q ≡ f q
  pub at_end : f' e ≡ option_map (told_prev r) (f e)
  pub inside : (q : ℕ) (m : Head) → g ≤ q → q < e → f q ≡ Some m → q + m.units ≤ e

module _ (f f' : At) (g e r : ℕ) (h k : Head) (tiles : (q : ℕ) (m : Head) → f q ≡ Some m → IsTile f q m) (c : IsChange f f' g e r h k) where
  -- what lies below
  ends_below : (x : ℕ) (m : Head) → x < g → f x ≡ Some m → x + m.units ≤ g
  ends_below x m l at = (tiles x m at).apart g h l c.old

  below_next : (x t : ℕ) (m n : Head) → x < g → f x ≡ Some m → t ≡ x + m.units → f' t ≡ Some n → n.prev ≡ m.units
  below_next x t m n l at e' there = elim (cases_order t g) [
    | inl at_g ↦
        let is_k : k ≡ n = same_head k n (sym c.new ∙ subst (λ q. f' q ≡ Some n) at_g there) in
        sym (ap (λ (y : Head). y.prev) is_k) ∙ c.prev ∙ (tiles x m at).next h (subst (λ q. f q ≡ Some h) (sym at_g ∙ e') c.old)
    | inr (inl less) ↦ (tiles x m at).next n (subst (λ q. f q ≡ Some n) e' (sym (c.below t less) ∙ there))
    | inr (inr more) ↦ absurd (omega (arith, ends_below x m l at))
  ]

  below_last : (x t : ℕ) (m : Head) → x < g → f x ≡ Some m → t ≡ x + m.units → f' t ≡ None → t % 256 ≡ 0
  below_last x t m l at e' none = elim (cases_order t g) [
    | inl at_g ↦ absurd (none_or_some (f' g) k (subst (λ q. f' q ≡ None) at_g none) c.new)
    | inr (inl less) ↦ subst (λ q. q % 256 ≡ 0) (sym e') ((tiles x m at).last (subst (λ q. f q ≡ None) e' (sym (c.below t less) ∙ none)))
    | inr (inr more) ↦ absurd (omega (arith, ends_below x m l at))
  ]

  behind_below : (x prev : ℕ) → x ≤ g → 0 < prev → IsBehind f x prev → IsBehind f' x prev
  behind_below x prev l some b = record {
    head = b.head;
    below = b.below;
    there = c.below (x - prev) (omega (arith, b.below)) ∙ b.there;
    units = b.units;
  }

  tile_below : (x : ℕ) (m : Head) → x < g → f' x ≡ Some m → IsTile f' x m
  tile_below x m l there =
      let at : f x ≡ Some m = sym (c.below x l) ∙ there in
      let t = tiles x m at in
      record {
        some = t.some;
        usable = t.usable;
        one_segment = t.one_segment;
        next = λ n e'. below_next x (x + m.units) m n l at refl e';
        last = λ e'. below_last x (x + m.units) m l at refl e';
        first = t.first;
        behind = λ p. behind_below x m.prev (omega arith) p (t.behind p);
        apart = λ q n less is. elim (cases_lt q g) [
          | inl low ↦ t.apart q n less (sym (c.below q low) ∙ is)
          | inr high ↦ omega (arith, ends_below x m l at)
        ];
      }

  -- what lies above, a chunk at e with another prev
  pub record EndsBefore : Type 0 where
    pub start : ℕ
    pub head : Head
    pub from : start + r ≡ e
    pub some : 0 < r
    pub there : f' start ≡ Some head
    pub units : head.units ≡ r

  next_above : (x : ℕ) (m : Head) → e ≤ x → f x ≡ Some m → (n : Head) → f' (x + m.units) ≡ Some n → n.prev ≡ m.units
  next_above x m l at n e' = let t = tiles x m at in t.next n (sym (c.above (x + m.units) (omega (arith, t.some))) ∙ e')

  last_above : (x : ℕ) (m : Head) → e ≤ x → f x ≡ Some m → f' (x + m.units) ≡ None → (x + m.units) % 256 ≡ 0
  last_above x m l at e' = let t = tiles x m at in t.last (sym (c.above (x + m.units) (omega (arith, t.some))) ∙ e')

  apart_above : (x : ℕ) (m : Head) → e ≤ x → f x ≡ Some m → (q : ℕ) (n : Head) → x < q → f' q ≡ Some n → x + m.units ≤ q
  apart_above x m l at q n less is = (tiles x m at).apart q n less (sym (c.above q (omega arith)) ∙ is)

  tile_at_end : EndsBefore → (m : Head) → f' e ≡ Some m → IsTile f' e m
  tile_at_end z m there = subst (IsTile f' e) (sym o.is) (record {
    some = t.some;
    usable = t.usable;
    one_segment = t.one_segment;
    next = next_above e o.head (omega arith) o.was;
    last = last_above e o.head (omega arith) o.was;
    first = λ none. absurd (omega (arith, none, z.some));
    behind = λ p. record {
      head = z.head;
      below = omega (arith, z.from);
      there = let back : z.start ≡ e - r = omega (arith, z.from) in subst (λ q. f' q ≡ Some z.head) back z.there;
      units = z.units;
    };
    apart = apart_above e o.head (omega arith) o.was;
  })
    where
      o : IsTold r (f e) m
      o = told_some r (f e) m (sym c.at_end ∙ there)

      t : IsTile f e o.head
      t = tiles e o.head o.was

  behind_above : (x : ℕ) (m : Head) → e < x → IsBehind f x m.prev → 0 < m.prev → IsBehind f' x m.prev
  behind_above x m l b some = elim (cases_order (x - m.prev) e) [
    | inl at_e ↦ record {
      head = told_prev r b.head;
      below = b.below;
      there = subst (λ q. f' q ≡ Some (told_prev r b.head)) (sym at_e) (c.at_end ∙ ap (option_map (told_prev r)) (subst (λ q. f q ≡ Some b.head) at_e b.there));
      units = b.units;
    }
    | inr (inl less) ↦ absurd (elim (cases_lt (x - m.prev) g) [
      | inl low ↦ omega (arith, ends_below (x - m.prev) b.head low b.there, b.units, b.below, c.some)
      | inr high ↦ omega (arith, c.inside (x - m.prev) b.head high less b.there, b.units, b.below)
    ])
    | inr (inr more) ↦ record {
      head = b.head;
      below = b.below;
      there = c.above (x - m.prev) more ∙ b.there;
      units = b.units;
    }
  ]

  tile_above : (x : ℕ) (m : Head) → e < x → f' x ≡ Some m → IsTile f' x m
  tile_above x m l there =
      let at : f x ≡ Some m = sym (c.above x l) ∙ there in
      let t = tiles x m at in
      record {
        some = t.some;
        usable = t.usable;
        one_segment = t.one_segment;
        next = next_above x m (omega arith) at;
        last = last_above x m (omega arith) at;
        first = t.first;
        behind = λ p. behind_above x m l (t.behind p) p;
        apart = apart_above x m (omega arith) at;
      }

  pub changed : EndsBefore → ((q : ℕ) (m : Head) → g ≤ q → q < e → f' q ≡ Some m → IsTile f' q m) → (q : ℕ) (m : Head) → f' q ≡ Some m → IsTile f' q m
  changed z within q m there = elim (cases_order q e) [
    | inl at_e ↦ subst (λ y. IsTile f' y m) (sym at_e) (tile_at_end z m (subst (λ y. f' y ≡ Some m) at_e there))
    | inr (inl less) ↦ elim (cases_lt q g) [ inl low ↦ tile_below q m low there | inr high ↦ within q m high less there ]
    | inr (inr more) ↦ tile_above q m more there
  ]

  -- the end of what was changed, as the last chunk there sees it
  pub end_next : (n : Head) → f' e ≡ Some n → n.prev ≡ r
  end_next n e' = let o = told_some r (f e) n (sym c.at_end ∙ e') in ap (λ (y : Head). y.prev) o.is

  pub end_none : f' e ≡ None → f e ≡ None
  end_none e' = told_none r (f e) (sym c.at_end ∙ e')

-- one chunk fills the part that was changed
module _ (f f' : At) (g e u : ℕ) (h k : Head) (tiles : (q : ℕ) (m : Head) → f q ≡ Some m → IsTile f q m) (c : IsChange f f' g e u h k)
    (size : k.units ≡ u) (from : g + u ≡ e) (some : 2 ≤ u) (fits : g % 65536 + u ≤ 65536) (ends : f e ≡ None → e % 256 ≡ 0)
    (only : (q : ℕ) (m : Head) → g < q → q < e → f' q ≡ Some m → ⊥) where
  end_of : g + k.units ≡ e
  end_of = omega (arith, size)

  tile_one : IsTile f' g k
  tile_one =
      let t = tiles g h c.old in
      record {
        some = omega (arith, size);
        usable = t.usable;
        one_segment = omega (arith, size);
        next = λ n is. end_next f f' g e u h k tiles c n (subst (λ q. f' q ≡ Some n) end_of is) ∙ sym size;
        last = λ is. subst (λ q. q % 256 ≡ 0) (sym end_of) (ends (end_none f f' g e u h k tiles c (subst (λ q. f' q ≡ None) end_of is)));
        first = λ none. t.first (sym c.prev ∙ none);
        behind = λ p. subst (IsBehind f' g) (sym c.prev) (behind_below f f' g e u h k tiles c g h.prev (omega arith) (omega (arith, c.prev)) (t.behind (omega (arith, c.prev))));
        apart = λ q n less is. elim (cases_lt q e) [ inl low ↦ absurd (only q n less low is) | inr high ↦ omega (arith, end_of) ];
      }

  pub one_tiles : (q : ℕ) (m : Head) → f' q ≡ Some m → IsTile f' q m
  one_tiles = changed f f' g e u h k tiles c (record {
    start = g;
    head = k;
    from = from;
    some = omega arith;
    there = c.new;
    units = size;
  }) (λ q m low high is. within q m low high is)
    where
      at_g : (m : Head) → f' g ≡ Some m → IsTile f' g m
      at_g m is = subst (IsTile f' g) (same_head k m (sym c.new ∙ is)) tile_one

      within : (q : ℕ) (m : Head) → g ≤ q → q < e → f' q ≡ Some m → IsTile f' q m
      within q m low high is = elim (cases_order q g) [
        | inl at ↦ subst (λ y. IsTile f' y m) (sym at) (at_g m (subst (λ y. f' y ≡ Some m) at is))
        | inr (inl less) ↦ absurd (omega arith)
        | inr (inr more) ↦ absurd (only q m more high is)
      ]

-- two chunks fill it
module _ (f f' : At) (g e n r : ℕ) (h k : Head) (tiles : (q : ℕ) (m : Head) → f q ≡ Some m → IsTile f q m) (c : IsChange f f' g e r h k)
    (size : k.units ≡ n) (whole : g + h.units ≡ e) (from : g + n + r ≡ e) (some : 2 ≤ n) (rest : 2 ≤ r) (second : f' (g + n) ≡ Some (gap r n))
    (only : (q : ℕ) (m : Head) → g < q → q < e → q ≢ g + n → f' q ≡ Some m → ⊥) where
  front_end : g + k.units ≡ g + n
  front_end = omega (arith, size)

  tile_front : IsTile f' g k
  tile_front =
      let t = tiles g h c.old in
      record {
        some = omega (arith, size);
        usable = t.usable;
        one_segment = omega (arith, size, t.one_segment);
        next = λ m is.
            let gapped : gap r n ≡ m = same_head (gap r n) m (sym second ∙ subst (λ q. f' q ≡ Some m) front_end is) in
            sym (ap (λ (y : Head). y.prev) gapped) ∙ sym size;
        last = λ is. absurd (none_or_some (f' (g + n)) (gap r n) (subst (λ q. f' q ≡ None) front_end is) second);
        first = λ none. t.first (sym c.prev ∙ none);
        behind = λ p. subst (IsBehind f' g) (sym c.prev) (behind_below f f' g e r h k tiles c g h.prev (omega arith) (omega (arith, c.prev)) (t.behind (omega (arith, c.prev))));
        apart = λ q m less is. elim (cases_order q (g + n)) [
          | inl at ↦ omega (arith, size)
          | inr (inl low) ↦ absurd (only q m less (omega arith) (λ y. omega arith) is)
          | inr (inr high) ↦ omega (arith, size)
        ];
      }

  tile_back : IsTile f' (g + n) (gap r n)
  tile_back =
      let t = tiles g h c.old in
      record {
        some = rest;
        usable = omega (arith, t.usable, t.one_segment);
        one_segment = omega (arith, t.usable, t.one_segment);
        next = λ m is. end_next f f' g e r h k tiles c m (subst (λ q. f' q ≡ Some m) from is);
        last = λ is.
            subst (λ q. q % 256 ≡ 0) (whole ∙ sym from)
            (t.last (subst (λ q. f q ≡ None) (sym whole) (end_none f f' g e r h k tiles c (subst (λ q. f' q ≡ None) from is))));
        first = λ none. absurd (omega arith);
        behind = λ p. record {
          head = k;
          below = omega arith;
          there = let back : g ≡ g + n - n = omega arith in subst (λ q. f' q ≡ Some k) back c.new;
          units = size;
        };
        apart = λ q m less is. elim (cases_lt q e) [
          | inl low ↦ absurd (only q m (omega arith) low (λ y. omega arith) is)
          | inr high ↦ omega arith
        ];
      }

  pub two_tile : (q : ℕ) (m : Head) → f' q ≡ Some m → IsTile f' q m
  two_tile = changed f f' g e r h k tiles c (record {
    start = g + n;
    head = gap r n;
    from = from;
    some = omega arith;
    there = second;
    units = refl;
  }) (λ q m low high is. within q m low high is)
    where
      at : (y : ℕ) (j : Head) → f' y ≡ Some j → IsTile f' y j → (q : ℕ) (m : Head) → q ≡ y → f' q ≡ Some m → IsTile f' q m
      at y j is_j t q m e' is =
          subst (λ x. IsTile f' x m) (sym e') (subst (IsTile f' y) (same_head j m (sym is_j ∙ subst (λ x. f' x ≡ Some m) e' is)) t)

      within : (q : ℕ) (m : Head) → g ≤ q → q < e → f' q ≡ Some m → IsTile f' q m
      within q m low high is = elim (cases_order q g) [
        | inl here ↦ at g k c.new tile_front q m here is
        | inr (inl less) ↦ absurd (omega arith)
        | inr (inr more) ↦ elim (cases_order q (g + n)) [
          | inl there ↦ at (g + n) (gap r n) second tile_back q m there is
          | inr (inl less) ↦ absurd (only q m more high (λ y. omega arith) is)
          | inr (inr above) ↦ absurd (only q m more high (λ y. omega arith) is)
        ]
      ]
