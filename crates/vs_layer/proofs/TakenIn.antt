-- A chunk that takes in the gap behind it, and one that is taken into the gap in front of it.
use Rattle.std.proofs.Common.{◌≡◌, ◌≢◌, ℕ, ◌+◌, ◌-◌, ◌*◌, ◌<◌, ◌≤◌, inl, inr, Bool, true, false, eqb, List, length, Option, Some, None, if◌then◌else◌, refl, sym, ap, subst, ◌∙◌, arith}
use Rattle.std.specs.Option.{option_map}
use Rattle.std.specs.FinSet as set
use Rattle.std.proofs.lemmas.Bool.{cases_Bool, cases_lt, eqb-true, eqb-false, ne_eqb, both_ways}
use Rattle.heap_model.specs.State.{Span}
use Rattle.vs_headers.specs.declared.Head.{Head}
use Rattle.vs_split.specs.Chunks.{Chunks, head_at, told_prev, joined_chunk}
use Rattle.vs_split.specs.Tiles.{IsBehind}
use Rattle.vs_split.proofs.TileLemmas.{none_or_some, same_head}
use Rattle.vs_free_tree.specs.Gaps.{GapIndex}
use Rattle.vs_layer.specs.Kept.{place_if}
use Rattle.vs_layer.specs.Steps.{without_gap, if_free, gap_behind, gap_before, units_of_gap, TakesIn, TakesInBehind, IsTakenInto, IsTakenBefore}
use Rattle.vs_layer.specs.Sound.{HasPlainGaps}
use Rattle.vs_layer.proofs.Plain.{plain_join}
use Rattle.vs_layer.proofs.Room.{removed_len}
use Rattle.vs_layer.proofs.Changes.{IsSoundBut, HasSamePlacesBut, outside, but_gap_too, swapped, alike_told, no_place}
use Rattle.vs_layer.proofs.Steps.{has_some, join_step, but_join, places_join, head_join, behind_join}
use Rattle.vs_layer.proofs.Again.{IsPlaceBehind, IsPlaceBefore}

---- Gaps

pub record IsFreeOne (o : Option Head) (n : Head) : Type 0 where
  pub there : o ≡ Some n
  pub free : n.busy ≡ false

pub free_one : (o : Option Head) (n : Head) → if_free o ≡ Some n → IsFreeOne o n
free_one None n e = absurd (let z : ⊥ = cc in z)
free_one (Some h) n e = by h.busy refl e
  where
    by : (b : Bool) → h.busy ≡ b → (if b then None else Some h) ≡ Some n → IsFreeOne (Some h) n
    by true busy f = absurd (let z : ⊥ = cc in z)
    by false free f = let same : h ≡ n = same_head h n f in record { there = f; free = ap (λ (y : Head). y.busy) (sym same) ∙ free }

pub none_free : (o : Option Head) (n : Head) → if_free o ≡ None → o ≡ Some n → n.busy ≡ true
none_free o n e is = elim (cases_Bool n.busy) [
  | inl busy ↦ busy
  | inr free ↦ absurd (none_or_some (if_free o) n e (ap if_free is ∙ ap (λ b. if b then None else Some n) free))
]

---- Behind it

pub record HasTakenIn (xs : List Span) (v w : Chunks) (x y : GapIndex) (g : ℕ) (h : Head) : Type 0 where
  pub head : Head
  pub there : head_at w g ≡ Some head
  pub units : head.units ≡ h.units + units_of_gap (gap_behind v g h)
  pub prev : head.prev ≡ h.prev
  pub busy : head.busy ≡ h.busy
  pub but : IsSoundBut xs w y g g
  pub places : HasSamePlacesBut g v w
  pub next : IsPlaceBehind w g head
  pub key : w.key ≡ v.key
  pub long : length w.heads ≡ length v.heads
  pub fewer : set.len y.gaps ≤ set.len x.gaps
  pub capacity : y.capacity ≡ x.capacity
  pub plain : HasPlainGaps v → HasPlainGaps w

module _ (xs : List Span) (v w : Chunks) (x y : GapIndex) (g : ℕ) (h : Head) (s : IsSoundBut xs v x g g) (at : head_at v g ≡ Some h) where
  pub taken_in : TakesInBehind v w x y g h → HasTakenIn xs v w x y g h
  taken_in = by (gap_behind v g h) refl
    where
      by : (o : Option Head) → gap_behind v g h ≡ o → TakesIn v w x y g h o → HasTakenIn xs v w x y g h
      by None e t = record {
        head = h;
        there = ap (λ (c : Chunks). head_at c g) t.0 ∙ at;
        units = let none : units_of_gap (gap_behind v g h) ≡ 0 = ap units_of_gap e in omega (arith, none);
        prev = refl;
        busy = refl;
        but = subst (λ (c : Chunks). IsSoundBut xs c y g g) (sym t.0) (subst (λ (i : GapIndex). IsSoundBut xs v i g g) (sym t.1) s);
        places = λ q other. ap (λ (c : Chunks). place_if q (head_at c q)) t.0;
        next = λ n is. none_free (head_at v (g + h.units)) n e (ap (λ (c : Chunks). head_at c (g + h.units)) (sym t.0) ∙ is);
        key = ap (λ (c : Chunks). c.key) t.0;
        long = ap (λ (c : Chunks). length c.heads) t.0;
        fewer = let same : set.len y.gaps ≡ set.len x.gaps = ap (λ (i : GapIndex). set.len i.gaps) t.1 in omega (arith, same);
        capacity = ap (λ (i : GapIndex). i.capacity) t.1;
        plain = subst HasPlainGaps (sym t.0);
      }
      by (Some n) e t = subst (λ (c : Chunks). HasTakenIn xs v c x y g h) (sym t.0) (subst (λ (i : GapIndex). HasTakenIn xs v (joined_chunk v g h n.units) x i g h) (sym t.1) joined)
        where
          f : IsFreeOne (head_at v (g + h.units)) n
          f = free_one (head_at v (g + h.units)) n e

          some : 2 ≤ h.units
          some = has_some v s.tiled g h at

          out : IsSoundBut xs v (without_gap x n.units (g + h.units)) g (g + h.units)
          out = but_gap_too xs v x g (g + h.units) n s f.there f.free (λ z. omega (arith, some))

          next_place : (o : Option Head) → head_at v (g + h.units + n.units) ≡ o → (m : Head) → option_map (told_prev (h.units + n.units)) o ≡ Some m → m.busy ≡ true
          next_place o is m told =
              let a = alike_told (h.units + n.units) o m told in
              sym a.busy ∙ s.joined (g + h.units) n a.head (λ z. omega (arith, some)) (λ z. omega (arith, some)) (λ z. omega (arith, some)) (λ z. omega (arith, some)) f.there f.free (is ∙ a.was)

          joined : HasTakenIn xs v (joined_chunk v g h n.units) x (without_gap x n.units (g + h.units)) g h
          joined = record {
            head = record h { units = h.units + n.units };
            there = head_join xs v (without_gap x n.units (g + h.units)) g h n out at f.there f.free;
            units = ap (λ k. h.units + k) (sym (ap units_of_gap e));
            prev = refl;
            busy = refl;
            but = but_join xs v (without_gap x n.units (g + h.units)) g h n out at f.there f.free;
            places = places_join xs v (without_gap x n.units (g + h.units)) g h n out at f.there f.free;
            next = λ m is. next_place (head_at v (g + h.units + n.units)) refl m (sym (behind_join xs v (without_gap x n.units (g + h.units)) g h n out at f.there f.free) ∙ is);
            key = refl;
            long = (join_step xs v (without_gap x n.units (g + h.units)) g h n out at f.there f.free).long;
            fewer = removed_len x.gaps (n.units, g + h.units);
            capacity = refl;
            plain = λ p. plain_join v g h n.units p at;
          }

---- In front of it

-- the chunk h at g is part of the gap that starts at the granule of the answer, and places lie on both sides of it
pub record IsTakenUp (xs : List Span) (v w : Chunks) (x y : GapIndex) (g : ℕ) (h : Head) (answer : ℕ) : Type 0 where
  pub granule : ℕ
  pub at : answer ≡ 16 * granule
  pub head : Head
  pub there : head_at w granule ≡ Some head
  pub free : head.busy ≡ false
  pub but : IsSoundBut xs w y granule granule
  pub places : HasSamePlacesBut g v w
  pub from : granule ≤ g
  pub to : granule + head.units ≡ g + h.units
  pub next : IsPlaceBehind w granule head
  pub before : IsPlaceBefore w granule
  pub key : w.key ≡ v.key
  pub long : length w.heads ≡ length v.heads
  pub fewer : set.len y.gaps ≤ set.len x.gaps
  pub capacity : y.capacity ≡ x.capacity
  pub plain : HasPlainGaps v → HasPlainGaps w

-- two free chunks, of which neither is in the index
module _ (xs : List Span) (v : Chunks) (x : GapIndex) (b : ℕ) (p h : Head) (s : IsSoundBut xs v x (b + p.units) (b + p.units)) (at_p : head_at v b ≡ Some p) (free_p : p.busy ≡ false)
    (at : head_at v (b + p.units) ≡ Some h) (free : h.busy ≡ false) (next : IsPlaceBehind v (b + p.units) h) where
  some : 2 ≤ p.units
  some = has_some v s.tiled b p at_p

  out : IsSoundBut xs v (without_gap x p.units b) b (b + p.units)
  out = swapped xs v (without_gap x p.units b) (b + p.units) b (but_gap_too xs v x (b + p.units) b p s at_p free_p (λ z. omega (arith, some)))

  next_place : (o : Option Head) → head_at v (b + p.units + h.units) ≡ o → (m : Head) → option_map (told_prev (p.units + h.units)) o ≡ Some m → m.busy ≡ true
  next_place o is m told = let a = alike_told (p.units + h.units) o m told in sym a.busy ∙ next a.head (is ∙ a.was)

  prev_place : IsPlaceBefore (joined_chunk v b p h.units) b
  prev_place q m is end =
      let step = join_step xs v (without_gap x p.units b) b p h out at_p at free in
      let more = has_some (joined_chunk v b p h.units) step.tiled q m is in
      let a = outside xs v (joined_chunk v b p h.units) b (b + p.units + h.units) (b + p.units) b (p.units + h.units) (p.units + h.units) p
      (record p { units = p.units + h.units }) step q m (inl (omega arith)) is in
      let same : b ≡ q + a.head.units = omega (arith, a.units) in
      elim (cases_Bool a.head.busy) [
        | inl busy ↦ sym a.busy ∙ busy
        | inr gap ↦ absurd (both_ways p.busy free_p (s.joined q a.head p (λ z. omega arith) (λ z. omega arith) (λ z. omega (arith, some)) (λ z. omega (arith, some)) a.was gap
            (subst (λ z. head_at v z ≡ Some p) same at_p)))
      ]

  place_at : (q : ℕ) → place_if q (head_at (joined_chunk v b p h.units) q) ≡ place_if q (head_at v q)
  place_at q = elim (cases_Bool (eqb q b)) [
    | inl z ↦
        let here : q ≡ b = eqb-true q b z in
        no_place q (head_at (joined_chunk v b p h.units) q)
        (λ m is.
        let same = same_head (record p { units = p.units + h.units }) m (sym (head_join xs v (without_gap x p.units b) b p h out at_p at free) ∙ subst (λ y. head_at (joined_chunk v b p h.units) y ≡ Some m) here is) in
        ap (λ (y : Head). y.busy) (sym same) ∙ free_p)
        ∙ sym (no_place q (head_at v q) (λ m is. ap (λ (y : Head). y.busy) (sym (same_head p m (sym at_p ∙ subst (λ y. head_at v y ≡ Some m) here is))) ∙ free_p))
    | inr z ↦ places_join xs v (without_gap x p.units b) b p h out at_p at free q (eqb-false q b z)
  ]

  joined_front : IsTakenUp xs v (joined_chunk v b p h.units) x (without_gap x p.units b) (b + p.units) h (16 * b)
  joined_front = record {
    granule = b;
    at = refl;
    head = record p { units = p.units + h.units };
    there = head_join xs v (without_gap x p.units b) b p h out at_p at free;
    free = free_p;
    but = but_join xs v (without_gap x p.units b) b p h out at_p at free;
    places = λ q other. place_at q;
    from = omega arith;
    to = omega arith;
    next = λ m is. next_place (head_at v (b + p.units + h.units)) refl m (sym (behind_join xs v (without_gap x p.units b) b p h out at_p at free) ∙ is);
    before = prev_place;
    key = refl;
    long = (join_step xs v (without_gap x p.units b) b p h out at_p at free).long;
    fewer = removed_len x.gaps (p.units, b);
    capacity = refl;
    plain = λ a. plain_join v b p h.units a at_p;
  }

module _ (xs : List Span) (v w : Chunks) (x y : GapIndex) (g : ℕ) (h : Head) (answer : ℕ) (s : IsSoundBut xs v x g g) (at : head_at v g ≡ Some h) (free : h.busy ≡ false)
    (next : IsPlaceBehind v g h) where
  no_gap_before : gap_before v g h ≡ None → IsPlaceBefore v g
  no_gap_before e q m is end =
      let told : h.prev ≡ m.units = (s.tiled.tiles q m is).next h (subst (λ p. head_at v p ≡ Some h) (sym end) at) in
      let some = has_some v s.tiled q m is in
      let none : if_free (head_at v (g - h.prev)) ≡ None =
      sym (ap (λ b. if b then None else if_free (head_at v (g - h.prev))) (ne_eqb h.prev 0 (λ z. omega arith))) ∙ e in
      let back : q ≡ g - h.prev = omega (arith, told) in
      none_free (head_at v (g - h.prev)) m none (subst (λ p. head_at v p ≡ Some m) back is)

  pub record IsGapBefore (p : Head) : Type 0 where
    pub some : 0 < h.prev
    pub gap : IsFreeOne (head_at v (g - h.prev)) p

  a_gap_before : (p : Head) → gap_before v g h ≡ Some p → IsGapBefore p
  a_gap_before p e = by (eqb h.prev 0) refl e
    where
      by : (b : Bool) → eqb h.prev 0 ≡ b → (if b then None else if_free (head_at v (g - h.prev))) ≡ Some p → IsGapBefore p
      by true z f = absurd (let n : ⊥ = cc in n)
      by false z f = record { some = more (eqb-false h.prev 0 z); gap = free_one (head_at v (g - h.prev)) p f }
        where
          more : h.prev ≢ 0 → 0 < h.prev
          more other = elim (cases_lt 0 h.prev) [ inl l ↦ l | inr l ↦ absurd (other (omega arith)) ]

  pub taken_up : IsTakenBefore v w x y g h answer → IsTakenUp xs v w x y g h answer
  taken_up = by (gap_before v g h) refl
    where
      by : (o : Option Head) → gap_before v g h ≡ o → IsTakenInto v w x y g h answer o → IsTakenUp xs v w x y g h answer
      by None e t = subst (λ (c : Chunks). IsTakenUp xs v c x y g h answer) (sym t.0) (subst (λ (i : GapIndex). IsTakenUp xs v v x i g h answer) (sym t.1) (record {
        granule = g;
        at = t.2;
        head = h;
        there = at;
        free = free;
        but = s;
        places = λ q other. refl;
        from = omega arith;
        to = refl;
        next = next;
        before = no_gap_before e;
        key = refl;
        long = refl;
        fewer = omega arith;
        capacity = refl;
        plain = λ a. a;
      }))
      by (Some p) e t = subst (λ (c : Chunks). IsTakenUp xs v c x y g h answer) (sym t.0) (subst (λ (i : GapIndex). IsTakenUp xs v (joined_chunk v (g - h.prev) p h.units) x i g h answer) (sym t.1) joined)
        where
          a : IsGapBefore p
          a = a_gap_before p e

          k : IsBehind (head_at v) g h.prev
          k = (s.tiled.tiles g h at).behind a.some

          units : p.units ≡ h.prev
          units = ap (λ (z : Head). z.units) (same_head p k.head (sym a.gap.there ∙ k.there)) ∙ k.units

          end : g ≡ g - h.prev + p.units
          end = omega (arith, units, k.below)

          joined : IsTakenUp xs v (joined_chunk v (g - h.prev) p h.units) x (without_gap x p.units (g - h.prev)) g h answer
          joined =
              subst (λ z. IsTakenUp xs v (joined_chunk v (g - h.prev) p h.units) x (without_gap x p.units (g - h.prev)) g h z) (sym t.2)
              (subst (λ q. IsTakenUp xs v (joined_chunk v (g - h.prev) p h.units) x (without_gap x p.units (g - h.prev)) q h (16 * (g - h.prev))) (sym end)
              (joined_front xs v x (g - h.prev) p h (subst (λ q. IsSoundBut xs v x q q) end s) a.gap.there a.gap.free (subst (λ q. head_at v q ≡ Some h) end at) free
              (subst (λ q. IsPlaceBehind v q h) end next)))
