-- The chunks are those that the definitions of the heap show: its places and its gaps.
use Rattle.std.proofs.Common.{◌≡◌, ℕ, ◌+◌, ◌-◌, ◌*◌, ◌/◌, ◌<◌, inl, inr, Bool, true, false, List, Option, Some, None, refl, sym, ap, subst, ◌∙◌, arith}
use Rattle.std.specs.Prelude.{option_map, unwrap_or}
use Rattle.std.specs.Option.{option_or}
use Rattle.std.specs.List.{find}
use Rattle.std.proofs.lemmas.Bool.{cases_Bool, cases_lt, eqb-true, eq-eqb, ne_eqb, both_ways}
use Rattle.heap_model.specs.Runs.{Run}
use Rattle.heap_model.specs.State.{Place, has_address}
use Rattle.heap_soundness.specs.Sound.{IsOneOf}
use Rattle.heap_soundness.proofs.Lists.{found_passes, found_in, find_some}
use Rattle.vs_headers.specs.declared.Head.{Head}
use Rattle.vs_headers.specs.Headers.{IsHead}
use Rattle.vs_split.specs.Chunks.{head_at}
use Rattle.vs_split.specs.Tiles.{IsBehind}
use Rattle.vs_split.specs.Shown.{place_from, place_to, gap_from, gap_to, units_to, place_head, gap_head, head_shown}
use Rattle.vs_split.proofs.TileLemmas.{same_head, none_or_some}
use Rattle.vs_layer.specs.Kept.{VsKept, place_of, places_of, gaps_in}
use Rattle.vs_layer.specs.Effects.{ShowsChunks}
use Rattle.vs_layer.specs.Sound.{AreChunksSound, HasPlainGaps, IsSized}
use Rattle.vs_layer.proofs.Places.{place_found, in_places}
use Rattle.vs_layer.proofs.Gaps.{run_of, find_only, find_none, gap_free, free_in, gap_found, no_gap}

---- Places and chunks

record IsPlaceAt (k : VsKept) (g : ℕ) (h : Head) (p : Place) : Type 0 where
  there : head_at k.chunks g ≡ Some h
  busy : h.busy ≡ true
  is : place_of g h ≡ p

place_in : (k : VsKept) (p : Place) → IsOneOf p (places_of k) → (g : ℕ) × (h : Head) × IsPlaceAt k g h p
place_in k p i =
    let c = in_places 0 k.chunks.heads p i in
    let same : c.1.index ≡ c.0 = omega (arith, c.1.granule) in
    (c.0, c.1.head, record { there = subst (λ g. head_at k.chunks g ≡ Some c.1.head) same c.1.there; busy = c.1.busy; is = c.1.is })

not_found : {A : Type 0} (t : A → Bool) (xs : List A) (x : A) → find t xs ≡ None → IsOneOf x xs → t x ≡ true → ⊥
not_found t xs x e i h = let f = find_some t xs x i h in none_here (find t xs) f.0 e f.1
  where
    none_here : {A : Type 0} (o : Option A) (y : A) → o ≡ None → o ≡ Some y → ⊥
    none_here o y e f = cc

---- What is shown

module _ (k : VsKept) (s : AreChunksSound k) (plain : HasPlainGaps k.chunks) where
  abbrev at : ℕ → Option Head
  at g = head_at k.chunks g

  -- the chunk whose place ends where another starts
  place_before : (g : ℕ) (h : Head) (p : Place) → at g ≡ Some h → IsOneOf p (places_of k) → place_to g p ≡ true → h.prev ≡ p.granules
  place_before g h p is i e =
      let c = place_in k p i in
      let start : 16 * c.0 ≡ p.start = ap (λ (q : Place). q.start) c.2.is in
      let units : c.1.units ≡ p.granules = ap (λ (q : Place). q.granules) c.2.is in
      let end : c.0 + c.1.units ≡ g = omega (arith, eqb-true _ _ e) in
      (s.tiled.tiles c.0 c.1 c.2.there).next h (ap at end ∙ is) ∙ units

  gap_before : (g : ℕ) (h : Head) (r : Run) → at g ≡ Some h → IsOneOf r (gaps_in k) → gap_to g r ≡ true → h.prev ≡ r.count
  gap_before g h r is i e =
      let f = gap_free k s r i in
      let end : r.first + f.head.units ≡ g = omega (arith, f.units, eqb-true _ _ e) in
      (s.tiled.tiles r.first f.head f.there).next h (ap at end ∙ is) ∙ f.units

  place_at : (g : ℕ) (h : Head) → at g ≡ Some h → h.busy ≡ true → IsOneOf (place_of g h) (places_of k)
  place_at g h is busy = found_in (has_address (16 * g + 16)) (places_of k) (place_of g h) (place_found k.chunks g h is busy)

  -- the size of the chunk before, which a header tells
  units_before : (g : ℕ) (h : Head) → at g ≡ Some h → units_to k.spans (places_of k) g ≡ h.prev
  units_before g h is = by_place (find (place_to g) (places_of k)) refl (find (gap_to g) (gaps_in k)) refl
    where
      front : (p : Option Place) (r : Option Run) → find (place_to g) (places_of k) ≡ p → find (gap_to g) (gaps_in k) ≡ r
          → units_to k.spans (places_of k) g ≡ unwrap_or (option_or (option_map (λ (q : Place). q.granules) p) (option_map (λ (q : Run). q.count) r)) 0
      front p r e f =
          ap (λ o. unwrap_or (option_or (option_map (λ (q : Place). q.granules) o) (option_map (λ (q : Run). q.count) (find (gap_to g) (gaps_in k)))) 0) e
          ∙ ap (λ o. unwrap_or (option_or (option_map (λ (q : Place). q.granules) p) (option_map (λ (q : Run). q.count) o)) 0) f

      none_behind : find (place_to g) (places_of k) ≡ None → find (gap_to g) (gaps_in k) ≡ None → 0 < h.prev → IsBehind at g h.prev → ⊥
      none_behind e f some b =
          let j : ℕ = g - h.prev in
          let end : j + b.head.units ≡ g = omega (arith, b.units, b.below) in
          elim (cases_Bool b.head.busy) [
            | inl busy ↦
                let start : 16 * j / 16 ≡ j = omega arith in
                not_found (place_to g) (places_of k) (place_of j b.head) e (place_at j b.head b.there busy)
                (eq-eqb (16 * j / 16 + b.head.units) g (omega arith))
            | inr free ↦ not_found (gap_to g) (gaps_in k) (run_of j b.head.units) f (free_in k s j b.head b.there free) (eq-eqb (j + b.head.units) g end)
          ]

      by_place : (p : Option Place) → find (place_to g) (places_of k) ≡ p → (r : Option Run) → find (gap_to g) (gaps_in k) ≡ r → units_to k.spans (places_of k) g ≡ h.prev
      by_place (Some p) e r f =
          front (Some p) r e f ∙ sym (place_before g h p is (found_in (place_to g) (places_of k) p e) (found_passes (place_to g) (places_of k) p e))
      by_place None e (Some r) f =
          front None (Some r) e f ∙ sym (gap_before g h r is (found_in (gap_to g) (gaps_in k) r f) (found_passes (gap_to g) (gaps_in k) r f))
      by_place None e None f = front None None e f ∙ elim (cases_lt 0 h.prev) [
        | inl some ↦ absurd (none_behind e f some ((s.tiled.tiles g h is).behind some))
        | inr none ↦ omega arith
      ]

  -- the place that starts at a granule
  place_starts : (g : ℕ) (h : Head) → at g ≡ Some h → h.busy ≡ true → find (place_from g) (places_of k) ≡ Some (place_of g h)
  place_starts g h is busy = find_only (place_from g) (place_of g h) (places_of k) (place_at g h is busy) (eq-eqb (16 * g) (16 * g) refl) (λ p i e.
      let c = place_in k p i in
      let start : 16 * c.0 ≡ p.start = ap (λ (q : Place). q.start) c.2.is in
      let here : p.start ≡ 16 * g = eqb-true p.start (16 * g) e in
      let same : c.0 ≡ g = omega arith in
      let one : c.1 ≡ h = same_head c.1 h (sym c.2.there ∙ ap at same ∙ is) in
      sym c.2.is ∙ ap (λ n. place_of n c.1) same ∙ ap (place_of g) one)

  no_place : (g : ℕ) → ((h : Head) → at g ≡ Some h → h.busy ≡ false) → find (place_from g) (places_of k) ≡ None
  no_place g free = find_none (place_from g) (places_of k) (λ p i. ne_eqb p.start (16 * g) (λ here.
      let c = place_in k p i in
      let start : 16 * c.0 ≡ p.start = ap (λ (q : Place). q.start) c.2.is in
      let same : c.0 ≡ g = omega arith in
      both_ways c.1.busy (free c.1 (sym (ap at same) ∙ c.2.there)) c.2.busy))

  abbrev shown_by : ℕ → ℕ → Option Place → Option Run → Option Head
  shown_by g u p r = option_or (option_map (place_head u) p) (option_map (gap_head u) r)

  shown : (g u : ℕ) (p : Option Place) (r : Option Run) → units_to k.spans (places_of k) g ≡ u → find (place_from g) (places_of k) ≡ p → find (gap_from g) (gaps_in k) ≡ r
      → head_shown k.spans (places_of k) g ≡ shown_by g u p r
  shown g u p r a b c = λ i. shown_by g (a i) (b i) (c i)

  unused_is : (h : Head) → IsSized h → 16 * (h.units - 1) - (16 * (h.units - 1) - h.unused) ≡ h.unused
  unused_is h z = omega (arith, z.unused)

  head_is : (g : ℕ) (o : Option Head) → at g ≡ o → o ≡ head_shown k.spans (places_of k) g
  head_is g None e =
      sym (shown g (units_to k.spans (places_of k) g) None None refl
      (no_place g (λ h is. absurd (none_or_some (at g) h e is)))
      (no_gap k s g (λ h is. absurd (none_or_some (at g) h e is))))
  head_is g (Some h) e = elim (cases_Bool h.busy) [
    | inl busy ↦
        let told = shown g h.prev (Some (place_of g h)) (find (gap_from g) (gaps_in k)) (units_before g h e) (place_starts g h e busy) refl in
        sym (told ∙ ap (λ (m : Head). let o : Option Head = Some m in o) (λ i. record { units = h.units; prev = h.prev; unused = unused_is h (s.sized g h e busy) i; busy = sym busy i }))
    | inr free ↦
        let none = no_place g (λ m is. ap (λ (x : Head). x.busy) (same_head m h (sym is ∙ e)) ∙ free) in
        let told = shown g h.prev None (Some (run_of g h.units)) (units_before g h e) none (gap_found k s g h e free) in
        sym (told ∙ ap (λ (m : Head). let o : Option Head = Some m in o) (λ i. record { units = h.units; prev = h.prev; unused = sym (plain g h e free) i; busy = sym free i }))
  ]

  ---- Widths

  short : (g : ℕ) (h : Head) → at g ≡ Some h → h.units < 65536
  short g h e = let t = s.tiled.tiles g h e in omega (arith, t.usable, t.one_segment)

  little_unused : (g : ℕ) (h : Head) → at g ≡ Some h → h.unused < 256
  little_unused g h e = elim (cases_Bool h.busy) [
    | inr free ↦ omega (arith, plain g h e free)
    | inl busy ↦ little (s.sized g h e busy)
  ]
    where
      little : IsSized h → h.unused < 256
      little z = elim z.units [ inl u ↦ omega (arith, u, z.unused) | inr u ↦ omega (arith, u, z.unused) ]

  width : (g : ℕ) (h : Head) → at g ≡ Some h → IsHead h
  width g h e = record {
    units = short g h e;
    prev = elim (cases_lt 0 h.prev) [
      | inr none ↦ omega arith
      | inl some ↦ let b = (s.tiled.tiles g h e).behind some in omega (arith, b.units, short (g - h.prev) b.head b.there)
    ];
    unused = little_unused g h e;
  }

  pub shows_chunks : ShowsChunks k
  shows_chunks = record { heads = λ g. head_is g (at g) refl; rows = s.rows; widths = width }
