-- A block that is placed in the gap that the index answered.
use Rattle.std.proofs.Common.{◌≡◌, ℕ, ◌+◌, ◌-◌, ◌*◌, ◌/◌, ◌<◌, ◌≤◌, ◌⊎◌, inl, inr, true, false, List, length, Option, Some, if◌then◌else◌, refl, sym, ap, subst, ◌∙◌, arith}
use Rattle.std.specs.Option.{MatchOption}
use Rattle.std.specs.FinSet as finset
use Rattle.std.proofs.lemmas.Bool.{cases_lt, false_from_ne_true, lt-ltb, le-ltb}
use Rattle.heap_model.specs.Geometry.{units_of}
use Rattle.heap_model.specs.Buckets.{bucket_of}
use Rattle.heap_model.specs.State.{insert_place}
use Rattle.heap_model.specs.Runs.{Run}
use Rattle.heap_model.specs.Ranges.{taken_of, vs_place}
use Rattle.vs_headers.specs.declared.Head.{Head}
use Rattle.vs_split.specs.Chunks.{Chunks, head_at, chunk_at, with_head, split_chunk}
use Rattle.vs_split.proofs.TiledLemmas.{chunk_there, granule_within, few_granules}
use Rattle.vs_free_tree.specs.Gaps.{GapIndex, Gaps, NoneFits, IsBest}
use Rattle.vs_layer.specs.Kept.{VsKept, place_of, places_from, places_of, gaps_in, place_for, block_in}
use Rattle.vs_layer.specs.Counted.{one_more, once_more, CanGrow}
use Rattle.vs_layer.specs.Effects.{HasPlaced}
use Rattle.vs_layer.specs.Steps.{with_gap, without_gap}
use Rattle.vs_layer.specs.Sound.{IsSized, is_gap_at, IsIndexOf, HasPlainGaps, AreCounted, IsSound}
use Rattle.vs_layer.proofs.Best.{IsGapHere, best_gap, best_fits, gap_at_is}
use Rattle.vs_layer.proofs.Changes.{IsSoundBut, but_gap}
use Rattle.vs_layer.proofs.Counts.{can_grow, counted_placed, served_once}
use Rattle.vs_layer.proofs.Cutting.{HasCut, has_cut, IsPlaced, has_placed}
use Rattle.vs_layer.proofs.Gaps.{run_of}
use Rattle.vs_layer.proofs.Places.{busy_is, but_made}
use Rattle.vs_layer.proofs.Room.{removed_len, spare_room}
use Rattle.vs_layer.proofs.Steps.{alone}

pub units_two : (n : ℕ) → 2 ≤ units_of n
units_two n = omega arith

-- at most one granule more than is needed
pub taken_units : (n all : ℕ) → n ≤ all → (taken_of n all ≡ n) ⊎ (taken_of n all ≡ n + 1)
taken_units n all l = elim (cases_lt (all - n) 2) [
  | inl less ↦ by less (ap (λ b. if b then all else n) (lt-ltb (all - n) 2 less)) (cases_lt n all)
  | inr more ↦ inl (ap (λ b. if b then all else n) (le-ltb (all - n) 2 more))
]
  where
    by : all - n < 2 → taken_of n all ≡ all → (n < all) ⊎ (all ≤ n) → (taken_of n all ≡ n) ⊎ (taken_of n all ≡ n + 1)
    by less e (inl a) = inr (omega arith)
    by less e (inr a) = inl (omega arith)

-- granules of a block of n bytes, and what it does not use of them
pub is_sized : (n taken unused : ℕ) (h : Head) → n ≤ 131072 → (taken ≡ units_of n) ⊎ (taken ≡ units_of n + 1) → n + unused ≡ 16 * (taken - 1) → h.units ≡ taken → h.unused ≡ unused → IsSized h
is_sized n taken unused h most units u a b = record {
  size = n;
  unused = omega (arith, u, a, b);
  most = most;
  units = subst (λ j. (j ≡ units_of n) ⊎ (j ≡ units_of n + 1)) (sym a) units;
}

-- the place of a head with such granules
pub place_is : (g n taken unused : ℕ) (h : Head) → n + unused ≡ 16 * (taken - 1) → h.units ≡ taken → h.unused ≡ unused → place_of g h ≡ block_in (run_of g taken) n
place_is g n taken unused h u a b =
    let size : 16 * (h.units - 1) - h.unused ≡ n = omega (arith, u, a, b) in
    ap (λ j. block_in (run_of g h.units) j) size ∙ ap (λ j. block_in (run_of g j) n) a

-- a chunk by its address
pub chunk_by : (v : Chunks) (start g : ℕ) (h : Head) → start ≡ 16 * g → head_at v g ≡ Some h → chunk_at v start ≡ Some h
chunk_by v start g h e is =
    let there : start / 16 ≡ g = omega arith in
    chunk_there v start (omega arith) ∙ ap (head_at v) there ∙ is

module _ (k : VsKept) (told live : List ℕ) (x : GapIndex) (i : IsSound k told x live) (n u all g : ℕ) (most : n ≤ 131072) (eu : u ≡ units_of n) (best : IsBest u x.gaps (all, g)) (x1 : GapIndex) (ex : x1 ≡ without_gap x all g) where
  abbrev v : Chunks
  v = k.chunks

  two : 2 ≤ u
  two = omega (arith, eu, units_two n)

  pub here : IsGapHere v all g
  here = best_gap k i.chunks x i.index u all g best.held

  start_sound : IsSoundBut k.spans v x1 g g
  start_sound =
      subst (λ z. IsSoundBut k.spans v z g g) (sym ex)
      (subst (λ m. IsSoundBut k.spans v (without_gap x m g) g g) here.units (but_gap k x g here.head i.chunks i.index here.there here.free))

  pub room : finset.len x1.gaps < x1.capacity
  room =
      let spare = spare_room v x i.chunks.tiled i.chunks.joined i.index (omega (arith, granule_within v g here.head here.there)) in
      subst (λ (z : GapIndex). finset.len z.gaps < z.capacity) (sym ex) (omega (arith, spare, removed_len x.gaps (all, g)))

  pub absent : (start : ℕ) → start ≡ 16 * g → u + 2 ≤ all → finset.contains x1.gaps (all - u, start / 16 + u) ≡ false
  absent start e l =
      let at : g + u ≡ start / 16 + u = omega arith in
      subst (λ q. finset.contains x1.gaps (all - u, q) ≡ false) at
      (start_sound.gaps (all - u) (g + u) (λ z. omega (arith, two)) (λ z. omega (arith, two)) ∙ false_from_ne_true (is_gap_at v (all - u) (g + u)) (λ t.
      let r = gap_at_is v (all - u) (g + u) t in
      alone v i.chunks.tiled g here.head here.there (g + u) r.head (omega (arith, two)) (omega (arith, here.units)) r.there))

  next_busy : (m : Head) → head_at v (g + here.head.units) ≡ Some m → m.busy ≡ true
  next_busy m is = i.chunks.joined g here.head m here.there here.free is

  pub place_there : place_for k n ≡ Some (run_of g (taken_of u all))
  place_there = ap (vs_place (gaps_in k)) (sym eu) ∙ best_fits k i.chunks x i.index u all g best

  module _ (start : ℕ) (es : start ≡ 16 * g) (w : Chunks) (y : GapIndex) (taken : ℕ) (et : taken ≡ taken_of u all) (whole : all < u + 2 → (w ≡ v) × (y ≡ x1))
      (chunks : u + 2 ≤ all → (h : Head) → chunk_at v start ≡ Some h → w ≡ split_chunk v (start / 16) h u) (index : u + 2 ≤ all → y ≡ with_gap x1 (all - u) (start / 16 + u)) where
    at : start / 16 ≡ g
    at = omega arith

    abbrev h : Head
    h = here.head

    cut : HasCut k.spans v w y g h taken
    cut = has_cut k.spans v x1 g u h start_sound here.there two next_busy w y taken
        (et ∙ ap (taken_of u) (sym here.units)) (omega (arith, here.units, best.fits))
        (λ l. whole (omega (arith, here.units)))
        (λ l. chunks (omega (arith, here.units)) h (chunk_by v start g h es here.there) ∙ ap (λ q. split_chunk v q h u) at)
        (λ l. index (omega (arith, here.units)) ∙ ap (λ q. with_gap x1 (all - u) (q + u)) at ∙ ap (λ q. with_gap x1 (q - u) (g + u)) (sym here.units))

    pub chunk_cut : chunk_at w start ≡ Some (record here.head { units = taken })
    chunk_cut = chunk_by w start g (record here.head { units = taken }) es cut.there

    abbrev done : ℕ → Head
    done unused = record here.head { units = taken; unused = unused; busy = true }

    module _ (unused : ℕ) (fits : n + unused ≡ 16 * (taken - 1)) (z : Chunks)
        (set : (m : Head) → chunk_at w start ≡ Some m → z ≡ with_head w (start / 16) (Some (record m { unused = unused; busy = true }))) where
      needed : (taken ≡ u) ⊎ (taken ≡ u + 1)
      needed = subst (λ j. (j ≡ u) ⊎ (j ≡ u + 1)) (sym et) (taken_units u all best.fits)

      is_placed : IsPlaced k.spans w z y g (done unused)
      is_placed =
          subst (λ c. IsPlaced k.spans w c y g (done unused)) (sym (set (record here.head { units = taken }) chunk_cut ∙ ap (λ q. with_head w q (Some (done unused))) at))
          (has_placed k.spans w y g unused (record here.head { units = taken }) cut.sound cut.there (is_sized n taken unused (done unused) most (subst (λ j. (taken ≡ j) ⊎ (taken ≡ j + 1)) eu needed) fits refl refl))

      pub places_placed : places_from 0 z.heads ≡ insert_place (block_in (run_of g taken) n) (places_from 0 v.heads)
      places_placed =
          but_made v z g (is_placed.long ∙ cut.long) (λ q other. is_placed.places q other ∙ cut.places q other) (done unused)
          (granule_within v g h here.there) (busy_is (head_at v g) h here.there ∙ here.free) is_placed.there refl
          ∙ ap (λ p. insert_place p (places_from 0 v.heads)) (place_is g n taken unused (done unused) fits refl refl)

      module _ (m : VsKept) (spans : m.spans ≡ k.spans) (chunks_are : m.chunks ≡ z) (served : m.served ≡ once_more (bucket_of n) k.served) (active : m.active ≡ k.active) where
        places_are : places_of m ≡ insert_place (block_in (run_of g taken) n) (places_of k)
        places_are = ap (λ (c : Chunks). places_from 0 c.heads) chunks_are ∙ places_placed

        pub sound_placed : (live2 : List ℕ) → live2 ≡ one_more (bucket_of n) live → IsSound m told y live2
        sound_placed live2 el = record {
          spans = spans ∙ i.spans;
          granules = ap (λ (c : Chunks). length c.heads) chunks_are ∙ is_placed.long ∙ cut.long ∙ i.granules;
          chunks = is_placed.sound m spans chunks_are;
          plain = subst HasPlainGaps (sym chunks_are) (is_placed.plain (cut.plain i.plain));
          index = subst (λ c. IsIndexOf c y) (sym chunks_are) is_placed.index;
          counted = subst (AreCounted m) (sym el) (counted_placed k m live n (block_in (run_of g taken) n) i.counted (λ b. refl) places_are served active);
        }

        pub result_placed : HasPlaced k m n (start + 16)
        result_placed = record {
          run = run_of g taken;
          place = place_there ∙ ap (λ j. let o : Option Run = Some (run_of g j) in o) (sym et);
          address = omega (arith, es);
          places = places_are;
          spans = spans;
          served = served_once k m live n i.counted served;
          active = active;
          heap = record { key = ap (λ (c : Chunks). c.key) chunks_are ∙ is_placed.key ∙ cut.key; granules = ap (λ (c : Chunks). length c.heads) chunks_are ∙ is_placed.long ∙ cut.long };
        }

-- each counter can grow
pub counters_grow : (k : VsKept) (told live : List ℕ) (x : GapIndex) → IsSound k told x live → CanGrow live
counters_grow k told live x i = can_grow k live i.counted (omega (arith, few_granules k.chunks i.chunks.tiled))

-- what is answered for a size, where something is
pub best_from : (u : ℕ) (gaps : Gaps) (o : Option (ℕ × ℕ)) (p : ℕ × ℕ) → o ≡ Some p → MatchOption o (NoneFits u gaps) (IsBest u gaps) → IsBest u gaps p
best_from u gaps o p e m = subst (λ q. MatchOption q (NoneFits u gaps) (IsBest u gaps)) e m

-- the same of an equal state
pub of_same : (k j m : VsKept) (n addr : ℕ) → k ≡ j → HasPlaced k m n addr → HasPlaced j m n addr
of_same k j m n addr e h = subst (λ y. HasPlaced y m n addr) e h
