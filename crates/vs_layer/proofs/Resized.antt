-- A block that gets another size where it is.
use Rattle.std.proofs.Common.{◌≡◌, ℕ, ◌+◌, ◌-◌, ◌*◌, ◌/◌, ◌<◌, ◌≤◌, ◌⊎◌, Bool, true, false, leb, List, length, Option, Some, refl, sym, ap, subst, ◌∙◌, arith}
use Rattle.std.specs.FinSet as finset
use Rattle.std.proofs.lemmas.Bool.{and_parts, leb-true, false_from_ne_true}
use Rattle.heap_model.specs.Geometry.{units_of}
use Rattle.heap_model.specs.Buckets.{bucket_of}
use Rattle.heap_model.specs.State.{Place, has_address, change_found}
use Rattle.heap_model.specs.Legal.{resize_place}
use Rattle.heap_model.specs.Ranges.{taken_of}
use Rattle.vs_headers.specs.declared.Head.{Head}
use Rattle.vs_split.specs.Chunks.{Chunks, head_at, chunk_at, with_head, split_chunk}
use Rattle.vs_split.specs.Tiles.{IsTiled}
use Rattle.vs_split.proofs.TiledLemmas.{chunk_of, granule_within}
use Rattle.vs_free_tree.specs.Gaps.{GapIndex}
use Rattle.vs_layer.specs.Kept.{VsKept, place_of, places_from, places_of, block_at, block_in, reach_of, lets_stay}
use Rattle.vs_layer.specs.Counted.{one_more, one_less, IsSomeLeft}
use Rattle.vs_layer.specs.Effects.{HasResized}
use Rattle.vs_layer.specs.Steps.{with_gap, gap_behind, units_of_gap, TakesInBehind}
use Rattle.vs_layer.specs.Sound.{IsSized, is_gap_at, IsIndexOf, HasPlainGaps, AreCounted, IsSound}
use Rattle.vs_layer.proofs.Best.{gap_at_is}
use Rattle.vs_layer.proofs.Blocks.{address_of, block_here, chunk_asked, busy_found}
use Rattle.vs_layer.proofs.Changes.{but_place}
use Rattle.vs_layer.proofs.Counts.{counted_resized, some_left}
use Rattle.vs_layer.proofs.Cutting.{HasCut, has_cut, IsPlaced, has_placed}
use Rattle.vs_layer.proofs.Gaps.{run_of}
use Rattle.vs_layer.proofs.Placed.{units_two, taken_units, is_sized, place_is, chunk_by}
use Rattle.vs_layer.proofs.Places.{but_changed}
use Rattle.vs_layer.proofs.Reach.{reach_is}
use Rattle.vs_layer.proofs.Room.{spare_room}
use Rattle.vs_layer.proofs.Steps.{alone}
use Rattle.vs_layer.proofs.TakenIn.{HasTakenIn, taken_in}

-- a block with this head begins at the address
pub record IsHere (k : VsKept) (addr : ℕ) (h : Head) : Type 0 where
  pub low : 16 ≤ addr
  pub there : chunk_at k.chunks (addr - 16) ≡ Some h
  pub busy : h.busy ≡ true

-- the head that was read
pub here_from : (k j : VsKept) (addr : ℕ) (p : Place) (h : Head) (o : Option Head) → k ≡ j → block_at j addr ≡ Some p → o ≡ chunk_at k.chunks (addr - 16) → o ≡ Some h → IsHere k addr h
here_from k j addr p h o same block read is =
    let e : block_at k addr ≡ Some p = ap (λ y. block_at y addr) same ∙ block in
    record { low = (chunk_asked k addr p e).low; there = sym read ∙ is; busy = busy_found k addr p h e (sym read ∙ is) }

pub stays_from : (k j : VsKept) (addr n : ℕ) (h : Head) (b : Bool) → k ≡ j → IsHere k addr h → ((p : Place) → block_at j addr ≡ Some p → b ≡ lets_stay j p n) → b ≡ true → lets_stay k (place_of ((addr - 16) / 16) h) n ≡ true
stays_from k j addr n h b same here told passed =
    ap (λ y. lets_stay y (place_of ((addr - 16) / 16) h) n) same
    ∙ sym (told (place_of ((addr - 16) / 16) h) (ap (λ y. block_at y addr) (sym same) ∙ block_here k addr h here.low here.there here.busy)) ∙ passed

module _ (k : VsKept) (told live : List ℕ) (x : GapIndex) (i : IsSound k told x live) (addr n : ℕ) (h : Head) (here : IsHere k addr h) where
  abbrev v : Chunks
  v = k.chunks

  abbrev g : ℕ
  g = (addr - 16) / 16

  low : 16 ≤ addr
  low = here.low

  there : chunk_at v (addr - 16) ≡ Some h
  there = here.there

  busy : h.busy ≡ true
  busy = here.busy

  at : head_at v g ≡ Some h
  at = (chunk_of v (addr - 16) h there).head

  address : addr ≡ 16 * g + 16
  address = address_of v addr h low there

  start : addr - 16 ≡ 16 * g
  start = omega (arith, address)

  found : block_at k addr ≡ Some (place_of g h)
  found = block_here k addr h low there busy

  sized : IsSized h
  sized = i.chunks.sized g h at busy

  -- what its block does not use
  pub unused_within : h.unused ≤ 16 * (h.units - 1)
  unused_within = omega (arith, sized.unused)

  pub size_left : (size : ℕ) → size ≡ 16 * (h.units - 1) - h.unused → IsSomeLeft (bucket_of size) live
  size_left size e = subst (λ m. IsSomeLeft (bucket_of m) live) (sym e) (some_left k live (16 * (h.units - 1) - h.unused) (has_address addr) (place_of g h) i.counted (λ b. refl) found)

  module _ (stays : lets_stay k (place_of g h) n ≡ true) (u : ℕ) (eu : u ≡ units_of n) (all : ℕ) (er : all ≡ h.units + units_of_gap (gap_behind v g h))
      (v1 : Chunks) (x1 : GapIndex) (takes : TakesInBehind v v1 x x1 g h) where
    pub most : n ≤ 131072
    most = leb-true n 131072 (and_parts (leb n 131072) (leb (units_of n) (reach_of k (place_of g h))) stays).0

    reach : all ≡ reach_of k (place_of g h)
    reach = er ∙ sym (reach_is k i.chunks g h)

    pub two : (2 ≤ u) × (u ≤ all)
    two =
        let fits = leb-true (units_of n) (reach_of k (place_of g h)) (and_parts (leb n 131072) (leb (units_of n) (reach_of k (place_of g h))) stays).1 in
        (omega (arith, eu, units_two n), omega (arith, reach, eu, fits))

    joined : HasTakenIn k.spans v v1 x x1 g h
    joined = taken_in k.spans v v1 x x1 g h (but_place k x g h i.chunks i.index at busy) at takes

    pub tiled : IsTiled v1
    tiled = joined.but.tiled

    units : joined.head.units ≡ all
    units = joined.units ∙ sym er

    pub chunk_joined : (m : Head) × (chunk_at v1 (addr - 16) ≡ Some m) × (m.units ≡ all)
    chunk_joined = (joined.head, chunk_by v1 (addr - 16) g joined.head start joined.there, units)

    pub room : finset.len x1.gaps < x1.capacity
    room =
        let spare = spare_room v x i.chunks.tiled i.chunks.joined i.index (omega (arith, granule_within v g h at)) in
        omega (arith, spare, joined.fewer, joined.capacity)

    pub absent : u + 2 ≤ all → finset.contains x1.gaps (all - u, g + u) ≡ false
    absent l =
        joined.but.gaps (all - u) (g + u) (λ z. omega (arith, two.0)) (λ z. omega (arith, two.0)) ∙ false_from_ne_true (is_gap_at v1 (all - u) (g + u)) (λ t.
        let r = gap_at_is v1 (all - u) (g + u) t in
        alone v1 joined.but.tiled g joined.head joined.there (g + u) r.head (omega (arith, two.0)) (omega (arith, units)) r.there)

    module _ (w : Chunks) (y : GapIndex) (taken : ℕ) (et : taken ≡ taken_of u all) (whole : all < u + 2 → (w ≡ v1) × (y ≡ x1))
        (chunks : u + 2 ≤ all → (m : Head) → chunk_at v1 (addr - 16) ≡ Some m → w ≡ split_chunk v1 g m u) (index : u + 2 ≤ all → y ≡ with_gap x1 (all - u) (g + u)) where
      pub needed : (taken ≡ units_of n) ⊎ (taken ≡ units_of n + 1)
      needed = subst (λ j. (taken ≡ j) ⊎ (taken ≡ j + 1)) eu (subst (λ j. (j ≡ u) ⊎ (j ≡ u + 1)) (sym et) (taken_units u all two.1))

      cut : HasCut k.spans v1 w y g joined.head taken
      cut = has_cut k.spans v1 x1 g u joined.head joined.but joined.there two.0 joined.next w y taken
          (et ∙ ap (taken_of u) (sym units)) (omega (arith, units, two.1))
          (λ l. whole (omega (arith, units)))
          (λ l. chunks (omega (arith, units)) joined.head (chunk_by v1 (addr - 16) g joined.head start joined.there))
          (λ l. index (omega (arith, units)) ∙ ap (λ q. with_gap x1 (q - u) (g + u)) (sym units))

      cut_there : chunk_at w (addr - 16) ≡ Some (record joined.head { units = taken })
      cut_there = chunk_by w (addr - 16) g (record joined.head { units = taken }) start cut.there

      pub chunk_cut : (m : Head) × (chunk_at w (addr - 16) ≡ Some m)
      chunk_cut = (record joined.head { units = taken }, cut_there)

      module _ (unused : ℕ) (fits : n + unused ≡ 16 * (taken - 1)) (z : Chunks)
          (set : (m : Head) → chunk_at w (addr - 16) ≡ Some m → z ≡ with_head w g (Some (record m { unused = unused; busy = true }))) where
        abbrev done : Head
        done = record joined.head { units = taken; unused = unused; busy = true }

        is_placed : IsPlaced k.spans w z y g done
        is_placed =
            subst (λ c. IsPlaced k.spans w c y g done) (sym (set (record joined.head { units = taken }) cut_there))
            (has_placed k.spans w y g unused (record joined.head { units = taken }) cut.sound cut.there (is_sized n taken unused done most needed fits refl refl))

        long : length z.heads ≡ length v.heads
        long = is_placed.long ∙ cut.long ∙ joined.long

        abbrev resized : Place → Place
        resized = resize_place (taken_of (units_of n) (reach_of k (place_of g h))) n

        granules : taken_of (units_of n) (reach_of k (place_of g h)) ≡ taken
        granules = ap (λ j. taken_of j (reach_of k (place_of g h))) (sym eu) ∙ ap (taken_of u) (sym reach) ∙ sym et

        place_resized : resized (place_of g h) ≡ place_of g done
        place_resized = ap (λ j. block_in (run_of g j) n) granules ∙ sym (place_is g n taken unused done fits refl refl)

        places_resized : places_from 0 z.heads ≡ change_found (has_address addr) resized (places_of k)
        places_resized =
            but_changed v z g long (λ q other. is_placed.places q other ∙ cut.places q other ∙ joined.places q other) resized h done
            (granule_within v g h at) at busy is_placed.there refl place_resized
            ∙ ap (λ a. change_found (has_address a) resized (places_of k)) (sym address)

        module _ (m : VsKept) (spans : m.spans ≡ k.spans) (chunks_are : m.chunks ≡ z) (served : m.served ≡ k.served) (active : m.active ≡ k.active) where
          places_are : places_of m ≡ change_found (has_address addr) resized (places_of k)
          places_are = ap (λ (c : Chunks). places_from 0 c.heads) chunks_are ∙ places_resized

          pub sound_resized : (old : ℕ) → old ≡ 16 * (h.units - 1) - h.unused → (live2 : List ℕ) → live2 ≡ one_more (bucket_of n) (one_less (bucket_of old) live) → IsSound m told y live2
          sound_resized old eo live2 el = record {
            spans = spans ∙ i.spans;
            granules = ap (λ (c : Chunks). length c.heads) chunks_are ∙ long ∙ i.granules;
            chunks = is_placed.sound m spans chunks_are;
            plain = subst HasPlainGaps (sym chunks_are) (is_placed.plain (cut.plain (joined.plain i.plain)));
            index = subst (λ c. IsIndexOf c y) (sym chunks_are) is_placed.index;
            counted = subst (AreCounted m) (sym (el ∙ ap (λ j. one_more (bucket_of n) (one_less (bucket_of j) live)) eo))
                (counted_resized k m live (16 * (h.units - 1) - h.unused) n (has_address addr) resized (place_of g h) i.counted (λ b. refl) (λ b. refl) found places_are served active);
          }

          pub result_resized : HasResized k m addr n
          result_resized = record {
            place = place_of g h;
            there = found;
            stays = stays;
            places = places_are;
            spans = spans;
            served = served;
            active = active;
            heap = record {
              key = ap (λ (c : Chunks). c.key) chunks_are ∙ is_placed.key ∙ cut.key ∙ joined.key;
              granules = ap (λ (c : Chunks). length c.heads) chunks_are ∙ long;
            };
          }

pub of_same_resized : (k j m : VsKept) (addr n : ℕ) → k ≡ j → HasResized k m addr n → HasResized j m addr n
of_same_resized k j m addr n e r = subst (λ y. HasResized y m addr n) e r
