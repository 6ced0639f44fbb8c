-- What `drop_block` makes of the layer.
use Rattle.std.proofs.Common.{◌≡◌, ◌≢◌, ℕ, ◌+◌, ◌-◌, ◌*◌, ◌/◌, ◌<◌, ◌≤◌, ◌⊎◌, inl, inr, true, false, List, length, Option, Some, None, sym, ap, subst, ◌∙◌, arith, get_or}
use Rattle.std.proofs.Math.ListN.{set}
use Rattle.std.specs.Prelude.{is_some}
use Rattle.std.proofs.lemmas.List.{length-set}
use Rattle.heap_model.specs.Geometry.{page_bytes}
use Rattle.heap_model.specs.Buckets.{bucket_of}
use Rattle.heap_model.specs.State.{Span, has_address, remove_found}
use Rattle.heap_model.specs.Search.{begins_at}
use Rattle.heap_model.specs.Legal.{has_place}
use Rattle.heap_model.specs.Stay.{is_some_of}
use Rattle.heap_soundness.specs.Sound.{IsOneOf}
use Rattle.vs_headers.specs.declared.Head.{Head}
use Rattle.vs_split.specs.Chunks.{Chunks, head_at, chunk_at, with_head}
use Rattle.vs_split.specs.Tiles.{front_of, IsWhole}
use Rattle.vs_split.proofs.TiledLemmas.{chunk_of, granule_within, few_granules}
use Rattle.vs_free_tree.specs.Gaps.{GapIndex}
use Rattle.vs_layer.specs.Counted.{one_less, IsSomeLeft}
use Rattle.vs_layer.specs.Kept.{VsKept, place_of, places_from, places_of, places_without, block_at}
use Rattle.vs_layer.specs.Effects.{HasDropped}
use Rattle.vs_layer.specs.Sound.{spans_from, HasPlainGaps, IsIndexOf, AreCounted, IsSound}
use Rattle.vs_layer.specs.Steps.{with_gap, TakesInBehind, IsTakenBefore}
use Rattle.vs_layer.proofs.Counts.{IsOfBucket, counted_dropped, some_left}
use Rattle.vs_layer.proofs.Plain.{plain_gone}
use Rattle.vs_layer.proofs.Spans.{pages_told, span_removed}
use Rattle.vs_layer.proofs.Blocks.{block_here}
use Rattle.vs_layer.proofs.LastBlock.{in_span, block_in_span}
use Rattle.vs_layer.proofs.Steps.{has_some}
use Rattle.vs_layer.proofs.Dropped.{at1, by_address, first_step, still_there, second_step, read_there, freed, IsFreed, places_less, added, left_before, left_after, starts, is_whole, closed, long_without, places_closed, none_in_span}

module _ (k : VsKept) (told live : List ℕ) (x : GapIndex) (i : IsSound k told x live) (addr : ℕ) (h : Head) (low : 16 ≤ addr) (there : chunk_at k.chunks (addr - 16) ≡ Some h) (busy : h.busy ≡ true) where
  abbrev g : ℕ
  g = (addr - 16) / 16

  at : head_at k.chunks g ≡ Some h
  at = (chunk_of k.chunks (addr - 16) h there).head

  -- what is asked before
  pub some_units : 1 ≤ h.units
  some_units = omega (arith, has_some k.chunks i.chunks.tiled g h at)

  pub few_unused : h.unused ≤ 16 * (h.units - 1)
  few_unused = omega (arith, (i.chunks.sized g h at busy).unused)

  ---- As the calls do

  module _ (v1 : Chunks) (e1 : v1 ≡ with_head k.chunks g (Some (record h { unused = 0; busy = false }))) where
    pub set_there : (m : Head) × (chunk_at v1 (addr - 16) ≡ Some m)
    set_there = (
      record h { unused = 0; busy = false },
      by_address k x i.chunks i.index addr h low there busy v1 (record h { unused = 0; busy = false }) (ap (λ (c : Chunks). head_at c g) e1 ∙ at1 k x i.chunks i.index addr h low there busy),
    )

    module _ (v : Chunks) (y : GapIndex) (behind : (m : Head) → chunk_at v1 (addr - 16) ≡ Some m → TakesInBehind v1 v x y g m) where
      behind_set : (m : Head) → chunk_at (with_head k.chunks g (Some (record h { unused = 0; busy = false }))) (addr - 16) ≡ Some m
          → TakesInBehind (with_head k.chunks g (Some (record h { unused = 0; busy = false }))) v x y g m
      behind_set = subst (λ (c : Chunks). (m : Head) → chunk_at c (addr - 16) ≡ Some m → TakesInBehind c v x y g m) e1 behind

      pub behind_there : (m : Head) × (chunk_at v (addr - 16) ≡ Some m)
      behind_there = ((first_step k x i.chunks i.index addr h low there busy v y behind_set).head, still_there k x i.chunks i.index addr h low there busy v y behind_set)

      module _ (w : Chunks) (z : GapIndex) (answer : ℕ) (before : (m : Head) → chunk_at v (addr - 16) ≡ Some m → IsTakenBefore v w y z g m answer) where
        pub read : (m : Head) × (chunk_at w answer ≡ Some m)
        read = ((second_step k x i.chunks i.index addr h low there busy v y behind_set w z answer before).head, read_there k x i.chunks i.index addr h low there busy v y behind_set w z answer before)

        pub freed_block : (m : Head) → chunk_at w answer ≡ Some m → IsFreed k x i.chunks i.index addr h low there busy w z (answer / 16) m
        freed_block = freed k x i.chunks i.index addr h low there busy v y behind_set w z answer before

        pub granule_fits : answer / 16 < 1048576
        granule_fits =
            let f = freed_block read.0 read.1 in
            omega (arith, granule_within w (answer / 16) read.0 f.here, f.long, few_granules k.chunks i.chunks.tiled)

  module _ (size : ℕ) (es : size ≡ 16 * (h.units - 1) - h.unused) where
    of_bucket : IsOfBucket (bucket_of size) (place_of g h)
    of_bucket = λ b. ap (λ n. is_some_of (bucket_of n) b) (sym es)

    found : block_at k addr ≡ Some (place_of g h)
    found = block_here k addr h low there busy

    pub one_counted : IsSomeLeft (bucket_of size) live
    one_counted = some_left k live size (has_address addr) (place_of g h) i.counted of_bucket found

    module _ (w : Chunks) (y : GapIndex) (granule : ℕ) (m : Head) (f : IsFreed k x i.chunks i.index addr h low there busy w y granule m) (fewer : List ℕ) (el : fewer ≡ one_less (bucket_of size) live) where
      abbrev span : Span
      span = (in_span k i.chunks addr h low there busy).span

      ---- It is put into the index

      pub sound_added : (n : VsKept) → n.spans ≡ k.spans → n.chunks ≡ w → n.served ≡ k.served → n.active ≡ k.active → (z : GapIndex) → z ≡ with_gap y m.units granule → IsSound n told z fewer
      sound_added n spans chunks served active z ez =
          let again = added k x i.chunks i.index addr h low there busy w y granule m f n spans chunks in
          let places = ap (λ (c : Chunks). places_from 0 c.heads) chunks ∙ places_less k x i.chunks i.index addr h low there busy w y granule m f in
          record {
            spans = spans ∙ i.spans;
            granules = ap (λ (c : Chunks). length c.heads) chunks ∙ f.long ∙ i.granules;
            chunks = again.chunks;
            plain = subst HasPlainGaps (sym chunks) (f.plain i.plain);
            index = subst (IsIndexOf n.chunks) (sym ez) again.index;
            counted = subst (AreCounted n) (sym el) (counted_dropped k n live size (has_address addr) (place_of g h) i.counted of_bucket found places served active);
          }

      pub dropped_added : (m.prev ≢ 0) ⊎ ((n : Head) × (head_at w (granule + m.units) ≡ Some n)) → (n : VsKept) → n.spans ≡ k.spans → n.chunks ≡ w → n.served ≡ k.served → n.active ≡ k.active
          → HasDropped k n addr None
      dropped_added left n spans chunks served active = record {
        place = place_of g h;
        span = (in_span k i.chunks addr h low there busy).span;
        block = block_in_span k i.chunks addr h low there busy;
        places = ap (λ (c : Chunks). places_from 0 c.heads) chunks ∙ places_less k x i.chunks i.index addr h low there busy w y granule m f;
        closed = (ap (λ (c : Chunks). has_place page_bytes (places_from 0 c.heads) span) chunks ∙ some_in_span left, spans);
        served = served;
        active = active;
        heap = record { key = ap (λ (c : Chunks). c.key) chunks ∙ f.key; granules = ap (λ (c : Chunks). length c.heads) chunks ∙ f.long };
      }
        where
          some_in_span : (m.prev ≢ 0) ⊎ ((n : Head) × (head_at w (granule + m.units) ≡ Some n)) → has_place page_bytes (places_from 0 w.heads) span ≡ true
          some_in_span (inl prev) = left_before k x i.chunks i.index addr h low there busy w y granule m f prev
          some_in_span (inr next) = left_after k x i.chunks i.index addr h low there busy w y granule m f next.0 next.1

      ---- Its span is closed

      module _ (first : m.prev ≡ 0) (last : head_at w (granule + m.units) ≡ None) where
        -- the page of the span
        pub page_is : granule / 256 ≡ span.first
        page_is = omega (arith, starts k x i.chunks i.index addr h low there busy w y granule m f first last)

        pub whole : IsWhole w (granule / 256) m
        whole = subst (λ p. IsWhole w p m) (sym page_is) (is_whole k x i.chunks i.index addr h low there busy w y granule m f first last)

        told_there : (span.first < length told) × (get_or told span.first 0 ≡ span.pages)
        told_there = pages_told told span (subst (IsOneOf span) i.spans (in_span k i.chunks addr h low there busy).there)

        pub page_within : granule / 256 < length told
        page_within = omega (arith, page_is, told_there.0)

        pub page_told : get_or told (granule / 256) 0 ≡ span.pages
        page_told = ap (λ p. get_or told p 0) page_is ∙ told_there.1

        empty_is : with_head w (front_of (granule / 256)) None ≡ with_head w (front_of span.first) None
        empty_is = ap (λ p. with_head w (front_of p) None) page_is

        spans_are : spans_from 0 (set told (granule / 256) 0) ≡ remove_found (begins_at span.first) k.spans
        spans_are = span_removed told (granule / 256) page_within ∙ ap (λ p. remove_found (begins_at p) (spans_from 0 told)) page_is ∙ ap (remove_found (begins_at span.first)) (sym i.spans)

        module _ (n : VsKept) (spans : n.spans ≡ spans_from 0 (set told (granule / 256) 0)) (chunks : n.chunks ≡ with_head w (front_of (granule / 256)) None) (served : n.served ≡ k.served) (active : n.active ≡ k.active) where
          chunks_are : n.chunks ≡ with_head w (front_of span.first) None
          chunks_are = chunks ∙ empty_is

          places_are : places_of n ≡ places_without k addr
          places_are = ap (λ (c : Chunks). places_from 0 c.heads) chunks_are ∙ places_closed k x i.chunks i.index addr h low there busy w y granule m f first last

          long_is : length n.chunks.heads ≡ length k.chunks.heads
          long_is = ap (λ (c : Chunks). length c.heads) chunks_are ∙ long_without k x i.chunks i.index addr h low there busy w y granule m f first last

          pub sound_closed : IsSound n (set told (granule / 256) 0) y fewer
          sound_closed =
              let again = closed k x i.chunks i.index addr h low there busy w y granule m f first last n (spans ∙ spans_are) chunks_are in
              record {
                spans = spans;
                granules = let long : length (set told (granule / 256) 0) ≡ length told = length-set told (granule / 256) 0 in long_is ∙ i.granules ∙ ap (λ j. 256 * j) (sym long);
                chunks = again.chunks;
                plain = subst HasPlainGaps (sym chunks_are) (plain_gone w (front_of span.first) (f.plain i.plain));
                index = again.index;
                counted = subst (AreCounted n) (sym el) (counted_dropped k n live size (has_address addr) (place_of g h) i.counted of_bucket found places_are served active);
              }

          pub dropped_closed : (pages : ℕ) → pages ≡ get_or told (granule / 256) 0 → HasDropped k n addr (Some (granule / 256, pages))
          dropped_closed pages ep = record {
            place = place_of g h;
            span = (in_span k i.chunks addr h low there busy).span;
            block = block_in_span k i.chunks addr h low there busy;
            places = places_are;
            closed = (
              ap (λ (c : Chunks). has_place page_bytes (places_from 0 c.heads) span) chunks_are ∙ none_in_span k x i.chunks i.index addr h low there busy w y granule m f first last,
              page_is,
              ep ∙ page_told,
              spans ∙ spans_are,
            );
            served = served;
            active = active;
            heap = record { key = ap (λ (c : Chunks). c.key) chunks_are ∙ f.key; granules = long_is };
          }

pub no_head : (o p : Option Head) → o ≡ p → is_some o ≡ false → p ≡ None
no_head None p e f = sym e
no_head (Some h) p e f = absurd (let z : ⊥ = cc in z)

pub some_head : (o p : Option Head) → o ≡ p → is_some o ≡ true → (n : Head) × (p ≡ Some n)
some_head None p e f = absurd (let z : ⊥ = cc in z)
some_head (Some h) p e f = (h, sym e)

pub dropped_of_same : (k k' n : VsKept) (addr : ℕ) (answer : Option (ℕ × ℕ)) → k ≡ k' → HasDropped k n addr answer → HasDropped k' n addr answer
dropped_of_same k k' n addr answer e d = subst (λ (j : VsKept). HasDropped j n addr answer) e d
