-- A block that is dropped: its chunk becomes free, takes in the gaps on both sides, and is put into the index, or its span is closed.
use Rattle.std.proofs.Common.{◌≡◌, ◌≢◌, ℕ, ◌+◌, ◌-◌, ◌*◌, ◌/◌, ◌<◌, ◌≤◌, inl, inr, true, false, List, length, Some, None, refl, sym, ap, subst, ◌∙◌, arith}
use Rattle.std.specs.FinSet as set
use Rattle.std.proofs.lemmas.Bool.{cases_order, cases_lt, cases_eq, both_ways}
use Rattle.heap_model.specs.Geometry.{page_bytes}
use Rattle.heap_model.specs.State.{Span, has_address, remove_found}
use Rattle.heap_model.specs.Search.{begins_at}
use Rattle.heap_model.specs.Legal.{has_place}
use Rattle.heap_soundness.specs.Sound.{IsOneOf, AreInOrder}
use Rattle.heap_soundness.proofs.Spans.{apart_spans}
use Rattle.vs_headers.specs.declared.Head.{Head}
use Rattle.vs_split.specs.Chunks.{Chunks, head_at, chunk_at, with_head}
use Rattle.vs_split.specs.Tiles.{front_of, IsWhole}
use Rattle.vs_split.proofs.TileLemmas.{same_head}
use Rattle.vs_split.proofs.TiledLemmas.{at_put, as_long, granule_within, chunk_of, chunk_there}
use Rattle.vs_free_tree.specs.Gaps.{GapIndex}
use Rattle.vs_layer.specs.Kept.{VsKept, place_if, places_from, places_of, places_without}
use Rattle.vs_layer.specs.Sound.{LiesIn, IsOfSpan, AreChunksSound, IsIndexOf, HasPlainGaps}
use Rattle.vs_layer.specs.Steps.{with_gap, TakesInBehind, IsTakenBefore}
use Rattle.vs_layer.proofs.Places.{is_busy, busy_cases, but_dropped}
use Rattle.vs_layer.proofs.Plain.{plain_free}
use Rattle.vs_layer.proofs.Room.{spare_room}
use Rattle.vs_layer.proofs.Changes.{off_put, IsSoundBut, HasSamePlacesBut, same_places_then, but_place, no_place}
use Rattle.vs_layer.proofs.Steps.{alone, has_some, but_set, places_set, head_set}
use Rattle.vs_layer.proofs.Again.{IsPlaceBehind, IsPlaceBefore, IsSoundAgain, freed_again, closed_again, none_in_it}
use Rattle.vs_layer.proofs.TakenIn.{HasTakenIn, taken_in, IsTakenUp, taken_up}
use Rattle.vs_layer.proofs.InSpan.{has_block, no_block, next_in, prev_in, starts_it, ends_it}
use Rattle.vs_layer.proofs.Blocks.{address_of}
use Rattle.vs_layer.proofs.LastBlock.{in_span}

-- one span has the granule in both
same_lies : (xs : List Span) (g n q m : ℕ) (y : Span) → AreInOrder 0 xs → IsOneOf y xs → LiesIn g n y → (o : IsOfSpan xs q m) → q ≤ g → g + n ≤ q + m → 0 < n → LiesIn q m y
same_lies xs g n q m y order i l o low high some = elim (apart_spans 0 xs o.span y order o.there i) [
  | inl same ↦ subst (LiesIn q m) same o.lies
  | inr (inl before) ↦ absurd (omega (arith, o.lies.to, l.from))
  | inr (inr after) ↦ absurd (omega (arith, o.lies.from, l.to))
]

module _ (k : VsKept) (x : GapIndex) (s : AreChunksSound k) (i : IsIndexOf k.chunks x) (addr : ℕ) (h : Head) (low : 16 ≤ addr) (there : chunk_at k.chunks (addr - 16) ≡ Some h) (busy : h.busy ≡ true) where
  abbrev g : ℕ
  g = (addr - 16) / 16

  abbrev h1 : Head
  h1 = record h { unused = 0; busy = false }

  abbrev v1 : Chunks
  v1 = with_head k.chunks g (Some (record h { unused = 0; busy = false }))

  at : head_at k.chunks g ≡ Some h
  at = (chunk_of k.chunks (addr - 16) h there).head

  aligned : addr ≡ 16 * g + 16
  aligned = address_of k.chunks addr h low there

  -- the span of the block
  abbrev pub y0 : IsOfSpan k.spans g h.units
  y0 = in_span k s addr h low there busy

  s0 : IsSoundBut k.spans k.chunks x g g
  s0 = but_place k x g h s i at busy

  s1 : IsSoundBut k.spans v1 x g g
  s1 = but_set k.spans k.chunks x g h h1 s0 at refl refl

  pub at1 : head_at v1 g ≡ Some h1
  at1 = head_set k.spans k.chunks x g h h1 s0 at refl refl

  -- by address
  pub by_address : (v : Chunks) (m : Head) → head_at v g ≡ Some m → chunk_at v (addr - 16) ≡ Some m
  by_address v m is = chunk_there v (addr - 16) (chunk_of k.chunks (addr - 16) h there).aligned ∙ is

  -- the chunk m at a granule is free, has taken in the block and the gaps beside it, and may be anything
  pub record IsFreed (w : Chunks) (y : GapIndex) (granule : ℕ) (m : Head) : Type 0 where
    pub here : head_at w granule ≡ Some m
    pub free : m.busy ≡ false
    pub but : IsSoundBut k.spans w y granule granule
    pub places : HasSamePlacesBut g k.chunks w
    pub from : granule ≤ g
    pub to : g + h.units ≤ granule + m.units
    pub next : IsPlaceBehind w granule m
    pub before : IsPlaceBefore w granule
    pub key : w.key ≡ k.chunks.key
    pub long : length w.heads ≡ length k.chunks.heads
    pub fewer : set.len y.gaps ≤ set.len x.gaps
    pub capacity : y.capacity ≡ x.capacity
    pub plain : HasPlainGaps k.chunks → HasPlainGaps w

  -- as the calls that join the gaps do
  module _ (v : Chunks) (y : GapIndex) (behind : (m : Head) → chunk_at v1 (addr - 16) ≡ Some m → TakesInBehind v1 v x y g m) where
    pub first_step : HasTakenIn k.spans v1 v x y g h1
    first_step = taken_in k.spans v1 v x y g h1 s1 at1 (behind h1 (by_address v1 h1 at1))

    pub still_there : chunk_at v (addr - 16) ≡ Some first_step.head
    still_there = by_address v first_step.head first_step.there

    module _ (w : Chunks) (z : GapIndex) (answer : ℕ) (before : (m : Head) → chunk_at v (addr - 16) ≡ Some m → IsTakenBefore v w y z g m answer) where
      pub second_step : IsTakenUp k.spans v w y z g first_step.head answer
      second_step =
          taken_up k.spans v w y z g first_step.head answer first_step.but first_step.there first_step.busy first_step.next
          (before first_step.head still_there)

      freed_there : IsFreed w z second_step.granule second_step.head
      freed_there = record {
        here = second_step.there;
        free = second_step.free;
        but = second_step.but;
        places = same_places_then g k.chunks v w
            (same_places_then g k.chunks v1 v (places_set k.spans k.chunks x g h h1 s0 at refl refl) first_step.places) second_step.places;
        from = second_step.from;
        to = omega (arith, second_step.to, first_step.units);
        next = second_step.next;
        before = second_step.before;
        key = second_step.key ∙ first_step.key;
        long = second_step.long ∙ first_step.long ∙ as_long k.chunks g (Some h1);
        fewer = omega (arith, second_step.fewer, first_step.fewer);
        capacity = second_step.capacity ∙ first_step.capacity;
        plain = λ p. second_step.plain (first_step.plain (plain_free k.chunks g h1 p refl));
      }

      granule_is : second_step.granule ≡ answer / 16
      granule_is = omega (arith, second_step.at)

      -- what is read at the answer
      pub read_there : chunk_at w answer ≡ Some second_step.head
      read_there = chunk_there w answer (omega (arith, second_step.at)) ∙ ap (head_at w) (sym granule_is) ∙ second_step.there

      pub freed : (m : Head) → chunk_at w answer ≡ Some m → IsFreed w z (answer / 16) m
      freed m is = subst (λ q. IsFreed w z q m) granule_is (subst (IsFreed w z second_step.granule) (same_head second_step.head m (sym read_there ∙ is)) freed_there)

  module _ (w : Chunks) (y : GapIndex) (granule : ℕ) (m : Head) (f : IsFreed w y granule m) where
    two : 2 ≤ h.units
    two = has_some k.chunks s.tiled g h at

    -- it lies in the span of the block
    pub lies_there : LiesIn granule m.units y0.span
    lies_there = same_lies k.spans g h.units granule m.units y0.span s.in_order y0.there y0.lies (f.but.inside granule m f.here) f.from f.to (omega (arith, two))

    -- no block starts where the block started
    pub nothing_there : is_busy (head_at w g) ≡ false
    nothing_there = elim (busy_cases (head_at w g)) [
      | inl none ↦ none
      | inr j ↦ elim (cases_order granule g) [
        | inl z ↦ absurd (both_ways m.busy f.free (ap (λ (p : Head). p.busy) (same_head m j.0 (sym f.here ∙ subst (λ q. head_at w q ≡ Some j.0) (sym z) j.1)) ∙ j.2))
        | inr (inl less) ↦ absurd (alone w f.but.tiled granule m f.here g j.0 less (omega (arith, f.to, two)) j.1)
        | inr (inr more) ↦ absurd (omega (arith, f.from))
      ]
    ]

    pub within : g < length k.chunks.heads
    within = granule_within k.chunks g h at

    -- the index has room for it
    pub has_room : set.len y.gaps < y.capacity
    has_room = omega (arith, spare_room k.chunks x s.tiled s.joined i (omega (arith, within)), f.fewer, f.capacity)

    -- its place is gone
    pub places_less : places_from 0 w.heads ≡ places_without k addr
    places_less =
        but_dropped k.chunks w g f.long f.places h (head_at w g) within at busy refl nothing_there
        ∙ ap (λ a. remove_found (has_address a) (places_of k)) (sym aligned)

    -- it is put into the index
    pub added : (n : VsKept) → n.spans ≡ k.spans → n.chunks ≡ w → IsSoundAgain n (with_gap y m.units granule)
    added n spans chunks =
        freed_again n y granule m
        (subst (λ c. IsSoundBut n.spans c y granule granule) (sym chunks) (subst (λ xs. IsSoundBut xs w y granule granule) (sym spans) f.but))
        (ap (λ c. head_at c granule) chunks ∙ f.here) f.free (subst (λ c. IsPlaceBehind c granule m) (sym chunks) f.next)
        (subst (λ c. IsPlaceBefore c granule) (sym chunks) f.before)

    -- .. where a block is left in the span
    pub left_before : m.prev ≢ 0 → has_place page_bytes (places_from 0 w.heads) y0.span ≡ true
    left_before other =
        let some : 0 < m.prev = elim (cases_lt 0 m.prev) [ inl z ↦ z | inr z ↦ absurd (other (omega arith)) ] in
        let b = (f.but.tiled.tiles granule m f.here).behind some in
        let meets : granule - m.prev + b.head.units ≡ granule = omega (arith, b.units, b.below) in
        has_block w y0.span (granule - m.prev) (record {
          head = b.head;
          there = b.there;
          busy = f.before (granule - m.prev) b.head b.there meets;
          lies = prev_in k.spans w f.but.tiled f.but.in_order f.but.inside f.but.rows y0.span y0.there (granule - m.prev) granule b.head m lies_there f.here b.there meets;
        })

    pub left_after : (n : Head) → head_at w (granule + m.units) ≡ Some n → has_place page_bytes (places_from 0 w.heads) y0.span ≡ true
    left_after n is = has_block w y0.span (granule + m.units) (record {
      head = n;
      there = is;
      busy = f.next n is;
      lies = next_in k.spans w f.but.tiled f.but.in_order f.but.inside f.but.rows y0.span y0.there granule m n lies_there f.here is;
    })

    -- it fills the span
    module _ (first : m.prev ≡ 0) (last : head_at w (granule + m.units) ≡ None) where
      pub starts : granule ≡ front_of y0.span.first
      starts = starts_it k.spans w f.but.tiled f.but.in_order f.but.inside f.but.rows y0.span y0.there granule m lies_there f.here first

      pub is_whole : IsWhole w y0.span.first m
      is_whole = record {
        there = subst (λ q. head_at w q ≡ Some m) starts f.here;
        free = f.free;
        first_of = first;
        last_of = subst (λ q. head_at w (q + m.units) ≡ None) starts last;
      }

      ends : front_of y0.span.first + m.units ≡ 256 * (y0.span.first + y0.span.pages)
      ends =
          let e = ends_it k.spans w f.but.tiled f.but.in_order f.but.inside f.but.rows y0.span y0.there granule m lies_there f.here last in
          omega (arith, starts, e)

      but_front : IsSoundBut k.spans w y (front_of y0.span.first) (front_of y0.span.first)
      but_front = subst (λ q. IsSoundBut k.spans w y q q) starts f.but

      abbrev empty : Chunks
      empty = with_head w (front_of y0.span.first) None

      pub closed : (n : VsKept) → n.spans ≡ remove_found (begins_at y0.span.first) k.spans → n.chunks ≡ empty → IsSoundAgain n y
      closed n spans chunks = closed_again k.spans w y y0.span m but_front is_whole y0.there ends n spans chunks

      same_without : HasSamePlacesBut g k.chunks empty
      same_without q other = elim (cases_eq q (front_of y0.span.first)) [
        | inl z ↦
            ap (place_if q) (subst (λ p. head_at empty p ≡ None) (sym z) (at_put w (front_of y0.span.first) None (granule_within w (front_of y0.span.first) m is_whole.there)))
            ∙ sym (no_place q (head_at w q) (λ j is. ap (λ (p : Head). p.busy) (same_head j m (sym is ∙ subst (λ p. head_at w p ≡ Some m) (sym z) is_whole.there)) ∙ f.free))
            ∙ f.places q other
        | inr z ↦ ap (place_if q) (off_put w (front_of y0.span.first) None q z) ∙ f.places q other
      ]

      none_left : is_busy (head_at empty g) ≡ false
      none_left = elim (cases_eq g (front_of y0.span.first)) [
        | inl z ↦ ap is_busy (subst (λ p. head_at empty p ≡ None) (sym z) (at_put w (front_of y0.span.first) None (granule_within w (front_of y0.span.first) m is_whole.there)))
        | inr z ↦ ap is_busy (off_put w (front_of y0.span.first) None g z) ∙ nothing_there
      ]

      pub long_without : length empty.heads ≡ length k.chunks.heads
      long_without = as_long w (front_of y0.span.first) None ∙ f.long

      pub places_closed : places_from 0 empty.heads ≡ places_without k addr
      places_closed =
          but_dropped k.chunks empty g long_without same_without h (head_at empty g) within at busy refl none_left
          ∙ ap (λ a. remove_found (has_address a) (places_of k)) (sym aligned)

      -- no block is left in it
      pub none_in_span : has_place page_bytes (places_from 0 empty.heads) y0.span ≡ false
      none_in_span = no_block empty y0.span (λ q j is full from to. none_in_it k.spans w y y0.span m but_front is_whole y0.there ends q j is from to)
