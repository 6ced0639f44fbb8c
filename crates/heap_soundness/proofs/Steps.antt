-- One entry leaves the spans and the places in them sound: one lemma for each row.
use Rattle.std.proofs.Common.{◌≡◌, ℕ, ◌+◌, ◌-◌, ◌*◌, ◌/◌, ◌<◌, ◌≤◌, Bool, true, false, cond, not, ◌&&◌, ◌||◌, List, [], ◌∷◌, Option, Some, None, refl, sym, ap, ◌∙◌, subst, arith, eqb, leb, subst₂, ◌⊎◌, inl, inr}
use Rattle.std.specs.Prelude.{option_and_then, is_none}
use Rattle.std.specs.List.{find, list_any, AllByRecursion}
use Rattle.std.proofs.lemmas.Bool.{and_parts, not-true, leb-true, eqb-true, false≢true, eq-eqb, cases_Bool}
use Rattle.heap_model.specs.declared.Act.{Act}
use Rattle.heap_model.specs.declared.Act.TheVariants as acts
use Rattle.heap_model.specs.declared.Kind.{Kind}
use Rattle.heap_model.specs.declared.Kind.TheVariants as kinds
use Rattle.heap_model.specs.declared.Layer.{Layer}
use Rattle.heap_model.specs.declared.Layer.TheVariants as layers
use Rattle.heap_model.specs.declared.What.TheVariants as whats
use Rattle.heap_model.specs.Geometry.{route_of, is_small, is_variable, is_huge, units_of, pages_of, span_pages_of}
use Rattle.heap_model.specs.Buckets.{bucket_of, block_size, block_count, block_address}
use Rattle.heap_model.specs.Runs.{Run, fitting, IsRun}
use Rattle.heap_model.specs.State.{Setting, Span, Place, Status, Live, InHand, is_kind, hand_at, place_at, is_hand_at, is_live_at, is_live, is_live_of, remove_found, is_layer, updated}
use Rattle.heap_model.specs.Backend.{in_span}
use Rattle.heap_model.specs.Ranges.{gaps, vs_place, is_clear_page, large_runs, large_place, large_start, lowest}
use Rattle.heap_model.specs.Stay.{for_some, is_some_of, lets_stay, resized}
use Rattle.heap_model.specs.Bits.{starts_at}
use Rattle.heap_model.specs.CallState.{Demand, Nothing, SpanBy, PlaceBy, UnspanBy, Configuration, caller_view}
use Rattle.heap_model.specs.Search.{asked, asked_bucket, sought, request_of, spans_of, is_span_of, span_at, begins_at, last_read, may_claim}
use Rattle.heap_model.specs.Legal.{may, state_after, demand_after, meets_demand, meets_place, is_layer_of, is_back_due, lies_in, has_place, places_in, is_unused, may_unspan_of, may_touch, suits, is_resized, is_vs_place, may_place_small, is_picked_in, unspan_of, with_span, after_span, area_with, is_back_at, with_pages, may_span_for, after}
use Rattle.heap_model.proofs.ListLemmas.{for_some_parts, is_some_of_parts}
use Rattle.heap_model.proofs.Homes.{hand_found, place_found}
use Rattle.heap_model.proofs.Others.{unspan_locks}
use Rattle.heap_soundness.specs.Sound.{IsOneOf, IsInLfh, IsInBack, IsInLarge, HasSoundKinds, HasShortSpans}
use Rattle.heap_soundness.specs.Invariant.{IsVsSound, IsLayerSound, AreLayersSound, IsHeapSound, IsDue, Keeps}
use Rattle.heap_soundness.proofs.Lists.{any_found, found_passes}
use Rattle.heap_soundness.proofs.Spans.{made_in, inserted_cases, removed_from, changed_cases}
use Rattle.heap_soundness.proofs.RunLemmas.{fitting_all}
use Rattle.heap_soundness.proofs.RowLemmas.{span_row, span_not_empty, huge_pages}
use Rattle.heap_soundness.proofs.BackendLemmas.{back_place_free}
use Rattle.heap_soundness.proofs.Maximal.{runs_only}
use Rattle.heap_soundness.proofs.Enums.{kind_is}
use Rattle.heap_soundness.proofs.GapRuns.{filtered_cases, some_mapped, front_of, IsFront, vs_place_sound}
use Rattle.heap_soundness.proofs.Layers.{HaveBucketPages, lfh_placed, back_placed, large_placed}
use Rattle.heap_soundness.proofs.Areas.{spanned, new_begins, unspanned, reserved_more, decommitted}
use Rattle.heap_soundness.proofs.Changes.{restatused, dropped, resized_heap}
use Rattle.heap_soundness.proofs.MadeSpans.{search_is, lfh_span}
use Rattle.heap_soundness.proofs.Picks.{sought_asked}

-- the place that an entry makes
abbrev pub made : ℕ → ℕ → ℕ → Layer → Place
made c start granules layer = record { start = start; granules = granules; layer = layer; status = InHand c }

pub bucket_pages_of : (s : Setting) (m : Configuration) → HasSoundKinds s m.state → HaveBucketPages m.state.back.area.spans
bucket_pages_of s m h = λ x i k. (lfh_span s m.state x h i k).pages

module _ (s : Setting) (m : Configuration) (c : ℕ) (w : Keeps s m) where
  placed_vs : (start granules : ℕ) → may s m c (acts.Place start granules layers.Vs) ≡ true → IsVsSound m.state.back.area.spans (made c start granules layers.Vs ∷ m.state.vs.places)
  placed_vs start granules h =
      let p = for_some_parts (asked (m.now.calls c)) (λ n. (is_small (route_of n) || is_variable (route_of n)) && is_vs_place (gaps m.state) n start granules && may_place_small s m.state.back.area m.state.vs c (caller_view m c) (request_of s m c) n) (and_parts _ (for_some (asked (m.now.calls c)) _) h).1 in
      let q = and_parts _ (may_place_small s m.state.back.area m.state.vs c (caller_view m c) (request_of s m c) p.0) p.2 in
      let r = (and_parts _ (is_vs_place (gaps m.state) p.0 start granules) q.0).1 in
      let v = for_some_parts (vs_place (gaps m.state) (units_of p.0)) (λ r. eqb start (16 * r.first) && eqb granules r.count) r in
      let e = and_parts (eqb start (16 * v.0.first)) (eqb granules v.0.count) v.2 in
      at p.0 v.0 (eqb-true start (16 * v.0.first) e.0) (eqb-true granules v.0.count e.1) (front_of m.state.back.area.spans m.state.vs.places (units_of p.0) v.0 v.1)
    where
      at : (n : ℕ) (r : Run) → start ≡ 16 * r.first → granules ≡ r.count → IsFront m.state.back.area.spans m.state.vs.places (units_of n) r.first r.count → IsVsSound m.state.back.area.spans (made c start granules layers.Vs ∷ m.state.vs.places)
      at n r e g f =
          let first : r.first ≡ start / 16 = omega arith in
          vs_place_sound m.state.back.area.spans m.state.vs.places n (made c start granules layers.Vs) w.heap.spans.in_order w.heap.vs
          (subst₂ (λ (i k : ℕ). IsFront m.state.back.area.spans m.state.vs.places (units_of n) i k) first (sym g) f) (omega arith)

  placed_lfh : (start granules : ℕ) → may s m c (acts.Place start granules layers.Lfh) ≡ true → IsLayerSound (IsInLfh m.state.back.area.spans) (made c start granules layers.Lfh ∷ m.state.lfh)
  placed_lfh start granules h =
      let p1 = and_parts _ (for_some (request_of s m c).search _) h in
      let new = not-true (starts_at m.state.lfh start) (and_parts (caller_view m c).entered (not (starts_at m.state.lfh start)) p1.0).1 in
      let b = for_some_parts (request_of s m c).search (λ b. list_any (is_picked_in b (m.now.calls c).search start granules) (spans_of m.state.back.area b (s.slot c))) p1.1 in
      let x = any_found (is_picked_in b.0 (m.now.calls c).search start granules) (spans_of m.state.back.area b.0 (s.slot c)) b.2 in
      let i = filtered_cases (is_span_of b.0 (s.slot c)) x.0 m.state.back.area.spans x.1 in
      let a = sought_asked s m.state c (m.now.calls c) b.0 (search_is m.state.vs.active (option_and_then bucket_of (sought s m.state c (m.now.calls c))) b.0 b.1).0 in
      lfh_placed m.state.back.area.spans (made c start granules layers.Lfh) m.state.lfh w.heap.spans.in_order (bucket_pages_of s m w.of_kinds) (home b.0 x.0 i.0 i.1 x.2 a) new w.heap.lfh
    where
      home : (b : ℕ) (x : Span) → IsOneOf x m.state.back.area.spans → is_span_of b (s.slot c) x ≡ true → is_picked_in b (m.now.calls c).search start granules x ≡ true → asked_bucket (m.now.calls c) ≡ Some b → IsInLfh m.state.back.area.spans start granules
      home b x i k row a =
          let k1 = and_parts _ (eqb x.slot (s.slot c)) k in
          let k2 = and_parts (is_kind x.kind kinds.Lfh) (eqb x.bucket b) k1.0 in
          let at : x.bucket ≡ b = eqb-true x.bucket b k2.1 in
          let n = (start - block_address b x.first 0) / block_size b in
          let r1 = and_parts (may_claim (m.now.calls c).search x.first n && eqb start (block_address b x.first n)) (eqb (16 * granules) (block_size b)) row in
          let r2 = and_parts (may_claim (m.now.calls c).search x.first n) (eqb start (block_address b x.first n)) r1.0 in
          let picked = is_some_of_parts (m.now.calls c).search.picked n (and_parts (is_some_of (m.now.calls c).search.picked n) (is_some_of (last_read (m.now.calls c).search) x.first) r2.0).0 in
          let below = w.picks c n picked in
          let same : Some below.0 ≡ Some b = sym below.1 ∙ a in
          let bucket : below.0 ≡ b = cc in
          record {
            span = x;
            there = i;
            kind = kind_is x.kind kinds.Lfh k2.0;
            index = n;
            below = subst (λ (z : ℕ). n < block_count z) (bucket ∙ sym at) below.2;
            block = eqb-true start (block_address b x.first n) r2.1 ∙ ap (λ z. block_address z x.first n) (sym at);
            size = eqb-true (16 * granules) (block_size b) r1.1 ∙ ap block_size (sym at);
          }

  -- the span that waits is all of the place
  placed_back : (start granules : ℕ) → is_back_due m.now.demand ≡ true → meets_demand m.state.back.area (record { caller = c; act = acts.Place start granules layers.Back }) m.now.demand ≡ true → IsLayerSound (IsInBack m.state.back.area.spans) (made c start granules layers.Back ∷ m.state.back.places)
  placed_back start granules due meets = by_demand m.now.demand due meets w.due
    where
      by_demand : (d : Demand) → is_back_due d ≡ true → meets_demand m.state.back.area (record { caller = c; act = acts.Place start granules layers.Back }) d ≡ true → IsDue m.now.calls m.state.back.area m.state.back.places d → IsLayerSound (IsInBack m.state.back.area.spans) (made c start granules layers.Back ∷ m.state.back.places)
      by_demand Nothing u v k = absurd (false≢true u)
      by_demand (SpanBy d n) u v k = absurd (false≢true u)
      by_demand (UnspanBy d n) u v k = absurd (false≢true u)
      by_demand (PlaceBy d x) u v k =
          let kind = kind_is x.kind kinds.Back u in
          let v1 = (and_parts (eqb c d) (meets_place x (acts.Place start granules layers.Back)) v).1 in
          let v2 = and_parts (is_layer_of x.kind layers.Back && lies_in 4096 x (record { start = start; granules = granules; layer = layers.Back; status = InHand 0 })) (not (is_kind x.kind kinds.Back) || eqb granules (256 * x.pages)) v1 in
          let v3 = (and_parts (is_layer_of x.kind layers.Back) (lies_in 4096 x (record { start = start; granules = granules; layer = layers.Back; status = InHand 0 })) v2.0).1 in
          let v4 = and_parts (leb (4096 * x.first) start) (leb (start + 16 * granules) (4096 * (x.first + x.pages))) v3 in
          let low = leb-true (4096 * x.first) start v4.0 in
          let high = leb-true (start + 16 * granules) (4096 * (x.first + x.pages)) v4.1 in
          let whole : granules ≡ 256 * x.pages = eqb-true granules (256 * x.pages) (rw u at v2.1) in
          let r = k.0 kind in
          back_placed m.state.back.area.spans (made c start granules layers.Back) m.state.back.places w.heap.spans.in_order (record { span = x; there = r.0; kind = kind; begins = omega arith; whole = whole }) r.1 w.heap.back

  placed_large : (start granules : ℕ) → may s m c (acts.Place start granules layers.Large) ≡ true → IsLayerSound (IsInLarge s.limits) (made c start granules layers.Large ∷ m.state.large)
  placed_large start granules h =
      let p = for_some_parts (asked (m.now.calls c)) (λ n. is_huge (route_of n) && is_some_of (large_place s.limits m.state.large (pages_of n)) start && eqb granules (256 * pages_of n)) (and_parts _ (for_some (asked (m.now.calls c)) _) h).1 in
      let q = and_parts (is_huge (route_of p.0) && is_some_of (large_place s.limits m.state.large (pages_of p.0)) start) (eqb granules (256 * pages_of p.0)) p.2 in
      let u = and_parts (is_huge (route_of p.0)) (is_some_of (large_place s.limits m.state.large (pages_of p.0)) start) q.0 in
      let at = is_some_of_parts (large_place s.limits m.state.large (pages_of p.0)) start u.1 in
      let r = some_mapped (λ (r : Run). 16 * (large_start s.limits + 256 * r.first)) (lowest (fitting (pages_of p.0) (large_runs s.limits m.state.large))) start at in
      let f = lowest_is (λ r. IsRun (is_clear_page s.limits m.state.large) 0 (0 + s.limits.large_pages) r × (pages_of p.0 ≤ r.count)) (fitting (pages_of p.0) (large_runs s.limits m.state.large)) r.0 r.1 (fitting_all (IsRun (is_clear_page s.limits m.state.large) 0 (0 + s.limits.large_pages)) (pages_of p.0) (large_runs s.limits m.state.large) (runs_only (is_clear_page s.limits m.state.large) 0 s.limits.large_pages)) in
      let below = f.0.below in
      let fits = f.1 in
      large_placed s.limits (made c start granules layers.Large) m.state.large
      (record { page = r.0.first; pages = pages_of p.0; enough = huge_pages p.0 u.0; begins = sym r.2; whole = eqb-true granules (256 * pages_of p.0) q.1; inside = inside r.0 (pages_of p.0) below fits })
      (λ k l. f.0.passes k (less k (pages_of p.0) r.0.count l fits)) w.heap.large
    where
      inside : (r : Run) (n : ℕ) → r.first + r.count ≤ 0 + s.limits.large_pages → n ≤ r.count → r.first + n ≤ s.limits.large_pages
      inside r n a b = omega arith

      less : (k n count : ℕ) → k < n → n ≤ count → k < count
      less k n count a b = omega arith

      lowest_is : (P : Run → Type 0) (rs : List Run) (r : Run) → lowest rs ≡ Some r → AllByRecursion P rs → P r
      lowest_is P [] r e a = absurd (let z : ⊥ = cc in z)
      lowest_is P (q ∷ qs) r e a = let same : q ≡ r = cc in subst P same a.0

  spanned_heap : (x : Span) → may s m c (acts.Span x.first x.pages x.kind x.bucket x.slot) ≡ true → AreLayersSound s.limits (with_span m.state.back.area x) m.state.vs.places m.state.lfh m.state.back.places m.state.large × (IsOneOf x (with_span m.state.back.area x).spans × AllByRecursion (λ p. p.start ≡ 4096 * x.first → ⊥) m.state.back.places)
  spanned_heap x h =
      let r = span_row s m.state.back.area (gaps m.state) c (caller_view m c) (request_of s m c) x h in
      let some = span_not_empty s m.state.back.area (gaps m.state) c (caller_view m c) (request_of s m c) x.pages x.bucket x.kind r.owner in
      let free = back_place_free m.state.back.area s.limits.segments x.pages x.first r.place r.reserved in (
        spanned s.limits m.state.back.area x m.state.vs.places m.state.lfh m.state.back.places m.state.large some free w.heap,
        (made_in x m.state.back.area.spans, new_begins s.limits m.state.back.area x m.state.vs.places m.state.lfh m.state.back.places m.state.large some free w.heap),
      )

  unspanned_heap : (first : ℕ) → may s m c (acts.Unspan first) ≡ true → AreLayersSound s.limits (record { reserved = m.state.back.area.reserved; committed = m.state.back.area.committed; spans = remove_found (begins_at first) m.state.back.area.spans }) m.state.vs.places m.state.lfh m.state.back.places m.state.large
  unspanned_heap first h =
      let p = for_some_parts (span_at m.state.back.area first) (is_unused m.state (caller_view m c)) (unspan_locks s m c first h).1 in
      let at : p.0.first ≡ first = eqb-true p.0.first first (found_passes (begins_at first) m.state.back.area.spans p.0 p.1) in
      let none = not-true _ (and_parts (may_unspan_of (caller_view m c) p.0.kind) (not (has_place 4096 (places_in m.state p.0.kind) p.0)) p.2).1 in
      gone p.0 at p.1 none
    where
      gone : (x : Span) → x.first ≡ first → find (begins_at first) m.state.back.area.spans ≡ Some x → has_place 4096 (places_in m.state x.kind) x ≡ false → AreLayersSound s.limits (record { reserved = m.state.back.area.reserved; committed = m.state.back.area.committed; spans = remove_found (begins_at first) m.state.back.area.spans }) m.state.vs.places m.state.lfh m.state.back.places m.state.large
      gone x at found none =
          subst (λ (n : ℕ). AreLayersSound s.limits (record { reserved = m.state.back.area.reserved; committed = m.state.back.area.committed; spans = remove_found (begins_at n) m.state.back.area.spans }) m.state.vs.places m.state.lfh m.state.back.places m.state.large) at
          (unspanned s.limits m.state.back.area x m.state.vs.places m.state.lfh m.state.back.places m.state.large (bucket_pages_of s m w.of_kinds) (subst (λ (n : ℕ). find (begins_at n) m.state.back.area.spans ≡ Some x) (sym at) found) (of_kind kinds.Vs) (of_kind kinds.Lfh) (of_kind kinds.Back) w.heap)
        where
          of_kind : (k : Kind) → x.kind ≡ k → has_place 4096 (places_in m.state k) x ≡ false
          of_kind k e = subst (λ (z : Kind). has_place 4096 (places_in m.state z) x ≡ false) e none

  with_vs : (ps : List Place) → IsVsSound m.state.back.area.spans ps → AreLayersSound s.limits m.state.back.area ps m.state.lfh m.state.back.places m.state.large
  with_vs ps v = record { usable = w.heap.usable; spans = w.heap.spans; vs = v; lfh = w.heap.lfh; back = w.heap.back; large = w.heap.large }

  with_lfh : (ps : List Place) → IsLayerSound (IsInLfh m.state.back.area.spans) ps → AreLayersSound s.limits m.state.back.area m.state.vs.places ps m.state.back.places m.state.large
  with_lfh ps v = record { usable = w.heap.usable; spans = w.heap.spans; vs = w.heap.vs; lfh = v; back = w.heap.back; large = w.heap.large }

  with_back : (ps : List Place) → IsLayerSound (IsInBack m.state.back.area.spans) ps → AreLayersSound s.limits m.state.back.area m.state.vs.places m.state.lfh ps m.state.large
  with_back ps v = record { usable = w.heap.usable; spans = w.heap.spans; vs = w.heap.vs; lfh = w.heap.lfh; back = v; large = w.heap.large }

  with_large : (ps : List Place) → IsLayerSound (IsInLarge s.limits) ps → AreLayersSound s.limits m.state.back.area m.state.vs.places m.state.lfh m.state.back.places ps
  with_large ps v = record { usable = w.heap.usable; spans = w.heap.spans; vs = w.heap.vs; lfh = w.heap.lfh; back = w.heap.back; large = v }

  live_if_sized : (size : ℕ) (t : Status) → is_live_of size t ≡ true → is_live t ≡ true
  live_if_sized size (Live n) h = refl
  live_if_sized size (InHand d) h = absurd (false≢true h)

  -- an entry that may follow leaves the heap sound
  pub heap_act : (act : Act) → may s m c act ≡ true → meets_demand m.state.back.area (record { caller = c; act = act }) m.now.demand ≡ true → IsHeapSound s (state_after m.state (m.now.calls c) c act)
  heap_act (acts.Reserve segment) h d = reserved_more s.limits m.state.back.area (m.state.back.area.reserved + 1) m.state.vs.places m.state.lfh m.state.back.places m.state.large (omega arith) w.heap
  heap_act (acts.Span first pages kind bucket slot) h d = (spanned_heap (record { first = first; pages = pages; kind = kind; bucket = bucket; slot = slot }) h).0
  heap_act (acts.Unspan first) h d = unspanned_heap first h
  heap_act (acts.Place start granules layers.Vs) h d = with_vs (made c start granules layers.Vs ∷ m.state.vs.places) (placed_vs start granules h)
  heap_act (acts.Place start granules layers.Lfh) h d = with_lfh (made c start granules layers.Lfh ∷ m.state.lfh) (placed_lfh start granules h)
  heap_act (acts.Place start granules layers.Back) h d = with_back (made c start granules layers.Back ∷ m.state.back.places) (placed_back start granules (and_parts ((caller_view m c).entered && (caller_view m c).back) (is_back_due m.now.demand) h).1 d)
  heap_act (acts.Place start granules layers.Large) h d = with_large (made c start granules layers.Large ∷ m.state.large) (placed_large start granules h)
  heap_act (acts.Give a size) h d =
      let q = for_some_parts (hand_at m.state c a) (λ p. may_touch (caller_view m c) p.layer && suits size p) (and_parts (caller_view m c).entered _ h).1 in
      restatused s m.state (is_hand_at c a) (hand_at m.state c a) q.0 q.1 (hand_found m.state w.homes c a q.0 q.1) (Live size) w.heap
  heap_act (acts.Take a size) h d =
      let q = for_some_parts (place_at m.state c a) (λ p. may_touch (caller_view m c) p.layer && is_live_of size p.status) (and_parts (caller_view m c).entered _ h).1 in
      let live = live_if_sized size q.0.status (and_parts (may_touch (caller_view m c) q.0.layer) (is_live_of size q.0.status) q.2).1 in
      restatused s m.state (is_live_at a) (place_at m.state c a) q.0 q.1 (place_found m.state w.homes c a q.0 live q.1) (InHand c) w.heap
  heap_act (acts.Drop a) h d =
      let q = for_some_parts (hand_at m.state c a) (λ p. may_touch (caller_view m c) p.layer) (and_parts (caller_view m c).entered _ h).1 in
      dropped s m.state (is_hand_at c a) (hand_at m.state c a) q.0 q.1 (hand_found m.state w.homes c a q.0 q.1) w.heap
  heap_act (acts.Resize a granules size) h d =
      let q = for_some_parts (place_at m.state c a) (is_resized s m.state (caller_view m c) granules size) (and_parts (caller_view m c).entered _ h).1 in
      let live = (and_parts _ (is_live q.0.status) (and_parts _ (lets_stay s.limits m.state q.0 size) (and_parts _ (eqb granules (resized s.limits m.state q.0 size)) q.2).0).0).1 in
      resized_heap s m.state (is_live_at a) q.0 granules size w.heap (place_at m.state c a) q.1 (place_found m.state w.homes c a q.0 live q.1) (caller_view m c) q.2
  heap_act (acts.Decommit page) h d = decommitted s.limits m.state.back.area page m.state.vs.places m.state.lfh m.state.back.places m.state.large (not-true _ (and_parts _ (not (list_any (in_span page) m.state.back.area.spans)) h).1) w.heap
  heap_act (acts.Blocked whats.Gate word) h d = w.heap
  heap_act _ h d = w.heap

  -- the size that a VS span is made for
  span_asked : (x : Span) → may s m c (acts.Span x.first x.pages x.kind x.bucket x.slot) ≡ true → x.kind ≡ kinds.Vs → (n : ℕ) × (asked (m.now.calls c) ≡ Some n) × (x.pages ≡ span_pages_of n)
  span_asked x h e =
      let r = (span_row s m.state.back.area (gaps m.state) c (caller_view m c) (request_of s m c) x h).owner in
      let v : may_span_for s m.state.back.area (gaps m.state) c (caller_view m c) (request_of s m c) x.pages x.bucket kinds.Vs ≡ true = subst (λ (k : Kind). may_span_for s m.state.back.area (gaps m.state) c (caller_view m c) (request_of s m c) x.pages x.bucket k ≡ true) e r in
      let q = for_some_parts (asked (m.now.calls c)) (λ n. is_none (vs_place (gaps m.state) (units_of n)) && eqb x.pages (span_pages_of n)) (and_parts (caller_view m c).vs _ v).1 in
      (q.0, q.1, eqb-true x.pages (span_pages_of q.0) (and_parts (is_none (vs_place (gaps m.state) (units_of q.0))) (eqb x.pages (span_pages_of q.0)) q.2).1)

  -- .. and what has to follow is there
  pub due_act : (act : Act) → may s m c act ≡ true → IsDue (after s m (record { caller = c; act = act })).now.calls (state_after m.state (m.now.calls c) c act).back.area (state_after m.state (m.now.calls c) c act).back.places (demand_after m.state c act)
  due_act (acts.Span first pages kind bucket slot) h = (λ k. (spanned_heap (record { first = first; pages = pages; kind = kind; bucket = bucket; slot = slot }) h).1, λ k. by_kind k)
    where
      still : (k : Kind) → k ≡ kinds.Vs → asked (updated m.now.calls c (after_span s c (m.now.calls c) first k) c) ≡ asked (m.now.calls c)
      still kinds.Vs e = let f = eq-eqb c c refl in rw f refl
      still kinds.Lfh e = absurd (let z : ⊥ = cc in z)
      still kinds.Back e = absurd (let z : ⊥ = cc in z)
      still kinds.Header e = absurd (let z : ⊥ = cc in z)
      still kinds.Free e = absurd (let z : ⊥ = cc in z)

      by_kind : kind ≡ kinds.Vs → (n : ℕ) × (asked (updated m.now.calls c (after_span s c (m.now.calls c) first kind) c) ≡ Some n) × (pages ≡ span_pages_of n)
      by_kind k = let r = span_asked (record { first = first; pages = pages; kind = kind; bucket = bucket; slot = slot }) h k in (r.0, still kind k ∙ r.1, r.2)
  due_act (acts.Drop a) h = nothing (hand_at m.state c a)
    where
      either : (b : Bool) (n : ℕ) → IsDue (after s m (record { caller = c; act = acts.Drop a })).now.calls (state_after m.state (m.now.calls c) c (acts.Drop a)).back.area (state_after m.state (m.now.calls c) c (acts.Drop a)).back.places (cond b (UnspanBy c n) Nothing)
      either true n = tt
      either false n = tt

      nothing : (o : Option Place) → IsDue (after s m (record { caller = c; act = acts.Drop a })).now.calls (state_after m.state (m.now.calls c) c (acts.Drop a)).back.area (state_after m.state (m.now.calls c) c (acts.Drop a)).back.places (unspan_of c o)
      nothing None = tt
      nothing (Some p) = either (is_layer p.layer layers.Back) (p.start / 4096)
  due_act (acts.Reserve segment) h = tt
  due_act _ h = tt

  ---- VS spans are short

  not_back : (y z : Span) (pages : ℕ) → y.kind ≡ kinds.Vs → is_kind z.kind kinds.Back ≡ true → with_pages pages z ≡ y → ⊥
  not_back y z pages k e f =
      let g : z.kind ≡ kinds.Vs = ap (λ (x : Span). x.kind) f ∙ k in
      false≢true (subst (λ (j : Kind). is_kind j kinds.Back ≡ true) g e)

  resized_before : (y : Span) (granules : ℕ) (o : Option Place) → y.kind ≡ kinds.Vs → IsOneOf y (area_with m.state.back.area granules o).spans → IsOneOf y m.state.back.area.spans
  resized_before y granules None k i = i
  resized_before y granules (Some p) k i = elim (cases_Bool (is_layer p.layer layers.Back)) [
    | inr e ↦ (rw e at i)
    | inl e ↦ changed (changed_cases (is_back_at (p.start / 4096)) (with_pages (granules / 256)) y m.state.back.area.spans (rw e at i))
  ]
    where
      changed : IsOneOf y m.state.back.area.spans ⊎ ((z : Span) × IsOneOf z m.state.back.area.spans × (is_back_at (p.start / 4096) z ≡ true) × (with_pages (granules / 256) z ≡ y)) → IsOneOf y m.state.back.area.spans
      changed (inl j) = j
      changed (inr v) = absurd (not_back y v.0 (granules / 256) k (and_parts (begins_at (p.start / 4096) v.0) (is_kind v.0.kind kinds.Back) v.2).1 v.3)

  -- a VS span was there before, or waits now
  there_before : (y : Span) (act : Act) → y.kind ≡ kinds.Vs → IsOneOf y (state_after m.state (m.now.calls c) c act).back.area.spans → IsOneOf y m.state.back.area.spans ⊎ (demand_after m.state c act ≡ PlaceBy c y)
  there_before y (acts.Span first pages kind bucket slot) k i = elim (inserted_cases (record { first = first; pages = pages; kind = kind; bucket = bucket; slot = slot }) y m.state.back.area.spans i) [ inl e ↦ inr (ap (PlaceBy c) e) | inr j ↦ inl j ]
  there_before y (acts.Unspan first) k i = inl (removed_from (begins_at first) y m.state.back.area.spans i)
  there_before y (acts.Resize a granules size) k i = inl (resized_before y granules (place_at m.state c a) k i)
  there_before y (acts.Place start granules layers.Vs) k i = inl i
  there_before y (acts.Place start granules layers.Lfh) k i = inl i
  there_before y (acts.Place start granules layers.Back) k i = inl i
  there_before y (acts.Place start granules layers.Large) k i = inl i
  there_before y (acts.Blocked whats.Gate word) k i = inl i
  there_before y _ k i = inl i

  small_below : (n : ℕ) → (is_small (route_of n) || is_variable (route_of n)) ≡ true → n ≤ 131072
  small_below n h = elim (cases_Bool (leb n 16368)) [
    | inl e ↦ let l = leb-true n 16368 e in omega arith
    | inr e ↦ elim (cases_Bool (leb n 131072)) [
      | inl f ↦ leb-true n 131072 f
      | inr f ↦ elim (cases_Bool (leb n 520192)) [
        | inl g ↦ let k = rw (e, f, g) at h in absurd (false≢true k)
        | inr g ↦ let k = rw (e, f, g) at h in absurd (false≢true k)
      ]
    ]
  ]

  short_pages : (n : ℕ) → n ≤ 131072 → span_pages_of n ≤ 33
  short_pages n h = omega arith

  -- where a VS span waits, what follows is its place, of a size of VS
  waits_no_more : (d : ℕ) (y : Span) (act : Act) → y.kind ≡ kinds.Vs → m.now.demand ≡ PlaceBy d y → may s m c act ≡ true → meets_demand m.state.back.area (record { caller = c; act = act }) m.now.demand ≡ true → y.pages ≤ 33
  waits_no_more d y act k e h met =
      let v : (eqb c d && meets_place y act) ≡ true = subst (λ (z : Demand). meets_demand m.state.back.area (record { caller = c; act = act }) z ≡ true) e met in
      let u = and_parts (eqb c d) (meets_place y act) v in
      let w1 : IsDue m.now.calls m.state.back.area m.state.back.places (PlaceBy d y) = subst (IsDue m.now.calls m.state.back.area m.state.back.places) e w.due in
      by_act act h u.1 (subst (λ (z : ℕ). (n : ℕ) × (asked (m.now.calls z) ≡ Some n) × (y.pages ≡ span_pages_of n)) (sym (eqb-true c d u.0)) (w1.1 k))
    where
      vs_alone : (l : Layer) → is_layer_of y.kind l ≡ true → l ≡ layers.Vs
      vs_alone l f = of_vs l (subst (λ (j : Kind). is_layer_of j l ≡ true) k f)
        where
          of_vs : (l : Layer) → is_layer_of kinds.Vs l ≡ true → l ≡ layers.Vs
          of_vs layers.Vs f = refl
          of_vs layers.Lfh f = absurd (false≢true f)
          of_vs layers.Back f = absurd (false≢true f)
          of_vs layers.Large f = absurd (false≢true f)

      placed : (start granules : ℕ) → may s m c (acts.Place start granules layers.Vs) ≡ true → (n : ℕ) × (asked (m.now.calls c) ≡ Some n) × (y.pages ≡ span_pages_of n) → y.pages ≤ 33
      placed start granules h r =
          let p = for_some_parts (asked (m.now.calls c)) (λ n. (is_small (route_of n) || is_variable (route_of n)) && is_vs_place (gaps m.state) n start granules && may_place_small s m.state.back.area m.state.vs c (caller_view m c) (request_of s m c) n) (and_parts _ (for_some (asked (m.now.calls c)) _) h).1 in
          let q = (and_parts _ (may_place_small s m.state.back.area m.state.vs c (caller_view m c) (request_of s m c) p.0) p.2).0 in
          let t = (and_parts (is_small (route_of p.0) || is_variable (route_of p.0)) (is_vs_place (gaps m.state) p.0 start granules) q).0 in
          let same : Some p.0 ≡ Some r.0 = sym p.1 ∙ r.1 in
          let n : p.0 ≡ r.0 = cc in
          subst (λ (z : ℕ). z ≤ 33) (sym r.2) (short_pages r.0 (subst (λ (z : ℕ). z ≤ 131072) n (small_below p.0 t)))

      by_act : (act : Act) → may s m c act ≡ true → meets_place y act ≡ true → (n : ℕ) × (asked (m.now.calls c) ≡ Some n) × (y.pages ≡ span_pages_of n) → y.pages ≤ 33
      by_act (acts.Place start granules layer) h f r =
          let g = and_parts (is_layer_of y.kind layer && lies_in 4096 y (record { start = start; granules = granules; layer = layer; status = InHand 0 })) (not (is_kind y.kind kinds.Back) || eqb granules (256 * y.pages)) f in
          let l = vs_alone layer (and_parts (is_layer_of y.kind layer) (lies_in 4096 y (record { start = start; granules = granules; layer = layer; status = InHand 0 })) g.0).0 in
          placed start granules (subst (λ (j : Layer). may s m c (acts.Place start granules j) ≡ true) l h) r
      by_act _ h f r = absurd (false≢true f)

  pub short_act : (act : Act) → may s m c act ≡ true → meets_demand m.state.back.area (record { caller = c; act = act }) m.now.demand ≡ true → HasShortSpans (after s m (record { caller = c; act = act }))
  short_act act h met y i k = before (there_before y act k i)
    where
      before : IsOneOf y m.state.back.area.spans ⊎ (demand_after m.state c act ≡ PlaceBy c y) → (y.pages ≤ 33) ⊎ ((d : ℕ) × (demand_after m.state c act ≡ PlaceBy d y))
      before (inr e) = inr (c, e)
      before (inl j) = elim (w.short y j k) [
        | inl l ↦ inl l
        | inr v ↦ inl (waits_no_more v.0 y act k v.1 h met)
      ]
