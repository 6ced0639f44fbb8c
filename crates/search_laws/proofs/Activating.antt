-- Whole allocations, from a configuration at rest, of a bucket that is due and becomes active.
use Rattle.std.proofs.Common.{◌≡◌, ℕ, ◌+◌, ◌*◌, ◌/◌, ◌<◌, Bool, true, ◌||◌, List, [], ◌∷◌, Option, Some, None, refl, sym, ap, subst, ltb}
use Rattle.std.specs.List.{list_all}
use Rattle.std.proofs.lemmas.Bool.{eq-eqb}
use Rattle.heap_model.specs.declared.Call.{Call}
use Rattle.heap_model.specs.declared.Call.TheVariants as calls
use Rattle.heap_model.specs.declared.Act.TheVariants as acts
use Rattle.heap_model.specs.declared.Reply.{Reply}
use Rattle.heap_model.specs.declared.Reply.TheVariants as replies
use Rattle.heap_model.specs.declared.Kind.TheVariants as kinds
use Rattle.heap_model.specs.declared.What.TheVariants as whats
use Rattle.heap_model.specs.Geometry.{units_of, span_pages_of}
use Rattle.heap_model.specs.Buckets.{bucket_pages, block_address}
use Rattle.heap_model.specs.Runs.{Run}
use Rattle.heap_model.specs.State.{Setting, Area, BackPart, VsPart, Place, hands}
use Rattle.heap_model.specs.Backend.{back_place, free_runs}
use Rattle.heap_model.specs.Ranges.{gaps, gaps_of, vs_spans, vs_place}
use Rattle.heap_model.specs.CallState.{Configuration, CallState, SpanHistory}
use Rattle.heap_model.specs.Search.{SearchKey, spans_of, own_block}
use Rattle.heap_model.specs.Legal.{after, are_used, searched_once, with_span, is_run_of}
use Rattle.heap_model.specs.Alone.{at_rest, by_zero}
use Rattle.serial_laws.specs.BackCalls.{plain, one_more_reserved}
use Rattle.serial_laws.specs.VsCalls.{vs_span_for}
use Rattle.serial_laws.proofs.Allocate.{begins}
use Rattle.search_laws.specs.Reading.{pass_found, lfh_block}
use Rattle.search_laws.specs.Calls.{OnlyLfh, next_key, lfh_span, own_found, HasNoPlace, hint_put}
use Rattle.search_laws.specs.Falls.{OnlySmall, EndsSmall, HasNoRange, vs_with, IsInVsSpan}
use Rattle.search_laws.specs.Activates.{IsToActivate, activated, ActivatingSpanEnds, ActivatingReservingEnds, ActivatingFallGapEnds, ActivatingFallSpanEnds, ActivatingFallRefusalEnds}
use Rattle.search_laws.proofs.Ends.{EndsSo, EndsFrom, ends_act, ends_weaker}
use Rattle.search_laws.proofs.Within.{IsDry, dry_by_none, in_span, in_next_span}
use Rattle.search_laws.proofs.Falling.{to_gap, to_span, to_refusal}
use Rattle.search_laws.proofs.Fallen.{ends_small}

module _ (s : Setting) (back : BackPart) (vs : VsPart) (lfh large : List Place) (words : ℕ → ℕ) (states : ℕ → CallState) (disturbed : ℕ → Bool) (history : SpanHistory) (n b : ℕ)
    (room : 0 < s.limits.callers) (empty : hands (at_rest back vs lfh large words states disturbed history).state 0 ≡ []) (whole : are_used 4096 kinds.Back back.places back.area.spans ≡ true) (used : are_used 4096 kinds.Vs vs.places back.area.spans ≡ true)
    (to_activate : IsToActivate s (at_rest back vs lfh large words states disturbed history) n b) where
  abbrev start : Configuration
  start = at_rest back vs lfh large words states disturbed history

  abbrev call : Call
  call = calls.Alloc n plain

  abbrev now : VsPart
  now = activated vs b

  active : now.active b ≡ true
  active = let e = eq-eqb b b refl in rw e refl

  ---- The bucket becomes active under the lock of the variable-size layer, which is given back

  abbrev m1 : Configuration
  m1 = after s start (by_zero (acts.Begin call))

  abbrev m2 : Configuration
  m2 = after s m1 (by_zero acts.Enter)

  abbrev m3 : Configuration
  m3 = after s m2 (by_zero (acts.TakeLock whats.Vs))

  abbrev m4 : Configuration
  m4 = after s m3 (by_zero (acts.Active b))

  abbrev m5 : Configuration
  m5 = after s m4 (by_zero (acts.GiveLock whats.Vs))

  abbrev q : ℕ
  q = (states 0).searches + searched_once (states 0).search.stage

  abbrev g : SearchKey
  g = next_key s start n b

  ends_active : (reply : Reply) (area : Area) (v : VsPart) (places : List Place) (hints : ℕ → ℕ → Option ℕ) → EndsSo s m5 call reply (λ k. OnlySmall start k area v places hints) → EndsSmall s start call reply area v places hints
  ends_active reply area v places hints e =
      let Left : Configuration → Type 0 = λ k. OnlySmall start k area v places hints in
      let bucket = to_activate.bucket in
      let inactive = to_activate.inactive in
      let due = to_activate.due in
      let same = eq-eqb b b refl in
      ends_small s start call reply area v places hints (begins s _ room empty)
      (ends_act s call reply Left m1 acts.Enter refl refl
      (ends_act s call reply Left m2 (acts.TakeLock whats.Vs) refl refl
      (ends_act s call reply Left m3 (acts.Active b) refl (rw (bucket, same, inactive, due) refl)
      (ends_act s call reply Left m4 (acts.GiveLock whats.Vs) refl used e))))

  -- there is no hint
  dry : IsDry s m5 (acts.NoHint b (s.slot 0) ∷ [])
  dry = dry_by_none s back now lfh large words history n b q to_activate.bucket active to_activate.in_order m4.now.calls m5.now.disturbed to_activate.none

  no_block : pass_found lfh g (spans_of back.area b (s.slot 0)) ≡ None
  no_block = ap (pass_found lfh g) to_activate.none

  ---- A span is made

  -- the bucket was active from the start
  abbrev old : Configuration
  old = at_rest back now lfh large words states disturbed history

  as_small : (reply : Reply) (area : Area) (places : List Place) (hints : ℕ → ℕ → Option ℕ) → EndsFrom s old m5 call reply area places hints (q + 1) → EndsSmall s start call reply area now places hints
  as_small reply area places hints e =
      ends_active reply area now places hints
      (ends_weaker s call reply (λ k. OnlyLfh old k area places hints (q + 1)) (λ k. OnlySmall start k area now places hints)
      (λ k o. record { area_is = o.area_is; vs_is = o.vs; lfh_is = o.places_are; hints_are = o.hints_are; back = o.back; large = o.large; words = o.words; searches = o.searches_are }) m5 e)

  module _ (first : ℕ) (clear : HasNoPlace s start n b first) where
    made_span : back_place back.area s.limits.segments (bucket_pages b) ≡ Some first → first / 256 < back.area.reserved →
        EndsSmall s start call (replies.Address (block_address b first (own_block g))) (with_span back.area (lfh_span first b (s.slot 0))) now (lfh_block b n (own_found s start n b first) ∷ lfh) (hint_put history.hints b (s.slot 0) first)
    made_span fits reserved =
        as_small (replies.Address (block_address b first (own_block g))) (with_span back.area (lfh_span first b (s.slot 0))) (lfh_block b n (own_found s start n b first) ∷ lfh) (hint_put history.hints b (s.slot 0) first)
        (in_span s back now lfh large words history n b q to_activate.bucket active to_activate.in_order empty whole used states disturbed m4.now.calls m5.now.disturbed (acts.NoHint b (s.slot 0) ∷ []) first dry no_block clear fits reserved)

    made_next_span : back_place (one_more_reserved back.area) s.limits.segments (bucket_pages b) ≡ Some first → first / 256 < back.area.reserved + 1 → back.area.reserved < s.limits.segments →
        list_all (λ r. is_run_of back.area.reserved r || ltb r.count (bucket_pages b)) (free_runs (one_more_reserved back.area)) ≡ true →
        EndsSmall s start call (replies.Address (block_address b first (own_block g))) (with_span (one_more_reserved back.area) (lfh_span first b (s.slot 0))) now (lfh_block b n (own_found s start n b first) ∷ lfh)
        (hint_put history.hints b (s.slot 0) first)
    made_next_span fits reserved lower only =
        as_small (replies.Address (block_address b first (own_block g))) (with_span (one_more_reserved back.area) (lfh_span first b (s.slot 0))) (lfh_block b n (own_found s start n b first) ∷ lfh) (hint_put history.hints b (s.slot 0) first)
        (in_next_span s back now lfh large words history n b q to_activate.bucket active to_activate.in_order empty whole used states disturbed m4.now.calls m5.now.disturbed (acts.NoHint b (s.slot 0) ∷ []) first dry no_block clear fits reserved lower only)

  ---- No range is there

  module _ (no_range : back_place back.area s.limits.segments (bucket_pages b) ≡ None) where
    in_gap : (r : Run) → vs_place (gaps_of (vs_spans back.area) vs.places) (units_of n) ≡ Some r → EndsSmall s start call (replies.Address (16 * r.first + 16)) back.area (vs_with now r n b) lfh history.hints
    in_gap r fits =
        ends_active (replies.Address (16 * r.first + 16)) back.area (vs_with now r n b) lfh history.hints
        (to_gap s back now lfh large words history n b q to_activate.bucket active to_activate.in_order no_range empty whole used start refl refl refl refl m4.now.calls m5.now.disturbed (acts.NoHint b (s.slot 0) ∷ []) dry no_block r fits)

    in_vs_span : (first : ℕ) (r : Run) → IsInVsSpan s start n first r →
        EndsSmall s start call (replies.Address (16 * r.first + 16)) (with_span back.area (vs_span_for first n)) (vs_with now r n b) lfh history.hints
    in_vs_span first r h =
        ends_active (replies.Address (16 * r.first + 16)) (with_span back.area (vs_span_for first n)) (vs_with now r n b) lfh history.hints
        (to_span s back now lfh large words history n b q to_activate.bucket active to_activate.in_order no_range empty whole used start refl refl refl refl m4.now.calls m5.now.disturbed (acts.NoHint b (s.slot 0) ∷ []) dry no_block first r h.none h.place h.fits)

    refuses : vs_place (gaps_of (vs_spans back.area) vs.places) (units_of n) ≡ None → back_place back.area s.limits.segments (span_pages_of n) ≡ None → EndsSmall s start call replies.NoFit back.area now lfh history.hints
    refuses no_gap no_span =
        ends_active replies.NoFit back.area now lfh history.hints
        (to_refusal s back now lfh large words history n b q to_activate.bucket active to_activate.in_order no_range empty whole used start refl refl refl refl m4.now.calls m5.now.disturbed (acts.NoHint b (s.slot 0) ∷ []) dry no_block no_gap no_span)

---- .. from any configuration at rest

abbrev rested : Configuration → Configuration
rested m = at_rest m.state.back m.state.vs m.state.lfh m.state.large m.state.words m.now.calls m.now.disturbed m.now.span_history

pub activating_span : ActivatingSpanEnds
activating_span s m n b first room a l fits reserved clear =
    let E : Configuration → Type 0 = λ m. IsToActivate s m n b → back_place m.state.back.area s.limits.segments (bucket_pages b) ≡ Some first → first / 256 < m.state.back.area.reserved → HasNoPlace s m n b first →
    EndsSmall s m (calls.Alloc n plain) (replies.Address (block_address b first (own_found s m n b first).index)) (with_span m.state.back.area (lfh_span first b (s.slot 0))) (activated m.state.vs b)
    (lfh_block b n (own_found s m n b first) ∷ m.state.lfh) (hint_put m.now.span_history.hints b (s.slot 0) first) in
    let there : E (rested m) = λ l fits reserved clear.
    made_span s m.state.back m.state.vs m.state.lfh m.state.large m.state.words m.now.calls m.now.disturbed m.now.span_history n b room a.hands a.whole a.used l first clear fits reserved in
    subst E (sym a.rest) there l fits reserved clear

pub activating_reserving : ActivatingReservingEnds
activating_reserving s m n b first room a l fits reserved lower only clear =
    let E : Configuration → Type 0 = λ m. IsToActivate s m n b → back_place (one_more_reserved m.state.back.area) s.limits.segments (bucket_pages b) ≡ Some first → first / 256 < m.state.back.area.reserved + 1 → m.state.back.area.reserved < s.limits.segments →
    list_all (λ r. is_run_of m.state.back.area.reserved r || ltb r.count (bucket_pages b)) (free_runs (one_more_reserved m.state.back.area)) ≡ true → HasNoPlace s m n b first →
    EndsSmall s m (calls.Alloc n plain) (replies.Address (block_address b first (own_found s m n b first).index)) (with_span (one_more_reserved m.state.back.area) (lfh_span first b (s.slot 0))) (activated m.state.vs b)
    (lfh_block b n (own_found s m n b first) ∷ m.state.lfh) (hint_put m.now.span_history.hints b (s.slot 0) first) in
    let there : E (rested m) = λ l fits reserved lower only clear.
    made_next_span s m.state.back m.state.vs m.state.lfh m.state.large m.state.words m.now.calls m.now.disturbed m.now.span_history n b room a.hands a.whole a.used l first clear fits reserved lower only in
    subst E (sym a.rest) there l fits reserved lower only clear

pub activating_fall_gap : ActivatingFallGapEnds
activating_fall_gap s m n b r room a l no_range fits =
    let E : Configuration → Type 0 = λ m. IsToActivate s m n b → HasNoRange s m b → vs_place (gaps m.state) (units_of n) ≡ Some r →
    EndsSmall s m (calls.Alloc n plain) (replies.Address (16 * r.first + 16)) m.state.back.area (vs_with (activated m.state.vs b) r n b) m.state.lfh m.now.span_history.hints in
    let there : E (rested m) = λ l no_range fits.
    in_gap s m.state.back m.state.vs m.state.lfh m.state.large m.state.words m.now.calls m.now.disturbed m.now.span_history n b room a.hands a.whole a.used l no_range r fits in
    subst E (sym a.rest) there l no_range fits

pub activating_fall_span : ActivatingFallSpanEnds
activating_fall_span s m n b first r room a l no_range h =
    let E : Configuration → Type 0 = λ m. IsToActivate s m n b → HasNoRange s m b → IsInVsSpan s m n first r →
    EndsSmall s m (calls.Alloc n plain) (replies.Address (16 * r.first + 16)) (with_span m.state.back.area (vs_span_for first n)) (vs_with (activated m.state.vs b) r n b) m.state.lfh m.now.span_history.hints in
    let there : E (rested m) = λ l no_range h.
    in_vs_span s m.state.back m.state.vs m.state.lfh m.state.large m.state.words m.now.calls m.now.disturbed m.now.span_history n b room a.hands a.whole a.used l no_range first r h in
    subst E (sym a.rest) there l no_range h

pub activating_fall_refusal : ActivatingFallRefusalEnds
activating_fall_refusal s m n b room a l no_range no_gap no_span =
    let E : Configuration → Type 0 = λ m. IsToActivate s m n b → HasNoRange s m b → vs_place (gaps m.state) (units_of n) ≡ None → back_place m.state.back.area s.limits.segments (span_pages_of n) ≡ None →
    EndsSmall s m (calls.Alloc n plain) replies.NoFit m.state.back.area (activated m.state.vs b) m.state.lfh m.now.span_history.hints in
    let there : E (rested m) = λ l no_range no_gap no_span.
    refuses s m.state.back m.state.vs m.state.lfh m.state.large m.state.words m.now.calls m.now.disturbed m.now.span_history n b room a.hands a.whole a.used l no_range no_gap no_span in
    subst E (sym a.rest) there l no_range no_gap no_span
