-- Whole allocations by the low-fragmentation front end, from a configuration at rest.
use Rattle.std.proofs.Common.{◌≡◌, ℕ, ◌+◌, ◌/◌, ◌<◌, ◌≤◌, Bool, true, ◌&&◌, ◌||◌, List, [], ◌∷◌, Option, Some, None, refl, sym, ap, subst, ◌∙◌, eqb, ltb, inl, inr}
use Rattle.std.proofs.lemmas.Bool.{and_parts, eqb-true}
use Rattle.std.specs.List.{list_all}
use Rattle.heap_model.specs.declared.Call.{Call}
use Rattle.heap_model.specs.declared.Call.TheVariants as calls
use Rattle.heap_model.specs.declared.Act.{Act}
use Rattle.heap_model.specs.declared.Act.TheVariants as acts
use Rattle.heap_model.specs.declared.Reply.{Reply}
use Rattle.heap_model.specs.declared.Reply.TheVariants as replies
use Rattle.heap_model.specs.declared.Kind.TheVariants as kinds
use Rattle.heap_model.specs.Buckets.{bucket_of, bucket_pages, block_address}
use Rattle.heap_model.specs.State.{Setting, Area, BackPart, VsPart, Span, Place, is_kind, hands, updated}
use Rattle.heap_model.specs.Backend.{back_place, free_runs}
use Rattle.heap_model.specs.CallState.{Configuration, CallState, SpanHistory, Nothing}
use Rattle.heap_model.specs.Search.{SearchKey, spans_of, is_span_of, hint, own_block}
use Rattle.heap_model.specs.Legal.{after, are_used, begun, searched_once, with_span, is_run_of}
use Rattle.heap_model.specs.Alone.{at_rest, by_zero, configuration_by}
use Rattle.heap_soundness.specs.Sound.{IsOneOf, AreInOrder}
use Rattle.heap_soundness.proofs.Enums.{kind_is}
use Rattle.heap_soundness.proofs.MadeSpans.{bucket_is}
use Rattle.heap_soundness.proofs.GapRuns.{filtered_cases}
use Rattle.serial_laws.specs.OneCall.{searches_of}
use Rattle.serial_laws.specs.BackCalls.{plain, one_more_reserved}
use Rattle.serial_laws.proofs.Allocate.{begins}
use Rattle.search_laws.specs.Reading.{Found, pass_found, reads_of, lfh_block}
use Rattle.search_laws.specs.Laws.{search_of, LeadsTo, HasPicked, HintGives}
use Rattle.search_laws.specs.Calls.{OnlyLfh, EndsLfh, next_key, hint_put, HintHasNone, HintAllocationEnds, PassAllocationEnds, lfh_span, own_found, NoneIsFree, HasNoPlace, LfhSpanAllocationEnds, ReservingLfhSpanEnds}
use Rattle.search_laws.proofs.Searching.{hint_is_read}
use Rattle.search_laws.proofs.Blocks.{some_size, found_free, pass_parts}
use Rattle.search_laws.proofs.Ends.{as_is, EndsFrom, ends_act, ends_acts, ends_call, span_silent}
use Rattle.search_laws.proofs.Placing.{ends_free, ends_locked, over_is}
use Rattle.search_laws.proofs.Within.{IsDry, searches, dry_by_reading, dry_by_none, pass_then, in_span, in_next_span}

-- a span of the bucket and the slot
pub record IsOf (b t : ℕ) (x : Span) : Type 0 where
  pub kind : x.kind ≡ kinds.Lfh
  pub bucket : x.bucket ≡ b
  pub slot : x.slot ≡ t

pub of_bucket : (b t : ℕ) (x : Span) → is_span_of b t x ≡ true → IsOf b t x
of_bucket b t x h =
    let p = and_parts (is_kind x.kind kinds.Lfh && eqb x.bucket b) (eqb x.slot t) h in
    let q = and_parts (is_kind x.kind kinds.Lfh) (eqb x.bucket b) p.0 in
    record { kind = kind_is x.kind kinds.Lfh q.0; bucket = eqb-true x.bucket b q.1; slot = eqb-true x.slot t p.1 }

module _ (s : Setting) (back : BackPart) (vs : VsPart) (lfh large : List Place) (words : ℕ → ℕ) (states : ℕ → CallState) (disturbed : ℕ → Bool) (history : SpanHistory) (n b : ℕ)
    (room : 0 < s.limits.callers) (empty : hands (at_rest back vs lfh large words states disturbed history).state 0 ≡ []) (whole : are_used 4096 kinds.Back back.places back.area.spans ≡ true) (used : are_used 4096 kinds.Vs vs.places back.area.spans ≡ true)
    (is_bucket : bucket_of n ≡ Some b) (active : vs.active b ≡ true) (in_order : AreInOrder 0 back.area.spans) where
  abbrev start : Configuration
  start = at_rest back vs lfh large words states disturbed history

  -- inside, before the search
  abbrev entered : Configuration
  entered = after s (after s start (by_zero (acts.Begin (calls.Alloc n plain)))) (by_zero acts.Enter)

  abbrev q : ℕ
  q = (states 0).searches + searched_once (states 0).search.stage

  abbrev g : SearchKey
  g = next_key s start n b

  abbrev spans : List Span
  spans = spans_of back.area b (s.slot 0)

  range : (1 ≤ b) × (b ≤ 128)
  range = bucket_is (Some n) b is_bucket

  abbrev others : ℕ → CallState
  others = updated states 0 (begun (states 0) (calls.Alloc n plain))

  abbrev call : Call
  call = calls.Alloc n plain

  -- a call that ends from there
  ends_entered : (reply : Reply) (area : Area) (places : List Place) (hints : ℕ → ℕ → Option ℕ) → EndsFrom s start entered call reply area places hints (q + 1) → EndsLfh s start call reply area places hints (q + 1)
  ends_entered reply area places hints e =
      ends_call s start call reply area places hints (q + 1) (begins s _ room empty)
      (ends_act s call reply (λ k. OnlyLfh start k area places hints (q + 1)) (after s start (by_zero (acts.Begin call))) acts.Enter refl refl e)

  in_hint : (x : Span) (f : Found) → hint back.area history b (s.slot 0) ≡ Some x.first → IsOneOf x spans → pass_found lfh g (x ∷ []) ≡ Some f →
      EndsLfh s start call (replies.Address (block_address b f.span.first f.index)) back.area (lfh_block b n f ∷ lfh) history.hints (q + 1)
  in_hint x f hinted there is_found =
      ends_entered reply back.area places history.hints
      (ends_acts s call reply (λ k. OnlyLfh start k back.area places history.hints (q + 1)) (reads_of lfh g x) entered (span_silent lfh g x) r.legal ends)
    where
      reply : Reply
      reply = replies.Address (block_address b f.span.first f.index)

      places : List Place
      places = lfh_block b n f ∷ lfh

      r : LeadsTo s entered (reads_of lfh g x) (HasPicked f)
      r = subst (λ (o : Option Found). LeadsTo s entered (reads_of lfh g x) (HintGives o)) is_found
          (hint_is_read s entered b x (searches s back vs lfh large words history n b q is_bucket active in_order others entered.now.disturbed) refl hinted there)

      here : Configuration
      here = configuration_by s entered (reads_of lfh g x)

      is_there : IsOneOf f.span (x ∷ []) → IsOneOf f.span spans
      is_there (inl e) = subst (λ (y : Span). IsOneOf y spans) e there
      is_there (inr i) = absurd i

      ends : EndsFrom s start here call reply back.area places history.hints (q + 1)
      ends =
          let parts = pass_parts lfh g (x ∷ []) f is_found in
          let i = is_there parts.0 in
          let of = of_bucket b (s.slot 0) f.span (filtered_cases (is_span_of b (s.slot 0)) f.span back.area.spans i).1 in
          let free = found_free lfh g f.span of.bucket f.index parts.1 in
          subst (λ (m : Configuration). EndsFrom s start m call reply back.area places history.hints (q + 1)) (sym (as_is entered here r.only))
          (ends_free s back vs lfh large words n b q f.span f.index is_bucket active range empty whole used i free.clear start here.now.calls (search_of here) entered.now.disturbed history r.holds.picked r.holds.read r.holds.counts refl refl refl refl)

  -- the hint has no free block: what is read of it
  pub dry_hint : HintHasNone s start n b (hint back.area history b (s.slot 0)) → (rest : List Act) × IsDry s entered rest
  dry_hint none = by_hint (hint back.area history b (s.slot 0)) refl none
    where
      by_hint : (o : Option ℕ) → hint back.area history b (s.slot 0) ≡ o → HintHasNone s start n b o → (rest : List Act) × IsDry s entered rest
      by_hint None e none = (acts.NoHint b (s.slot 0) ∷ [], dry_by_none s back vs lfh large words history n b q is_bucket active in_order others entered.now.disturbed none)
      by_hint (Some first) e none =
          let x = none.0 in
          (reads_of lfh g x, dry_by_reading s back vs lfh large words history n b q is_bucket active in_order others entered.now.disturbed x (e ∙ ap Some (sym none.1)) none.2 none.3)

  in_pass : (f : Found) → HintHasNone s start n b (hint back.area history b (s.slot 0)) → pass_found lfh g spans ≡ Some f → f.span.pages ≡ bucket_pages b →
      EndsLfh s start call (replies.Address (block_address b f.span.first f.index)) back.area (lfh_block b n f ∷ lfh) (hint_put history.hints b (s.slot 0) f.span.first) (q + 1)
  in_pass f none is_found pages =
      let reply = replies.Address (block_address b f.span.first f.index) in
      let places = lfh_block b n f ∷ lfh in
      let hints = hint_put history.hints b (s.slot 0) f.span.first in
      let dry = dry_hint none in
      ends_entered reply back.area places hints
      (pass_then s back vs lfh large words history n b q is_bucket active in_order call reply (λ k. OnlyLfh start k back.area places hints (q + 1)) others entered.now.disturbed dry.0 (Some f) dry.1 is_found (λ other k picks.
      let parts = pass_parts lfh g spans f is_found in
      let i = filtered_cases (is_span_of b (s.slot 0)) f.span back.area.spans parts.0 in
      let of = of_bucket b (s.slot 0) f.span i.1 in
      let free = found_free lfh g f.span of.bucket f.index parts.1 in
      let over = over_is back.area.spans b f.span f.index in_order i.0 of.kind pages (some_size b range.0 range.1) free.below in
      ends_locked s back vs lfh large words n b q f.span f.index is_bucket active range empty whole used parts.0 free.clear start other k entered.now.disturbed history Nothing picks.picked picks.read picks.counts over of.bucket of.slot refl refl refl refl refl))

  made_span : (first : ℕ) → NoneIsFree s start n b → back_place back.area s.limits.segments (bucket_pages b) ≡ Some first → first / 256 < back.area.reserved → HasNoPlace s start n b first →
      EndsLfh s start call (replies.Address (block_address b first (own_block g))) (with_span back.area (lfh_span first b (s.slot 0))) (lfh_block b n (own_found s start n b first) ∷ lfh) (hint_put history.hints b (s.slot 0) first) (q + 1)
  made_span first none fits reserved clear =
      let dry = dry_hint none.hint in
      ends_entered (replies.Address (block_address b first (own_block g))) (with_span back.area (lfh_span first b (s.slot 0))) (lfh_block b n (own_found s start n b first) ∷ lfh) (hint_put history.hints b (s.slot 0) first)
      (in_span s back vs lfh large words history n b q is_bucket active in_order empty whole used states disturbed others entered.now.disturbed dry.0 first dry.1 none.pass clear fits reserved)

  made_next_span : (first : ℕ) → NoneIsFree s start n b → back_place (one_more_reserved back.area) s.limits.segments (bucket_pages b) ≡ Some first → first / 256 < back.area.reserved + 1 → back.area.reserved < s.limits.segments →
      list_all (λ r. is_run_of back.area.reserved r || ltb r.count (bucket_pages b)) (free_runs (one_more_reserved back.area)) ≡ true → HasNoPlace s start n b first →
      EndsLfh s start call (replies.Address (block_address b first (own_block g))) (with_span (one_more_reserved back.area) (lfh_span first b (s.slot 0))) (lfh_block b n (own_found s start n b first) ∷ lfh) (hint_put history.hints b (s.slot 0) first) (q + 1)
  made_next_span first none fits reserved lower only clear =
      let dry = dry_hint none.hint in
      ends_entered (replies.Address (block_address b first (own_block g))) (with_span (one_more_reserved back.area) (lfh_span first b (s.slot 0))) (lfh_block b n (own_found s start n b first) ∷ lfh) (hint_put history.hints b (s.slot 0) first)
      (in_next_span s back vs lfh large words history n b q is_bucket active in_order empty whole used states disturbed others entered.now.disturbed dry.0 first dry.1 none.pass clear fits reserved lower only)

pub hint_allocation : HintAllocationEnds
hint_allocation s m n b x f room r l hinted there is_found =
    let E : Configuration → Type 0 = λ m. EndsLfh s m (calls.Alloc n plain) (replies.Address (block_address b f.span.first f.index)) m.state.back.area (lfh_block b n f ∷ m.state.lfh) m.now.span_history.hints (searches_of m + 1) in
    subst E (sym r.rest) (in_hint s m.state.back m.state.vs m.state.lfh m.state.large m.state.words m.now.calls m.now.disturbed m.now.span_history n b room r.hands r.whole r.used l.bucket l.active l.in_order x f hinted there is_found)

pub pass_allocation : PassAllocationEnds
pass_allocation s m n b f room r l none is_found pages =
    let E : Configuration → Type 0 = λ m. EndsLfh s m (calls.Alloc n plain) (replies.Address (block_address b f.span.first f.index)) m.state.back.area (lfh_block b n f ∷ m.state.lfh) (hint_put m.now.span_history.hints b (s.slot 0) f.span.first) (searches_of m + 1) in
    subst E (sym r.rest) (in_pass s m.state.back m.state.vs m.state.lfh m.state.large m.state.words m.now.calls m.now.disturbed m.now.span_history n b room r.hands r.whole r.used l.bucket l.active l.in_order f none is_found pages)

pub lfh_span_allocation : LfhSpanAllocationEnds
lfh_span_allocation s m n b first room r l none fits reserved clear =
    let E : Configuration → Type 0 = λ m. NoneIsFree s m n b → back_place m.state.back.area s.limits.segments (bucket_pages b) ≡ Some first → first / 256 < m.state.back.area.reserved → HasNoPlace s m n b first →
    EndsLfh s m (calls.Alloc n plain) (replies.Address (block_address b first (own_found s m n b first).index)) (with_span m.state.back.area (lfh_span first b (s.slot 0))) (lfh_block b n (own_found s m n b first) ∷ m.state.lfh) (hint_put m.now.span_history.hints b (s.slot 0) first) (searches_of m + 1) in
    let at_rest : E (at_rest m.state.back m.state.vs m.state.lfh m.state.large m.state.words m.now.calls m.now.disturbed m.now.span_history) =
    made_span s m.state.back m.state.vs m.state.lfh m.state.large m.state.words m.now.calls m.now.disturbed m.now.span_history n b room r.hands r.whole r.used l.bucket l.active l.in_order first in
    subst E (sym r.rest) at_rest none fits reserved clear

pub reserving_lfh_span : ReservingLfhSpanEnds
reserving_lfh_span s m n b first room r l none fits reserved lower only clear =
    let E : Configuration → Type 0 = λ m. NoneIsFree s m n b → back_place (one_more_reserved m.state.back.area) s.limits.segments (bucket_pages b) ≡ Some first → first / 256 < m.state.back.area.reserved + 1 → m.state.back.area.reserved < s.limits.segments →
    list_all (λ r. is_run_of m.state.back.area.reserved r || ltb r.count (bucket_pages b)) (free_runs (one_more_reserved m.state.back.area)) ≡ true → HasNoPlace s m n b first →
    EndsLfh s m (calls.Alloc n plain) (replies.Address (block_address b first (own_found s m n b first).index)) (with_span (one_more_reserved m.state.back.area) (lfh_span first b (s.slot 0))) (lfh_block b n (own_found s m n b first) ∷ m.state.lfh) (hint_put m.now.span_history.hints b (s.slot 0) first) (searches_of m + 1) in
    let at_rest : E (at_rest m.state.back m.state.vs m.state.lfh m.state.large m.state.words m.now.calls m.now.disturbed m.now.span_history) =
    made_next_span s m.state.back m.state.vs m.state.lfh m.state.large m.state.words m.now.calls m.now.disturbed m.now.span_history n b room r.hands r.whole r.used l.bucket l.active l.in_order first in
    subst E (sym r.rest) at_rest none fits reserved lower only clear
