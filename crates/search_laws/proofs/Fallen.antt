-- Whole allocations, from a configuration at rest, of a bucket that is active and cannot be served.
use Rattle.std.proofs.Common.{◌≡◌, ℕ, ◌+◌, ◌*◌, ◌<◌, Bool, true, List, [], Option, Some, None, refl, sym, subst}
use Rattle.heap_model.specs.declared.Call.{Call}
use Rattle.heap_model.specs.declared.Call.TheVariants as calls
use Rattle.heap_model.specs.declared.Act.TheVariants as acts
use Rattle.heap_model.specs.declared.Reply.{Reply}
use Rattle.heap_model.specs.declared.Reply.TheVariants as replies
use Rattle.heap_model.specs.declared.Kind.TheVariants as kinds
use Rattle.heap_model.specs.Geometry.{units_of, span_pages_of}
use Rattle.heap_model.specs.Buckets.{bucket_of, bucket_pages}
use Rattle.heap_model.specs.Runs.{Run}
use Rattle.heap_model.specs.State.{Setting, Area, BackPart, VsPart, Place, hands, updated}
use Rattle.heap_model.specs.Backend.{back_place}
use Rattle.heap_model.specs.Ranges.{gaps, gaps_of, vs_spans, vs_place}
use Rattle.heap_model.specs.CallState.{Configuration, CallState, SpanHistory}
use Rattle.heap_model.specs.Legal.{after, are_used, begun, may_follow, searched_once, with_span}
use Rattle.heap_model.specs.Alone.{at_rest, by_zero}
use Rattle.heap_soundness.specs.Sound.{AreInOrder}
use Rattle.serial_laws.specs.BackCalls.{plain}
use Rattle.serial_laws.specs.VsCalls.{vs_span_for}
use Rattle.serial_laws.proofs.Allocate.{begins}
use Rattle.search_laws.specs.Calls.{NoneIsFree}
use Rattle.search_laws.specs.Falls.{OnlySmall, EndsSmall, HasNoRange, vs_with, IsInVsSpan, FallGapEnds, FallSpanEnds, FallRefusalEnds}
use Rattle.search_laws.proofs.Ends.{EndsSo, begins_so, ends_act}
use Rattle.search_laws.proofs.Falling.{to_gap, to_span, to_refusal}
use Rattle.search_laws.proofs.Whole.{dry_hint}

-- a call that ends so from its Begin on
pub ends_small : (s : Setting) (old : Configuration) (call : Call) (reply : Reply) (area : Area) (vs : VsPart) (lfh : List Place) (hints : ℕ → ℕ → Option ℕ) → may_follow s old (by_zero (acts.Begin call)) ≡ true →
    EndsSo s (after s old (by_zero (acts.Begin call))) call reply (λ k. OnlySmall old k area vs lfh hints) → EndsSmall s old call reply area vs lfh hints
ends_small s old call reply area vs lfh hints l e = record { rest = e.rest; completes = begins_so s call reply (λ k. OnlySmall old k area vs lfh hints) old l e; at_rest = e.at_rest; only = e.only }

module _ (s : Setting) (back : BackPart) (vs : VsPart) (lfh large : List Place) (words : ℕ → ℕ) (states : ℕ → CallState) (disturbed : ℕ → Bool) (history : SpanHistory) (n b : ℕ)
    (room : 0 < s.limits.callers) (empty : hands (at_rest back vs lfh large words states disturbed history).state 0 ≡ []) (whole : are_used 4096 kinds.Back back.places back.area.spans ≡ true) (used : are_used 4096 kinds.Vs vs.places back.area.spans ≡ true)
    (is_bucket : bucket_of n ≡ Some b) (active : vs.active b ≡ true) (in_order : AreInOrder 0 back.area.spans)
    (none : NoneIsFree s (at_rest back vs lfh large words states disturbed history) n b) (no_range : back_place back.area s.limits.segments (bucket_pages b) ≡ None) where
  abbrev start : Configuration
  start = at_rest back vs lfh large words states disturbed history

  abbrev call : Call
  call = calls.Alloc n plain

  abbrev begun_so : Configuration
  begun_so = after s start (by_zero (acts.Begin call))

  abbrev entered : Configuration
  entered = after s begun_so (by_zero acts.Enter)

  abbrev q : ℕ
  q = (states 0).searches + searched_once (states 0).search.stage

  abbrev others : ℕ → CallState
  others = updated states 0 (begun (states 0) call)

  ends_entered : (reply : Reply) (area : Area) (v : VsPart) → EndsSo s entered call reply (λ k. OnlySmall start k area v lfh history.hints) → EndsSmall s start call reply area v lfh history.hints
  ends_entered reply area v e =
      ends_small s start call reply area v lfh history.hints (begins s _ room empty)
      (ends_act s call reply (λ k. OnlySmall start k area v lfh history.hints) begun_so acts.Enter refl refl e)

  in_gap : (r : Run) → vs_place (gaps_of (vs_spans back.area) vs.places) (units_of n) ≡ Some r → EndsSmall s start call (replies.Address (16 * r.first + 16)) back.area (vs_with vs r n b) lfh history.hints
  in_gap r fits =
      let dry = dry_hint s back vs lfh large words states disturbed history n b room empty whole used is_bucket active in_order none.hint in
      ends_entered (replies.Address (16 * r.first + 16)) back.area (vs_with vs r n b)
      (to_gap s back vs lfh large words history n b q is_bucket active in_order no_range empty whole used start refl refl refl refl others entered.now.disturbed dry.0 dry.1 none.pass r fits)

  in_span : (first : ℕ) (r : Run) → IsInVsSpan s start n first r →
      EndsSmall s start call (replies.Address (16 * r.first + 16)) (with_span back.area (vs_span_for first n)) (vs_with vs r n b) lfh history.hints
  in_span first r h =
      let dry = dry_hint s back vs lfh large words states disturbed history n b room empty whole used is_bucket active in_order none.hint in
      ends_entered (replies.Address (16 * r.first + 16)) (with_span back.area (vs_span_for first n)) (vs_with vs r n b)
      (to_span s back vs lfh large words history n b q is_bucket active in_order no_range empty whole used start refl refl refl refl others entered.now.disturbed dry.0 dry.1 none.pass first r h.none h.place h.fits)

  refuses : vs_place (gaps_of (vs_spans back.area) vs.places) (units_of n) ≡ None → back_place back.area s.limits.segments (span_pages_of n) ≡ None → EndsSmall s start call replies.NoFit back.area vs lfh history.hints
  refuses no_gap no_span =
      let dry = dry_hint s back vs lfh large words states disturbed history n b room empty whole used is_bucket active in_order none.hint in
      ends_entered replies.NoFit back.area vs
      (to_refusal s back vs lfh large words history n b q is_bucket active in_order no_range empty whole used start refl refl refl refl others entered.now.disturbed dry.0 dry.1 none.pass no_gap no_span)

---- .. from any configuration at rest

pub fall_gap : FallGapEnds
fall_gap s m n b r room a l none no_range fits =
    let E : Configuration → Type 0 = λ m. NoneIsFree s m n b → HasNoRange s m b → vs_place (gaps m.state) (units_of n) ≡ Some r →
    EndsSmall s m (calls.Alloc n plain) (replies.Address (16 * r.first + 16)) m.state.back.area (vs_with m.state.vs r n b) m.state.lfh m.now.span_history.hints in
    let at_rest : E (at_rest m.state.back m.state.vs m.state.lfh m.state.large m.state.words m.now.calls m.now.disturbed m.now.span_history) = λ none no_range fits.
    in_gap s m.state.back m.state.vs m.state.lfh m.state.large m.state.words m.now.calls m.now.disturbed m.now.span_history n b room a.hands a.whole a.used l.bucket l.active l.in_order none no_range r fits in
    subst E (sym a.rest) at_rest none no_range fits

pub fall_span : FallSpanEnds
fall_span s m n b first r room a l none no_range h =
    let E : Configuration → Type 0 = λ m. NoneIsFree s m n b → HasNoRange s m b → IsInVsSpan s m n first r →
    EndsSmall s m (calls.Alloc n plain) (replies.Address (16 * r.first + 16)) (with_span m.state.back.area (vs_span_for first n)) (vs_with m.state.vs r n b) m.state.lfh m.now.span_history.hints in
    let at_rest : E (at_rest m.state.back m.state.vs m.state.lfh m.state.large m.state.words m.now.calls m.now.disturbed m.now.span_history) = λ none no_range h.
    in_span s m.state.back m.state.vs m.state.lfh m.state.large m.state.words m.now.calls m.now.disturbed m.now.span_history n b room a.hands a.whole a.used l.bucket l.active l.in_order none no_range first r h in
    subst E (sym a.rest) at_rest none no_range h

pub fall_refusal : FallRefusalEnds
fall_refusal s m n b room a l none no_range no_gap no_span =
    let E : Configuration → Type 0 = λ m. NoneIsFree s m n b → HasNoRange s m b → vs_place (gaps m.state) (units_of n) ≡ None → back_place m.state.back.area s.limits.segments (span_pages_of n) ≡ None →
    EndsSmall s m (calls.Alloc n plain) replies.NoFit m.state.back.area m.state.vs m.state.lfh m.now.span_history.hints in
    let at_rest : E (at_rest m.state.back m.state.vs m.state.lfh m.state.large m.state.words m.now.calls m.now.disturbed m.now.span_history) = λ none no_range no_gap no_span.
    refuses s m.state.back m.state.vs m.state.lfh m.state.large m.state.words m.now.calls m.now.disturbed m.now.span_history n b room a.hands a.whole a.used l.bucket l.active l.in_order none no_range no_gap no_span in
    subst E (sym a.rest) at_rest none no_range no_gap no_span
