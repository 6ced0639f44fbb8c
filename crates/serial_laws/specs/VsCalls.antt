-- What one call by the variable-size layer does, from a configuration at rest.
use Rattle.std.specs.Prelude.{◌≡◌, ℕ, ◌+◌, ◌*◌, ◌/◌, ◌<◌, true, false, ◌||◌, nat_lt, List, ◌∷◌, Option, Some, None}
use Rattle.std.specs.List.{find, list_all}
use Rattle.heap_model.specs.declared.Call.{Call}
use Rattle.heap_model.specs.declared.Call.TheVariants as calls
use Rattle.heap_model.specs.declared.Act.{Act}
use Rattle.heap_model.specs.declared.Act.TheVariants as acts
use Rattle.heap_model.specs.declared.Kind.TheVariants as kinds
use Rattle.heap_model.specs.declared.Layer.TheVariants as layers
use Rattle.heap_model.specs.declared.Reply.{Reply}
use Rattle.heap_model.specs.declared.Reply.TheVariants as replies
use Rattle.heap_model.specs.Geometry.{page_bytes, route_of, is_small, is_variable, units_of, span_pages_of}
use Rattle.heap_model.specs.Buckets.{bucket_of}
use Rattle.heap_model.specs.Runs.{Run}
use Rattle.heap_model.specs.State.{Setting, Area, Span, Place, VsPart, Live, has_address, remove_found}
use Rattle.heap_model.specs.Backend.{free_runs, back_place}
use Rattle.heap_model.specs.Ranges.{gaps, gaps_of, vs_spans, vs_place}
use Rattle.heap_model.specs.Stay.{for_some}
use Rattle.heap_model.specs.CallState.{Configuration}
use Rattle.heap_model.specs.Search.{begins_at, span_at}
use Rattle.heap_model.specs.Legal.{with_span, is_run_of, has_place, are_used, goes_to_lfh, serve, forget_hint}
use Rattle.heap_model.specs.Alone.{configuration_by}
use Rattle.serial_laws.specs.OneCall.{IsAtRest, searches_of, Completes}
use Rattle.serial_laws.specs.BackCalls.{plain, one_more_reserved}

-- Of the heap, the spans, the part of this layer and the hints alone have changed, to these; no bucket has become active,
-- and nothing was searched.
pub record OnlyVsAndHints (old new : Configuration) (area : Area) (places : List Place) (served : ℕ → ℕ) (left : ℕ → ℕ → Option ℕ) : Type 0 where
  pub area_is : new.state.back.area ≡ area
  pub vs_is : new.state.vs ≡ record { places = places; active = old.state.vs.active; served = served }
  pub back : new.state.back.places ≡ old.state.back.places
  pub lfh : new.state.lfh ≡ old.state.lfh
  pub hints : new.now.span_history.hints ≡ left
  pub large : new.state.large ≡ old.state.large
  pub words : new.state.words ≡ old.state.words
  pub searches : searches_of new ≡ searches_of old

-- Some acts complete the call with this reply, leave all at rest, change the layer so, and leave these hints.
pub record EndsVsAndHints (s : Setting) (m : Configuration) (call : Call) (reply : Reply) (area : Area) (places : List Place) (served : ℕ → ℕ) (left : ℕ → ℕ → Option ℕ) : Type 0 where
  pub rest : List Act
  pub completes : Completes s m call reply rest
  pub at_rest : IsAtRest (configuration_by s m (acts.Begin call ∷ rest))
  pub only : OnlyVsAndHints m (configuration_by s m (acts.Begin call ∷ rest)) area places served left

-- .. and keep all hints
abbrev pub EndsVs : Setting → Configuration → Call → Reply → Area → List Place → (ℕ → ℕ) → Type 0
EndsVs s m call reply area places served = EndsVsAndHints s m call reply area places served m.now.span_history.hints

-- a block of n bytes is for this layer: its size is, and its bucket is neither active nor due
pub record IsForVs (v : VsPart) (n : ℕ) : Type 0 where
  pub size : (is_small (route_of n) || is_variable (route_of n)) ≡ true
  pub bucket : for_some (bucket_of n) (goes_to_lfh v) ≡ false

-- the place that a block of n bytes has in a gap
abbrev pub vs_block : Run → ℕ → Place
vs_block r n = record { start = 16 * r.first; granules = r.count; layer = layers.Vs; status = Live n }

-- the span that is made for a block of n bytes at this page
abbrev pub vs_span_for : ℕ → ℕ → Span
vs_span_for first n = record { first = first; pages = span_pages_of n; kind = kinds.Vs; bucket = 0; slot = 0 }

-- An allocation goes to the gap that the definitions name, where there is one.
abbrev pub GapAllocationEnds : Type 0
GapAllocationEnds = (s : Setting) (m : Configuration) (n : ℕ) (r : Run) → 0 < s.limits.callers → IsAtRest m → IsForVs m.state.vs n →
    vs_place (gaps m.state) (units_of n) ≡ Some r →
    EndsVs s m (calls.Alloc n plain) (replies.Address (16 * r.first + 16)) m.state.back.area (vs_block r n ∷ m.state.vs.places) (serve (bucket_of n) m.state.vs.served)

-- the place r of a block of n bytes is in a span that is made for it at a page of the area
pub record IsInNewSpan (s : Setting) (m : Configuration) (area : Area) (n first : ℕ) (r : Run) : Type 0 where
  pub none : vs_place (gaps m.state) (units_of n) ≡ None
  pub place : back_place area s.limits.segments (span_pages_of n) ≡ Some first
  pub reserved : first / 256 < area.reserved
  pub fits : vs_place (gaps_of (vs_spans (with_span area (vs_span_for first n))) m.state.vs.places) (units_of n) ≡ Some r

-- Where no gap fits, a span is made for it, in a segment that is reserved ..
abbrev pub SpanAllocationEnds : Type 0
SpanAllocationEnds = (s : Setting) (m : Configuration) (n first : ℕ) (r : Run) → 0 < s.limits.callers → IsAtRest m → IsForVs m.state.vs n →
    IsInNewSpan s m m.state.back.area n first r →
    EndsVs s m (calls.Alloc n plain) (replies.Address (16 * r.first + 16)) (with_span m.state.back.area (vs_span_for first n))
    (vs_block r n ∷ m.state.vs.places) (serve (bucket_of n) m.state.vs.served)

-- .. or in the next segment, where the others have no free run of its pages.
abbrev pub ReservingSpanEnds : Type 0
ReservingSpanEnds = (s : Setting) (m : Configuration) (n first : ℕ) (r : Run) → 0 < s.limits.callers → IsAtRest m → IsForVs m.state.vs n →
    let more = one_more_reserved m.state.back.area in
    IsInNewSpan s m more n first r → m.state.back.area.reserved < s.limits.segments →
    list_all (λ f. is_run_of m.state.back.area.reserved f || nat_lt f.count (span_pages_of n)) (free_runs more) ≡ true →
    EndsVs s m (calls.Alloc n plain) (replies.Address (16 * r.first + 16)) (with_span more (vs_span_for first n))
    (vs_block r n ∷ m.state.vs.places) (serve (bucket_of n) m.state.vs.served)

-- It is refused where no gap fits and no range is there for a span, and then all is as it was.
abbrev pub VsRefusalEnds : Type 0
VsRefusalEnds = (s : Setting) (m : Configuration) (n : ℕ) → 0 < s.limits.callers → IsAtRest m → IsForVs m.state.vs n →
    vs_place (gaps m.state) (units_of n) ≡ None → back_place m.state.back.area s.limits.segments (span_pages_of n) ≡ None →
    EndsVs s m (calls.Alloc n plain) replies.NoFit m.state.back.area m.state.vs.places m.state.vs.served

-- a live block of this layer, by the start of its place
abbrev pub live_vs : ℕ → ℕ → ℕ → Place
live_vs start granules size = record { start = start; granules = granules; layer = layers.Vs; status = Live size }

abbrev pub vs_without : List Place → ℕ → List Place
vs_without ps a = remove_found (has_address a) ps

-- A free takes the place away, where each span still has one ..
abbrev pub VsFreeEnds : Type 0
VsFreeEnds = (s : Setting) (m : Configuration) (start granules size : ℕ) → 0 < s.limits.callers → IsAtRest m →
    find (has_address (start + 16)) m.state.vs.places ≡ Some (live_vs start granules size) →
    are_used page_bytes kinds.Vs (vs_without m.state.vs.places (start + 16)) m.state.back.area.spans ≡ true →
    EndsVs s m (calls.Free (start + 16)) replies.Done m.state.back.area (vs_without m.state.vs.places (start + 16)) m.state.vs.served

-- the area without the span at a page
abbrev pub area_closed : Area → ℕ → Area
area_closed a first = record { reserved = a.reserved; committed = a.committed; spans = remove_found (begins_at first) a.spans }

-- .. and its span with it, where it was the last one of this. A hint that named the span goes too.
abbrev pub VsFreeSpanEnds : Type 0
VsFreeSpanEnds = (s : Setting) (m : Configuration) (start granules size : ℕ) (x : Span) → 0 < s.limits.callers → IsAtRest m →
    find (has_address (start + 16)) m.state.vs.places ≡ Some (live_vs start granules size) →
    span_at m.state.back.area x.first ≡ Some x → x.kind ≡ kinds.Vs → has_place page_bytes (vs_without m.state.vs.places (start + 16)) x ≡ false →
    are_used page_bytes kinds.Vs (vs_without m.state.vs.places (start + 16)) (area_closed m.state.back.area x.first).spans ≡ true →
    EndsVsAndHints s m (calls.Free (start + 16)) replies.Done (area_closed m.state.back.area x.first) (vs_without m.state.vs.places (start + 16)) m.state.vs.served
    (forget_hint x.first m.now.span_history.hints)

-- A question for the size of a block finds it, and changes nothing.
abbrev pub VsSizeEnds : Type 0
VsSizeEnds = (s : Setting) (m : Configuration) (start granules size : ℕ) → 0 < s.limits.callers → IsAtRest m →
    find (has_address (start + 16)) m.state.vs.places ≡ Some (live_vs start granules size) →
    EndsVs s m (calls.Size (start + 16)) (replies.Number size) m.state.back.area m.state.vs.places m.state.vs.served
