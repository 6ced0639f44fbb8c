-- What an allocation does whose bucket has no free block and no range for a span: it goes to the variable-size layer, or is refused.
use Rattle.std.specs.Prelude.{◌≡◌, ℕ, ◌+◌, ◌*◌, ◌<◌, List, ◌∷◌, Option, Some, None}
use Rattle.heap_model.specs.declared.Call.{Call}
use Rattle.heap_model.specs.declared.Call.TheVariants as calls
use Rattle.heap_model.specs.declared.Act.{Act}
use Rattle.heap_model.specs.declared.Act.TheVariants as acts
use Rattle.heap_model.specs.declared.Reply.{Reply}
use Rattle.heap_model.specs.declared.Reply.TheVariants as replies
use Rattle.heap_model.specs.Geometry.{units_of, span_pages_of}
use Rattle.heap_model.specs.Buckets.{bucket_pages}
use Rattle.heap_model.specs.Runs.{Run}
use Rattle.heap_model.specs.State.{Setting, Area, Place, VsPart}
use Rattle.heap_model.specs.Backend.{back_place}
use Rattle.heap_model.specs.Ranges.{gaps, gaps_of, vs_spans, vs_place}
use Rattle.heap_model.specs.CallState.{Configuration}
use Rattle.heap_model.specs.Legal.{with_span, serve}
use Rattle.heap_model.specs.Alone.{configuration_by}
use Rattle.serial_laws.specs.OneCall.{IsAtRest, searches_of, Completes}
use Rattle.serial_laws.specs.BackCalls.{plain}
use Rattle.serial_laws.specs.VsCalls.{vs_block, vs_span_for}
use Rattle.search_laws.specs.Calls.{IsForLfh, NoneIsFree}

-- Of the heap, the spans, the two layers of small blocks and the hints alone have changed, to these, and one call more has searched.
pub record OnlySmall (old new : Configuration) (area : Area) (vs : VsPart) (lfh : List Place) (hints : ℕ → ℕ → Option ℕ) : Type 0 where
  pub area_is : new.state.back.area ≡ area
  pub vs_is : new.state.vs ≡ vs
  pub lfh_is : new.state.lfh ≡ lfh
  pub hints_are : new.now.span_history.hints ≡ hints
  pub back : new.state.back.places ≡ old.state.back.places
  pub large : new.state.large ≡ old.state.large
  pub words : new.state.words ≡ old.state.words
  pub searches : searches_of new ≡ searches_of old + 1

-- Some acts complete the call with this reply, leave all at rest, and change them so.
pub record EndsSmall (s : Setting) (m : Configuration) (call : Call) (reply : Reply) (area : Area) (vs : VsPart) (lfh : List Place) (hints : ℕ → ℕ → Option ℕ) : Type 0 where
  pub rest : List Act
  pub completes : Completes s m call reply rest
  pub at_rest : IsAtRest (configuration_by s m (acts.Begin call ∷ rest))
  pub only : OnlySmall m (configuration_by s m (acts.Begin call ∷ rest)) area vs lfh hints

-- no range is there for a span of bucket b
abbrev pub HasNoRange : Setting → Configuration → ℕ → Type 0
HasNoRange s m b = back_place m.state.back.area s.limits.segments (bucket_pages b) ≡ None

-- the variable-size layer with one more block of n bytes, which is of bucket b
abbrev pub vs_with : VsPart → Run → ℕ → ℕ → VsPart
vs_with v r n b = record { places = vs_block r n ∷ v.places; active = v.active; served = serve (Some b) v.served }

-- It goes to the gap that the definitions name, where there is one ..
abbrev pub FallGapEnds : Type 0
FallGapEnds = (s : Setting) (m : Configuration) (n b : ℕ) (r : Run) → 0 < s.limits.callers → IsAtRest m → IsForLfh m n b → NoneIsFree s m n b → HasNoRange s m b →
    vs_place (gaps m.state) (units_of n) ≡ Some r →
    EndsSmall s m (calls.Alloc n plain) (replies.Address (16 * r.first + 16)) m.state.back.area (vs_with m.state.vs r n b) m.state.lfh m.now.span_history.hints

-- The place r of a block of n bytes is in a span of this layer that is made for it at a page. This lies in a reserved segment: were one
-- left to reserve, it would have had room for the span of the bucket.
pub record IsInVsSpan (s : Setting) (m : Configuration) (n first : ℕ) (r : Run) : Type 0 where
  pub none : vs_place (gaps m.state) (units_of n) ≡ None
  pub place : back_place m.state.back.area s.limits.segments (span_pages_of n) ≡ Some first
  pub fits : vs_place (gaps_of (vs_spans (with_span m.state.back.area (vs_span_for first n))) m.state.vs.places) (units_of n) ≡ Some r

-- .. else a span is made for it, where a range is long enough for this one ..
abbrev pub FallSpanEnds : Type 0
FallSpanEnds = (s : Setting) (m : Configuration) (n b first : ℕ) (r : Run) → 0 < s.limits.callers → IsAtRest m → IsForLfh m n b → NoneIsFree s m n b → HasNoRange s m b →
    IsInVsSpan s m n first r →
    EndsSmall s m (calls.Alloc n plain) (replies.Address (16 * r.first + 16)) (with_span m.state.back.area (vs_span_for first n)) (vs_with m.state.vs r n b)
    m.state.lfh m.now.span_history.hints

-- .. and else it is refused, and all is as it was.
abbrev pub FallRefusalEnds : Type 0
FallRefusalEnds = (s : Setting) (m : Configuration) (n b : ℕ) → 0 < s.limits.callers → IsAtRest m → IsForLfh m n b → NoneIsFree s m n b → HasNoRange s m b →
    vs_place (gaps m.state) (units_of n) ≡ None → back_place m.state.back.area s.limits.segments (span_pages_of n) ≡ None →
    EndsSmall s m (calls.Alloc n plain) replies.NoFit m.state.back.area m.state.vs m.state.lfh m.now.span_history.hints
