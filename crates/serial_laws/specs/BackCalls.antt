-- What one call by the back end does, from a configuration at rest.
use Rattle.std.specs.Prelude.{◌≡◌, ℕ, ◌+◌, ◌*◌, ◌/◌, ◌<◌, true, false, ◌||◌, nat_lt, List, ◌∷◌, Option, Some, None}
use Rattle.std.specs.List.{find, list_all}
use Rattle.heap_model.specs.declared.Call.{Call}
use Rattle.heap_model.specs.declared.Call.TheVariants as calls
use Rattle.heap_model.specs.declared.Act.{Act}
use Rattle.heap_model.specs.declared.Act.TheVariants as acts
use Rattle.heap_model.specs.declared.Flags.{Flags}
use Rattle.heap_model.specs.declared.Kind.TheVariants as kinds
use Rattle.heap_model.specs.declared.Layer.TheVariants as layers
use Rattle.heap_model.specs.declared.Reply.{Reply}
use Rattle.heap_model.specs.declared.Reply.TheVariants as replies
use Rattle.heap_model.specs.Geometry.{page_bytes, route_of, is_paged, pages_of}
use Rattle.heap_model.specs.State.{Setting, State, Area, Span, Place, Live, has_address, is_live_at, remove_found}
use Rattle.heap_model.specs.Backend.{free_runs, back_place}
use Rattle.heap_model.specs.CallState.{Configuration}
use Rattle.heap_model.specs.Search.{begins_at, span_at}
use Rattle.heap_model.specs.Legal.{with_span, is_run_of, has_place, are_used, has_live, forget_hint}
use Rattle.heap_model.specs.Alone.{configuration_by}
use Rattle.serial_laws.specs.OneCall.{IsAtRest, searches_of, Completes}

abbrev pub plain : Flags
plain = record { zero = false; in_place = false }

-- the span and the place of a block of n bytes at this page
abbrev pub block_span : ℕ → ℕ → Span
block_span first n = record { first = first; pages = pages_of n; kind = kinds.Back; bucket = 0; slot = 0 }

abbrev pub block_place : ℕ → ℕ → Place
block_place first n = record { start = 4096 * first; granules = 256 * pages_of n; layer = layers.Back; status = Live n }

-- the area with one segment more reserved
abbrev pub one_more_reserved : Area → Area
one_more_reserved a = record { reserved = a.reserved + 1; committed = a.committed; spans = a.spans }

-- Of the heap, the part of the back end and the hints alone have changed, to these; nothing was searched.
pub record OnlyBackAndHints (old new : Configuration) (area : Area) (places : List Place) (left : ℕ → ℕ → Option ℕ) : Type 0 where
  pub area_is : new.state.back.area ≡ area
  pub places_are : new.state.back.places ≡ places
  pub vs : new.state.vs ≡ old.state.vs
  pub lfh : new.state.lfh ≡ old.state.lfh
  pub hints : new.now.span_history.hints ≡ left
  pub large : new.state.large ≡ old.state.large
  pub words : new.state.words ≡ old.state.words
  pub searches : searches_of new ≡ searches_of old

-- Some acts complete the call with this reply, leave all at rest, and change the back end to this area and these places, and leave these hints.
pub record EndsAndHints (s : Setting) (m : Configuration) (call : Call) (reply : Reply) (area : Area) (places : List Place) (left : ℕ → ℕ → Option ℕ) : Type 0 where
  pub rest : List Act
  pub completes : Completes s m call reply rest
  pub at_rest : IsAtRest (configuration_by s m (acts.Begin call ∷ rest))
  pub only : OnlyBackAndHints m (configuration_by s m (acts.Begin call ∷ rest)) area places left

-- .. and keep all hints
abbrev pub Ends : Setting → Configuration → Call → Reply → Area → List Place → Type 0
Ends s m call reply area places = EndsAndHints s m call reply area places m.now.span_history.hints

-- An allocation by the back end goes to the place of its pages, in a segment that is reserved.
abbrev pub AllocationEnds : Type 0
AllocationEnds = (s : Setting) (m : Configuration) (n first : ℕ) → 0 < s.limits.callers → IsAtRest m →
    is_paged (route_of n) ≡ true → back_place m.state.back.area s.limits.segments (pages_of n) ≡ Some first → first / 256 < m.state.back.area.reserved →
    Ends s m (calls.Alloc n plain) (replies.Address (4096 * first)) (with_span m.state.back.area (block_span first n)) (block_place first n ∷ m.state.back.places)

-- .. or in the next segment, where the others have no free run of so many pages.
abbrev pub ReservingEnds : Type 0
ReservingEnds = (s : Setting) (m : Configuration) (n first : ℕ) → 0 < s.limits.callers → IsAtRest m →
    let more = one_more_reserved m.state.back.area in
    is_paged (route_of n) ≡ true → back_place more s.limits.segments (pages_of n) ≡ Some first → first / 256 < more.reserved → m.state.back.area.reserved < s.limits.segments →
    list_all (λ r. is_run_of m.state.back.area.reserved r || nat_lt r.count (pages_of n)) (free_runs more) ≡ true →
    Ends s m (calls.Alloc n plain) (replies.Address (4096 * first)) (with_span more (block_span first n)) (block_place first n ∷ m.state.back.places)

-- It is refused where there is no place, and then the back end is as it was.
abbrev pub RefusalEnds : Type 0
RefusalEnds = (s : Setting) (m : Configuration) (n : ℕ) → 0 < s.limits.callers → IsAtRest m →
    is_paged (route_of n) ≡ true → back_place m.state.back.area s.limits.segments (pages_of n) ≡ None →
    Ends s m (calls.Alloc n plain) replies.NoFit m.state.back.area m.state.back.places

-- a live block of the back end
abbrev pub live_place : ℕ → ℕ → ℕ → Place
live_place a granules size = record { start = a; granules = granules; layer = layers.Back; status = Live size }

-- the area and the places without the block at a
abbrev pub area_without : Area → ℕ → Area
area_without x a = record { reserved = x.reserved; committed = x.committed; spans = remove_found (begins_at (a / 4096)) x.spans }

abbrev pub places_without : List Place → ℕ → List Place
places_without ps a = remove_found (is_live_at a) ps

-- A free of a block of the back end takes its place and its span away, where no other block lies in this span and the others keep theirs.
-- A hint that named the span goes with it.
abbrev pub FreeEnds : Type 0
FreeEnds = (s : Setting) (m : Configuration) (a granules size : ℕ) (x : Span) → 0 < s.limits.callers → IsAtRest m →
    find (has_address a) m.state.back.places ≡ Some (live_place a granules size) →
    span_at m.state.back.area (a / 4096) ≡ Some x → x.kind ≡ kinds.Back → has_place page_bytes (places_without m.state.back.places a) x ≡ false →
    are_used page_bytes kinds.Back (places_without m.state.back.places a) (area_without m.state.back.area a).spans ≡ true →
    EndsAndHints s m (calls.Free a) replies.Done (area_without m.state.back.area a) (places_without m.state.back.places a)
    (forget_hint (a / 4096) m.now.span_history.hints)

-- A question for the size of a block of the back end finds it, and changes nothing.
abbrev pub SizeEnds : Type 0
SizeEnds = (s : Setting) (m : Configuration) (a granules size : ℕ) → 0 < s.limits.callers → IsAtRest m →
    find (has_address a) m.state.back.places ≡ Some (live_place a granules size) →
    Ends s m (calls.Size a) (replies.Number size) m.state.back.area m.state.back.places

-- where no live block has the address
abbrev pub IsNotLive : State → ℕ → Type 0
IsNotLive st a = (has_live st.lfh a ≡ false) × (has_live st.vs.places a ≡ false) × (has_live st.back.places a ≡ false) × (has_live st.large a ≡ false)

-- .. a free or a question for the size is refused, and changes nothing.
abbrev pub NotLiveEnds : Type 0
NotLiveEnds = (s : Setting) (m : Configuration) (a : ℕ) → 0 < s.limits.callers → IsAtRest m → IsNotLive m.state a →
    Ends s m (calls.Free a) replies.NotLive m.state.back.area m.state.back.places
    × Ends s m (calls.Size a) replies.NotLive m.state.back.area m.state.back.places
