-- Spans that are made for a place or go with it, and the entries that go together under the lock of a layer.
use Rattle.std.specs.Prelude.{◌≡◌, ℕ, ◌*◌, ◌/◌, ◌<◌, ◌||◌, true, false, nat_lt, List, [], ◌∷◌, Some}
use Rattle.std.specs.List.{list_all}
use Rattle.heap_model.specs.declared.Act.{Act}
use Rattle.heap_model.specs.declared.Act.TheVariants as acts
use Rattle.heap_model.specs.declared.Call.{Call}
use Rattle.heap_model.specs.declared.Call.TheVariants as calls
use Rattle.heap_model.specs.declared.Flags.{Flags}
use Rattle.heap_model.specs.declared.Kind.TheVariants as kinds
use Rattle.heap_model.specs.declared.Layer.TheVariants as layers
use Rattle.heap_model.specs.Geometry.{page_bytes, route_of, is_small, is_variable, is_paged, span_pages_of, pages_of}
use Rattle.heap_model.specs.Buckets.{bucket_of}
use Rattle.heap_model.specs.Runs.{Run}
use Rattle.heap_model.specs.State.{Setting, State, Area, Span, Place, Live, InHand, is_layer, address, place_at, is_live_at, is_hand_at, remove_found}
use Rattle.heap_model.specs.Backend.{free_runs, back_place}
use Rattle.heap_model.specs.Stay.{for_some}
use Rattle.heap_model.specs.CallState.{Configuration, caller_view}
use Rattle.heap_model.specs.Search.{asked_by, request_of, has_to_move}
use Rattle.heap_model.specs.Legal.{after, is_run_of, has_place, goes_to_lfh, serve, with_span, with_places}
use Rattle.heap_soundness.specs.Sound.{IsOneOf}
use Rattle.serial_laws.specs.BackCalls.{block_span, one_more_reserved, area_without}
use Rattle.serial_laws.specs.VsCalls.{vs_span_for, area_closed, IsInNewSpan}
use Rattle.call_laws.specs.Within.{by_caller, IsReached, IsWithin, LeadsTo, LeadAllTo}
use Rattle.call_laws.specs.Blocks.{IsOpenTo}

---- What a call still places

-- An allocation that has placed nothing yet places its size ..
abbrev pub AllocationPlaces : Type 0
AllocationPlaces = (s : Setting) (m : Configuration) (c n : ℕ) (flags : Flags) → (m.now.calls c).call ≡ Some (calls.Alloc n flags) → (m.now.calls c).placed ≡ false →
    (request_of s m c).size ≡ Some n

-- .. and a reallocation the new one, where it may move its block, which can't stay.
abbrev pub ReallocationPlaces : Type 0
ReallocationPlaces = (s : Setting) (m : Configuration) (c a n : ℕ) (flags : Flags) (p : Place) → (m.now.calls c).call ≡ Some (calls.Realloc a n flags) → (m.now.calls c).placed ≡ false →
    flags.in_place ≡ false → place_at m.state c a ≡ Some p → has_to_move s m.state c n p ≡ true → (request_of s m c).size ≡ Some n

---- A block of the back end

abbrev pub with_back_block : State → Area → ℕ → ℕ → ℕ → State
with_back_block st a c first n = record st {
  back = record {
    area = with_span a (block_span first n);
    places = record { start = 4096 * first; granules = 256 * pages_of n; layer = layers.Back; status = InHand c } ∷ st.back.places;
  };
}

-- the span of a block of n bytes at this page, and its place
abbrev pub back_acts : ℕ → ℕ → List Act
back_acts first n = acts.Span first (pages_of n) kinds.Back 0 0 ∷ acts.Place (4096 * first) (256 * pages_of n) layers.Back ∷ []

-- It goes into a segment that is reserved ..
abbrev pub PlacingBack : Type 0
PlacingBack = (s : Setting) (m : Configuration) (c : ℕ) (call : Call) (n first : ℕ) → IsWithin m c call → (caller_view m c).back ≡ true → (request_of s m c).size ≡ Some n →
    is_paged (route_of n) ≡ true → back_place m.state.back.area s.limits.segments (pages_of n) ≡ Some first → first / 256 < m.state.back.area.reserved →
    LeadAllTo s m c call (back_acts first n) (with_back_block m.state m.state.back.area c first n)

-- .. or into the next one, where no other has a free run of so many pages.
abbrev pub ReservingBack : Type 0
ReservingBack = (s : Setting) (m : Configuration) (c : ℕ) (call : Call) (n first : ℕ) → IsWithin m c call → (caller_view m c).back ≡ true →
    let more = one_more_reserved m.state.back.area in
    let reserve = acts.Reserve m.state.back.area.reserved in
    (request_of s (after s m (by_caller c reserve)) c).size ≡ Some n → m.state.back.area.reserved < s.limits.segments →
    is_paged (route_of n) ≡ true → back_place more s.limits.segments (pages_of n) ≡ Some first → first / 256 < more.reserved →
    list_all (λ r. is_run_of m.state.back.area.reserved r || nat_lt r.count (pages_of n)) (free_runs more) ≡ true →
    LeadAllTo s m c call (reserve ∷ back_acts first n) (with_back_block m.state more c first n)

-- The block in hand goes, and its span with it.
abbrev pub DroppingBack : Type 0
DroppingBack = (s : Setting) (m : Configuration) (c : ℕ) (call : Call) (a granules : ℕ) → IsReached s m → IsWithin m c call → (caller_view m c).back ≡ true →
    IsOneOf (record { start = a; granules = granules; layer = layers.Back; status = InHand c }) m.state.back.places →
    LeadAllTo s m c call (acts.Drop a ∷ acts.Unspan (a / 4096) ∷ [])
    (record m.state { back = record { area = area_without m.state.back.area a; places = remove_found (is_hand_at c a) m.state.back.places } })

---- A block of the variable-size layer in a new span

abbrev pub with_vs_block : State → Area → ℕ → ℕ → ℕ → Run → State
with_vs_block st a c first n r = record st {
  back = record { area = with_span a (vs_span_for first n); places = st.back.places };
  vs = record {
    places = record { start = 16 * r.first; granules = r.count; layer = layers.Vs; status = InHand c } ∷ st.vs.places;
    active = st.vs.active;
    served = serve (bucket_of n) st.vs.served;
  };
}

abbrev pub vs_acts : ℕ → ℕ → Run → List Act
vs_acts first n r = acts.Span first (span_pages_of n) kinds.Vs 0 0 ∷ acts.Place (16 * r.first) r.count layers.Vs ∷ []

-- No gap fits, and a span is made in a segment that is reserved ..
abbrev pub PlacingInSpan : Type 0
PlacingInSpan = (s : Setting) (m : Configuration) (c : ℕ) (call : Call) (n first : ℕ) (r : Run) → IsWithin m c call → (caller_view m c).vs ≡ true → (caller_view m c).back ≡ true →
    asked_by call ≡ Some n → (is_small (route_of n) || is_variable (route_of n)) ≡ true → for_some (bucket_of n) (goes_to_lfh m.state.vs) ≡ false →
    IsInNewSpan s m m.state.back.area n first r →
    LeadAllTo s m c call (vs_acts first n r) (with_vs_block m.state m.state.back.area c first n r)

-- .. or in the next one.
abbrev pub ReservingSpan : Type 0
ReservingSpan = (s : Setting) (m : Configuration) (c : ℕ) (call : Call) (n first : ℕ) (r : Run) → IsWithin m c call → (caller_view m c).vs ≡ true → (caller_view m c).back ≡ true →
    let more = one_more_reserved m.state.back.area in
    asked_by call ≡ Some n → (is_small (route_of n) || is_variable (route_of n)) ≡ true → for_some (bucket_of n) (goes_to_lfh m.state.vs) ≡ false →
    IsInNewSpan s m more n first r → m.state.back.area.reserved < s.limits.segments →
    list_all (λ f. is_run_of m.state.back.area.reserved f || nat_lt f.count (span_pages_of n)) (free_runs more) ≡ true →
    LeadAllTo s m c call (acts.Reserve m.state.back.area.reserved ∷ vs_acts first n r) (with_vs_block m.state more c first n r)

-- A span in which no block is left goes.
abbrev pub EndingSpan : Type 0
EndingSpan = (s : Setting) (m : Configuration) (c : ℕ) (call : Call) (x : Span) → IsReached s m → IsWithin m c call → (caller_view m c).vs ≡ true → (caller_view m c).back ≡ true →
    IsOneOf x m.state.back.area.spans → x.kind ≡ kinds.Vs → has_place page_bytes m.state.vs.places x ≡ false →
    LeadsTo s m c call (acts.Unspan x.first) (record m.state { back = record { area = area_closed m.state.back.area x.first; places = m.state.back.places } })

---- A free

-- A block is taken and dropped, save one of the back end ..
abbrev pub Freeing : Type 0
Freeing = (s : Setting) (m : Configuration) (c : ℕ) (call : Call) (p : Place) (size : ℕ) → IsReached s m → IsWithin m c call → IsOpenTo m c p → p.status ≡ Live size → is_layer p.layer layers.Back ≡ false →
    LeadAllTo s m c call (acts.Take (address p) size ∷ acts.Drop (address p) ∷ []) (with_places m.state (Some p.layer) (remove_found (is_live_at (address p))))

-- .. with which its span goes.
abbrev pub FreeingBack : Type 0
FreeingBack = (s : Setting) (m : Configuration) (c : ℕ) (call : Call) (a granules size : ℕ) → IsReached s m → IsWithin m c call → (caller_view m c).back ≡ true →
    IsOneOf (record { start = a; granules = granules; layer = layers.Back; status = Live size }) m.state.back.places →
    LeadAllTo s m c call (acts.Take a size ∷ acts.Drop a ∷ acts.Unspan (a / 4096) ∷ [])
    (record m.state { back = record { area = area_without m.state.back.area a; places = remove_found (is_live_at a) m.state.back.places } })
