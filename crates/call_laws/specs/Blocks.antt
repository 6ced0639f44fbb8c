-- What each entry on a block needs of the caller that holds the lock of its layer, which for the front end is none, and where it leads.
use Rattle.std.specs.Prelude.{◌≡◌, ◌⊎◌, ℕ, ◌*◌, ◌/◌, ◌<◌, ◌≤◌, ◌||◌, true, false, ◌∷◌, Some, None}
use Rattle.std.specs.List.{list_any}
use Rattle.heap_model.specs.declared.Act.TheVariants as acts
use Rattle.heap_model.specs.declared.Call.{Call}
use Rattle.heap_model.specs.declared.Layer.TheVariants as layers
use Rattle.heap_model.specs.Geometry.{route_of, is_small, is_variable, is_paged, is_huge, units_of, span_pages_of, pages_of}
use Rattle.heap_model.specs.Buckets.{bucket_of}
use Rattle.heap_model.specs.Runs.{Run}
use Rattle.heap_model.specs.State.{Setting, State, Span, Place, Live, InHand, is_layer, address, places_of, is_live, is_live_at, is_hand_at, change_found, remove_found, updated}
use Rattle.heap_model.specs.Backend.{in_span, back_place}
use Rattle.heap_model.specs.Ranges.{gaps, vs_place, large_place, large_start}
use Rattle.heap_model.specs.Stay.{lets_stay, resized, for_some}
use Rattle.heap_model.specs.CallState.{Configuration, caller_view}
use Rattle.heap_model.specs.Search.{asked_by}
use Rattle.heap_model.specs.Legal.{may_touch, suits, has_live, data_words, with_places, with_status, resize_place, area_with, goes_to_lfh, serve, places_in}
use Rattle.heap_soundness.specs.Sound.{IsOneOf}
use Rattle.call_laws.specs.Within.{IsReached, IsWithin, LeadsTo}

-- the place is there, and its layer is open to c
pub record IsOpenTo (m : Configuration) (c : ℕ) (p : Place) : Type 0 where
  pub there : IsOneOf p (places_of m.state p.layer)
  pub open_to : may_touch (caller_view m c) p.layer ≡ true

---- A live block

-- It is taken in hand ..
abbrev pub Taking : Type 0
Taking = (s : Setting) (m : Configuration) (c : ℕ) (call : Call) (p : Place) (size : ℕ) → IsReached s m → IsWithin m c call → IsOpenTo m c p → p.status ≡ Live size →
    LeadsTo s m c call (acts.Take (address p) size) (with_places m.state (Some p.layer) (change_found (is_live_at (address p)) (with_status (InHand c))))

-- .. or its size is found ..
abbrev pub Sizing : Type 0
Sizing = (s : Setting) (m : Configuration) (c : ℕ) (call : Call) (p : Place) (size : ℕ) → IsReached s m → IsWithin m c call → IsOneOf p (places_of m.state p.layer) → p.status ≡ Live size →
    LeadsTo s m c call (acts.Sized (address p) size) m.state

-- .. or it is resized where it is.
abbrev pub resized_state : Setting → State → Place → ℕ → State
resized_state s st p n =
    let granules = resized s.limits st p n in
    let next = with_places st (Some p.layer) (change_found (is_live_at (address p)) (resize_place granules n)) in
    record next { back = record { area = area_with st.back.area granules (Some p); places = next.back.places } }

abbrev pub Resizing : Type 0
Resizing = (s : Setting) (m : Configuration) (c : ℕ) (call : Call) (p : Place) (n : ℕ) → IsReached s m → IsWithin m c call → IsOpenTo m c p → is_live p.status ≡ true →
    is_layer p.layer layers.Lfh ≡ false → lets_stay s.limits m.state p n ≡ true →
    LeadsTo s m c call (acts.Resize (address p) (resized s.limits m.state p n) n) (resized_state s m.state p n)

---- A block in hand

-- It is given with a size ..
abbrev pub Giving : Type 0
Giving = (s : Setting) (m : Configuration) (c : ℕ) (call : Call) (p : Place) (size : ℕ) → IsReached s m → IsWithin m c call → IsOpenTo m c p → p.status ≡ InHand c → suits size p ≡ true →
    LeadsTo s m c call (acts.Give (address p) size) (with_places m.state (Some p.layer) (change_found (is_hand_at c (address p)) (with_status (Live size))))

-- .. or dropped.
abbrev pub Dropping : Type 0
Dropping = (s : Setting) (m : Configuration) (c : ℕ) (call : Call) (p : Place) → IsReached s m → IsWithin m c call → IsOpenTo m c p → p.status ≡ InHand c → is_layer p.layer layers.Back ≡ false →
    LeadsTo s m c call (acts.Drop (address p)) (with_places m.state (Some p.layer) (remove_found (is_hand_at c (address p))))

---- Words

abbrev pub Loading : Type 0
Loading = (s : Setting) (m : Configuration) (c : ℕ) (call : Call) (word : ℕ) → IsWithin m c call → word < data_words s →
    LeadsTo s m c call (acts.Load word (m.state.words word)) m.state

abbrev pub Storing : Type 0
Storing = (s : Setting) (m : Configuration) (c : ℕ) (call : Call) (word v : ℕ) → IsWithin m c call → word < data_words s →
    LeadsTo s m c call (acts.Store word v) (record m.state { words = updated m.state.words word v })

---- A new place

-- the large area has room for n bytes there
abbrev pub PlacingLarge : Type 0
PlacingLarge = (s : Setting) (m : Configuration) (c : ℕ) (call : Call) (n start : ℕ) → IsWithin m c call → (caller_view m c).large ≡ true →
    asked_by call ≡ Some n → is_huge (route_of n) ≡ true → large_place s.limits m.state.large (pages_of n) ≡ Some start →
    LeadsTo s m c call (acts.Place start (256 * pages_of n) layers.Large)
    (record m.state { large = record { start = start; granules = 256 * pages_of n; layer = layers.Large; status = InHand c } ∷ m.state.large })

-- a gap fits n bytes, and their bucket, where they have one, is neither active nor due
abbrev pub PlacingInGap : Type 0
PlacingInGap = (s : Setting) (m : Configuration) (c : ℕ) (call : Call) (n : ℕ) (r : Run) → IsWithin m c call → (caller_view m c).vs ≡ true →
    asked_by call ≡ Some n → (is_small (route_of n) || is_variable (route_of n)) ≡ true → for_some (bucket_of n) (goes_to_lfh m.state.vs) ≡ false →
    vs_place (gaps m.state) (units_of n) ≡ Some r →
    LeadsTo s m c call (acts.Place (16 * r.first) r.count layers.Vs)
    (record m.state {
      vs = record {
        places = record { start = 16 * r.first; granules = r.count; layer = layers.Vs; status = InHand c } ∷ m.state.vs.places;
        active = m.state.vs.active;
        served = serve (bucket_of n) m.state.vs.served;
      };
    })

---- Refusals

-- No range fits a large block ..
abbrev pub RefusingLarge : Type 0
RefusingLarge = (s : Setting) (m : Configuration) (c : ℕ) (call : Call) (n : ℕ) → IsWithin m c call → (caller_view m c).large ≡ true →
    asked_by call ≡ Some n → is_huge (route_of n) ≡ true → large_place s.limits m.state.large (pages_of n) ≡ None → LeadsTo s m c call (acts.NoFit n) m.state

-- .. or one of the back end ..
abbrev pub RefusingBack : Type 0
RefusingBack = (s : Setting) (m : Configuration) (c : ℕ) (call : Call) (n : ℕ) → IsWithin m c call → (caller_view m c).back ≡ true →
    asked_by call ≡ Some n → is_paged (route_of n) ≡ true → back_place m.state.back.area s.limits.segments (pages_of n) ≡ None → LeadsTo s m c call (acts.NoFit n) m.state

-- .. or one of the variable-size layer, whose bucket, where it has one, is neither active nor due.
abbrev pub RefusingVs : Type 0
RefusingVs = (s : Setting) (m : Configuration) (c : ℕ) (call : Call) (n : ℕ) → IsWithin m c call → (caller_view m c).vs ≡ true → (caller_view m c).back ≡ true →
    asked_by call ≡ Some n → (is_small (route_of n) || is_variable (route_of n)) ≡ true → for_some (bucket_of n) (goes_to_lfh m.state.vs) ≡ false →
    vs_place (gaps m.state) (units_of n) ≡ None → back_place m.state.back.area s.limits.segments (span_pages_of n) ≡ None → LeadsTo s m c call (acts.NoFit n) m.state

-- The part of the heap where a block with this address would be shows none: that is the large area, or the span in which the address lies, or, where
-- it lies in none, nothing.
abbrev pub ShowsNone : Setting → State → ℕ → Type 0
ShowsNone s st a =
    ((16 * large_start s.limits ≤ a) × (has_live st.large a ≡ false))
    ⊎ (((x : Span) × IsOneOf x st.back.area.spans × (in_span (a / 4096) x ≡ true) × (has_live (places_in st x.kind) a ≡ false))
    ⊎ ((a < 16 * large_start s.limits) × (list_any (in_span (a / 4096)) st.back.area.spans ≡ false)))

abbrev pub FindingNone : Type 0
FindingNone = (s : Setting) (m : Configuration) (c : ℕ) (call : Call) (a : ℕ) → IsReached s m → IsWithin m c call → ShowsNone s m.state a →
    LeadsTo s m c call (acts.NotLive a) m.state
