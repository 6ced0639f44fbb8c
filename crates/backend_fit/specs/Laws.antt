-- What a back end tells of each state that it stands for.
use Rattle.std.specs.Prelude.{◌≡◌, ◌⊎◌, ℕ, ◌+◌, ◌*◌, ◌/◌, ◌<◌, ◌||◌, nat_lt, true, false, Some, option_map, filter}
use Rattle.std.specs.List.{find, list_any, list_all}
use Rattle.heap_model.specs.declared.Kind.TheVariants as kinds
use Rattle.heap_model.specs.declared.Opening.{Opening}
use Rattle.heap_model.specs.declared.Run.{Run}
use Rattle.heap_model.specs.declared.What.TheVariants as whats
use Rattle.heap_model.specs.Geometry.{page_bytes}
use Rattle.heap_model.specs.State.{State, Area, has_address, remove_found}
use Rattle.heap_model.specs.Backend.{back_place, free_runs}
use Rattle.heap_model.specs.Ranges.{is_of_kind}
use Rattle.heap_model.specs.Search.{span_at, begins_at}
use Rattle.heap_model.specs.Legal.{has_place, leaves_whole, is_run_of}
use Rattle.heap_model.specs.Layers.{StandsForBack}
use Rattle.serial_laws.specs.BackCalls.{one_more_reserved}
use Rattle.page_ranges.specs.Spans.{span_of}
use Rattle.backend_fit.specs.Effects.{place_of}
use Rattle.backend_fit.specs.Kept.{Kept, spans_of, is_block_at, layer_of}
use Rattle.backend_fit.specs.Sound.{IsSound}

-- Each span of the back end has its place.
abbrev pub SpansHavePlaces : Type 0
SpansHavePlaces = (o : Opening) (st : State) (k : Kept) → StandsForBack o st (layer_of k) → leaves_whole st whats.Back ≡ true

-- The block that begins at an address is the place of this address.
abbrev pub BlocksArePlaces : Type 0
BlocksArePlaces =
    (o : Opening) (st : State) (k : Kept) (addr : ℕ) → StandsForBack o st (layer_of k) → IsSound k
    → find (has_address addr) st.back.places ≡ option_map place_of (find (is_block_at addr) (spans_of k))

-- A block fills a span of its kind, in which no other place lies; no subsegment begins where it does.
pub record FillsSpan (st : State) (addr : ℕ) (r : Run) : Type 0 where
  pub span : span_at st.back.area (addr / 4096) ≡ Some (span_of r)
  pub kind : r.mark.kind ≡ kinds.Back
  pub alone : has_place page_bytes (remove_found (has_address addr) st.back.places) (span_of r) ≡ false
  pub apart : list_any (begins_at (addr / 4096)) (filter (is_of_kind kinds.Lfh) st.back.area.spans) ≡ false

abbrev pub BlocksFillSpans : Type 0
BlocksFillSpans =
    (o : Opening) (st : State) (k : Kept) (addr : ℕ) (r : Run) → StandsForBack o st (layer_of k) → IsSound k
    → find (is_block_at addr) (spans_of k) ≡ Some r → FillsSpan st addr r

-- Where a request for n pages goes to the next segment: it goes there once this is reserved, and all other free runs are too short.
pub record GoesBehind (a : Area) (segments n first : ℕ) : Type 0 where
  pub first_is : first ≡ 256 * a.reserved + 2
  pub less : a.reserved < segments
  pub place : back_place (one_more_reserved a) segments n ≡ Some first
  pub there : first / 256 < a.reserved + 1
  pub short : list_all (λ r. is_run_of a.reserved r || nat_lt r.count n) (free_runs (one_more_reserved a)) ≡ true

-- A request goes into a segment that is reserved, or to the next one.
abbrev pub RequestsGo : Type 0
RequestsGo =
    (o : Opening) (st : State) (k : Kept) (n first : ℕ) → StandsForBack o st (layer_of k) → IsSound k
    → back_place st.back.area o.limits.segments n ≡ Some first → (first / 256 < st.back.area.reserved) ⊎ GoesBehind st.back.area o.limits.segments n first
