-- An allocation by the back end, entry by entry, of one caller alone.
use Rattle.std.specs.Prelude.{◌≡◌, ℕ, ◌*◌, ◌/◌, ◌<◌, Bool, true, List, [], ◌∷◌, Some}
use Rattle.heap_model.specs.declared.Flags.{Flags}
use Rattle.heap_model.specs.declared.Call.TheVariants as calls
use Rattle.heap_model.specs.declared.Act.TheVariants as acts
use Rattle.heap_model.specs.declared.Entry.{Entry}
use Rattle.heap_model.specs.declared.Kind.TheVariants as kinds
use Rattle.heap_model.specs.declared.Layer.TheVariants as layers
use Rattle.heap_model.specs.declared.What.TheVariants as whats
use Rattle.heap_model.specs.Geometry.{route_of, is_paged, pages_of}
use Rattle.heap_model.specs.State.{Setting, BackPart, VsPart, Place, hands}
use Rattle.heap_model.specs.Backend.{back_place}
use Rattle.heap_model.specs.CallState.{CallState, SpanHistory}
use Rattle.heap_model.specs.Legal.{leaves_whole}
use Rattle.heap_model.specs.History.{may_all_follow}
use Rattle.heap_model.specs.Alone.{by_zero, at_rest}

-- the entries of an allocation by the back end, in a segment that is reserved
abbrev pub placing : ℕ → Flags → ℕ → List Entry
placing n flags first =
    by_zero (acts.Begin (calls.Alloc n flags)) ∷ by_zero acts.Enter ∷ by_zero (acts.TakeLock whats.Back)
    ∷ by_zero (acts.Span first (pages_of n) kinds.Back 0 0) ∷ by_zero (acts.Place (4096 * first) (256 * pages_of n) layers.Back)
    ∷ by_zero (acts.Give (4096 * first) n) ∷ by_zero (acts.GiveLock whats.Back) ∷ by_zero acts.Leave ∷ []

abbrev pub AllocationIsLegal : Type 0
AllocationIsLegal = (s : Setting) (back : BackPart) (vs : VsPart) (lfh large : List Place) (words : ℕ → ℕ)
    (calls : ℕ → CallState) (disturbed : ℕ → Bool) (span_history : SpanHistory) (n : ℕ) (flags : Flags) (first : ℕ) →
    let m = at_rest back vs lfh large words calls disturbed span_history in
    0 < s.limits.callers → is_paged (route_of n) ≡ true → hands m.state 0 ≡ [] → leaves_whole m.state whats.Back ≡ true →
    back_place back.area s.limits.segments (pages_of n) ≡ Some first → first / 256 < back.area.reserved →
    may_all_follow s m (placing n flags first) ≡ true
