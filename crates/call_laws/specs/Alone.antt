-- What c alone decides of its entries, so that it can prepare them; and what an entry of a search, or behind one, needs.
use Rattle.std.specs.Prelude.{◌≡◌, ℕ, ◌*◌, ◌/◌, ◌≤◌, true, false, ◌∷◌, Some, None}
use Rattle.heap_model.specs.declared.Act.TheVariants as acts
use Rattle.heap_model.specs.declared.Call.{Call}
use Rattle.heap_model.specs.declared.Call.TheVariants as calls
use Rattle.heap_model.specs.declared.Flags.{Flags}
use Rattle.heap_model.specs.declared.Layer.TheVariants as layers
use Rattle.heap_model.specs.Geometry.{units_of, span_pages_of}
use Rattle.heap_model.specs.Buckets.{bucket_of, block_size, block_address}
use Rattle.heap_model.specs.Runs.{Run}
use Rattle.heap_model.specs.State.{Setting, Span, Place, InHand, is_layer, address}
use Rattle.heap_model.specs.Backend.{back_place}
use Rattle.heap_model.specs.Ranges.{gaps, vs_place}
use Rattle.heap_model.specs.Bits.{starts_at}
use Rattle.heap_model.specs.CallState.{Configuration, caller_view}
use Rattle.heap_model.specs.Search.{asked_by, request_of, spans_of, last_read}
use Rattle.heap_model.specs.Legal.{cannot_be_served, serve}
use Rattle.heap_model.specs.Agreement.{is_locked_at, is_exclusive_at, holds_old_block}
use Rattle.heap_soundness.specs.Sound.{IsOneOf}
use Rattle.call_laws.specs.Within.{IsReached, IsWithin, LeadsTo}
use Rattle.call_laws.specs.Blocks.{IsOpenTo}

-- A place of a layer whose lock c holds changes by c alone ..
abbrev pub OpenIsLocked : Type 0
OpenIsLocked = (s : Setting) (m : Configuration) (c : ℕ) (p : Place) → IsReached s m → IsOpenTo m c p → is_layer p.layer layers.Lfh ≡ false → is_locked_at m c (address p) ≡ true

-- .. and so does one that is in its hand.
abbrev pub HandIsExclusive : Type 0
HandIsExclusive = (s : Setting) (m : Configuration) (c : ℕ) (p : Place) → IsReached s m → IsOpenTo m c p → p.status ≡ InHand c → is_exclusive_at m c (address p) ≡ true

-- What a call places, c alone decides: an allocation has no old block ..
abbrev pub AllocationHoldsOld : Type 0
AllocationHoldsOld = (m : Configuration) (c n : ℕ) (flags : Flags) → (m.now.calls c).call ≡ Some (calls.Alloc n flags) → holds_old_block m c ≡ true

-- .. and a reallocation holds it, by its lock or in hand.
abbrev pub ReallocationHoldsOld : Type 0
ReallocationHoldsOld = (s : Setting) (m : Configuration) (c n : ℕ) (flags : Flags) (p : Place) → IsReached s m → (m.now.calls c).call ≡ Some (calls.Realloc (address p) n flags) →
    IsOpenTo m c p → (is_layer p.layer layers.Lfh ≡ true → p.status ≡ InHand c) → holds_old_block m c ≡ true

---- Of a search

-- The block that the search has picked is made a place.
abbrev pub PlacingPicked : Type 0
PlacingPicked = (s : Setting) (m : Configuration) (c : ℕ) (call : Call) (b i : ℕ) (x : Span) → IsWithin m c call → (request_of s m c).search ≡ Some b → 1 ≤ b → b ≤ 128 →
    IsOneOf x (spans_of m.state.back.area b (s.slot c)) → (m.now.calls c).search.picked ≡ Some i → last_read (m.now.calls c).search ≡ Some x.first → starts_at m.state.lfh (block_address b x.first i) ≡ false →
    LeadsTo s m c call (acts.Place (block_address b x.first i) (block_size b / 16) layers.Lfh)
    (record m.state { lfh = record { start = block_address b x.first i; granules = block_size b / 16; layer = layers.Lfh; status = InHand c } ∷ m.state.lfh })

-- Where the front end can't serve the bucket, the block goes to a gap of the variable-size layer ..
abbrev pub FallingIntoGap : Type 0
FallingIntoGap = (s : Setting) (m : Configuration) (c : ℕ) (call : Call) (n b : ℕ) (r : Run) → IsWithin m c call → (caller_view m c).vs ≡ true → (caller_view m c).back ≡ true → (m.now.calls c).no_span ≡ true →
    asked_by call ≡ Some n → bucket_of n ≡ Some b → cannot_be_served s m.state.back.area c (caller_view m c) (request_of s m c) b ≡ true → vs_place (gaps m.state) (units_of n) ≡ Some r →
    LeadsTo s m c call (acts.Place (16 * r.first) r.count layers.Vs)
    (record m.state {
      vs = record {
        places = record { start = 16 * r.first; granules = r.count; layer = layers.Vs; status = InHand c } ∷ m.state.vs.places;
        active = m.state.vs.active;
        served = serve (Some b) m.state.vs.served;
      };
    })

-- .. or is refused.
abbrev pub RefusingSearched : Type 0
RefusingSearched = (s : Setting) (m : Configuration) (c : ℕ) (call : Call) (n b : ℕ) → IsWithin m c call → (caller_view m c).vs ≡ true → (caller_view m c).back ≡ true →
    asked_by call ≡ Some n → bucket_of n ≡ Some b → cannot_be_served s m.state.back.area c (caller_view m c) (request_of s m c) b ≡ true →
    vs_place (gaps m.state) (units_of n) ≡ None → back_place m.state.back.area s.limits.segments (span_pages_of n) ≡ None → LeadsTo s m c call (acts.NoFit n) m.state
