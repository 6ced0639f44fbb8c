-- What the variable-size layer tells of each state that it stands for.
use Rattle.std.specs.Prelude.{◌≡◌, ℕ}
use Rattle.std.specs.List.{find}
use Rattle.heap_model.specs.declared.Opening.{Opening}
use Rattle.heap_model.specs.Geometry.{units_of}
use Rattle.heap_model.specs.Ranges.{gaps, vs_place}
use Rattle.heap_model.specs.State.{State, has_address}
use Rattle.heap_model.specs.Stay.{is_due}
use Rattle.heap_model.specs.Layers.{StandsForVs}
use Rattle.vs_layer.specs.Kept.{VsKept, gaps_in, place_for, block_at, part_of}
use Rattle.vs_layer.specs.Standing.{layer_of}

-- Its gaps are those of the state, so a request goes to the same one, and a block can grow as far.
abbrev pub GapsAreTheHeaps : Type 0
GapsAreTheHeaps = (o : Opening) (st : State) (k : VsKept) → StandsForVs o st (layer_of k) → gaps_in k ≡ gaps st

abbrev pub PlacesAreTheHeaps : Type 0
PlacesAreTheHeaps = (o : Opening) (st : State) (k : VsKept) (n : ℕ) → StandsForVs o st (layer_of k) → place_for k n ≡ vs_place (gaps st) (units_of n)

-- The block at an address is the place of this address.
abbrev pub BlocksArePlaces : Type 0
BlocksArePlaces = (o : Opening) (st : State) (k : VsKept) (addr : ℕ) → StandsForVs o st (layer_of k) → block_at k addr ≡ find (has_address addr) st.vs.places

-- The same buckets are due.
abbrev pub SameAreDue : Type 0
SameAreDue = (o : Opening) (st : State) (k : VsKept) (bucket : ℕ) → StandsForVs o st (layer_of k) → is_due (part_of k) bucket ≡ is_due st.vs bucket
