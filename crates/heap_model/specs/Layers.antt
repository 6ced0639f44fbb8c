-- What a state of a layer stands for: the part of the heap that the layer's lock guards.
use Rattle.std.specs.Prelude.{◌≡◌, ℕ, List, bit_xor}
use Rattle.heap_model.specs.declared.Limits.{Limits}
use Rattle.heap_model.specs.declared.Opening.{Opening}
use Rattle.heap_model.specs.declared.What.{What}
use Rattle.heap_model.specs.declared.What.TheVariants as whats
use Rattle.heap_model.specs.State.{State, BackPart, VsPart, Span, Place, by_address}
use Rattle.heap_model.specs.Ranges.{vs_spans}

-- What a layer's state tells: the lock that it belongs to, the limits that it was made for, the key of the headers of VS, and by the lock what
-- the back end has, what VS has and its spans, or the large places. Places are listed by address.
pub record LayerState : Type 0 where
  pub lock : What
  pub limits : Limits
  pub key : ℕ
  pub back : BackPart
  pub vs : VsPart
  pub vs_spans : List Span
  pub large : List Place

-- the key of the headers, from the seed of the heap
abbrev pub header_key : ℕ → ℕ
header_key seed = bit_xor seed 11400714819323198485

abbrev pub sorted_vs : VsPart → VsPart
sorted_vs v = record { places = by_address v.places; active = v.active; served = v.served }

abbrev pub sorted_back : BackPart → BackPart
sorted_back b = record { area = b.area; places = by_address b.places }

pub record StandsForVs (o : Opening) (st : State) (t : LayerState) : Type 0 where
  pub lock : t.lock ≡ whats.Vs
  pub limits : t.limits ≡ o.limits
  pub key : t.key ≡ header_key o.seed
  pub part : t.vs ≡ sorted_vs st.vs
  pub spans : t.vs_spans ≡ vs_spans st.back.area

pub record StandsForBack (o : Opening) (st : State) (t : LayerState) : Type 0 where
  pub lock : t.lock ≡ whats.Back
  pub limits : t.limits ≡ o.limits
  pub part : t.back ≡ sorted_back st.back

pub record StandsForLarge (o : Opening) (st : State) (t : LayerState) : Type 0 where
  pub lock : t.lock ≡ whats.Large
  pub limits : t.limits ≡ o.limits
  pub part : t.large ≡ by_address st.large
