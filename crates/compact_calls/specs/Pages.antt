-- Pages that no span has, decommitted one after another.
use Rattle.std.specs.Prelude.{◌≡◌, ℕ, Bool, true, ◌&&◌, not, nat_lt, List, map, filter}
use Rattle.std.specs.List.{list_any}
use Rattle.heap_model.specs.declared.Act.{Act}
use Rattle.heap_model.specs.declared.Act.TheVariants as acts
use Rattle.heap_model.specs.State.{Area}
use Rattle.heap_model.specs.Backend.{numbers, in_span, is_usable}
use Rattle.heap_model.specs.Layers.{LayerState, StandsForBack}
use Rattle.backend_fit.specs.Kept.{Kept, area_of, places_in, layer_of}
use Rattle.heap_gate.specs.Token.{Token, Always, now}

-- the page is committed, and no span has it
abbrev pub is_loose : Area → ℕ → Bool
is_loose a page = a.committed page && not (list_any (in_span page) a.spans)

-- of these pages, in their order
abbrev pub loose_among : Area → List ℕ → List ℕ
loose_among a pages = filter (is_loose a) pages

-- .. of all below a page
abbrev pub loose_below : Area → ℕ → List ℕ
loose_below a page = loose_among a (numbers 0 page)

-- each of these is decommitted
abbrev pub decommits : List ℕ → List Act
decommits pages = map acts.Decommit pages

-- the area when its loose pages below a page are decommitted
abbrev pub swept : ℕ → Area → Area
swept page a = record { reserved = a.reserved; committed = λ p. a.committed p && not (nat_lt p page && is_loose a p); spans = a.spans }

abbrev pub layer_swept : ℕ → Kept → LayerState
layer_swept page k = record (layer_of k) { back = record { area = swept page (area_of k); places = places_in k } }

-- The caller has decommitted the loose pages below a page. The back end has them committed still.
pub record IsSwept (c : Token) (k : Kept) (page : ℕ) : Type 0 where
  pub tells : Always c (λ s. StandsForBack c.opening (now s c).state (layer_swept page k))
  pub usable : (p : ℕ) → (area_of k).committed p ≡ true → is_usable (area_of k) p ≡ true

-- the blocks of the front end are as before
abbrev pub LeavesFront : Token → Token → Type 0
LeavesFront old new = Always new (λ s. (now s new).state.lfh ≡ (now s old).state.lfh)
