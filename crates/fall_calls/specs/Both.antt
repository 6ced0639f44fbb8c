-- A caller under the locks of VS and of the back end, in either order.
use Rattle.std.specs.Prelude.{◌≡◌, ℕ, ◌<◌, Bool, true, Some, length, List, [], ◌∷◌, if◌then◌else◌}
use Rattle.heap_model.specs.declared.Act.{Act}
use Rattle.heap_model.specs.declared.Act.TheVariants as acts
use Rattle.heap_model.specs.declared.Layer.TheVariants as layers
use Rattle.heap_model.specs.declared.What.TheVariants as whats
use Rattle.heap_model.specs.Layers.{StandsForVs}
use Rattle.heap_model.specs.Legal.{leaves_whole}
use Rattle.heap_model.specs.State.{Place}
use Rattle.claim_rule.specs.Places.{vs_slot, back_slot}
use Rattle.backend_fit.specs.Kept.{Kept}
use Rattle.heap_gate.specs.Token.{Token, Always, now}
use Rattle.vs_layer.specs.Kept.{VsKept}
use Rattle.vs_layer.specs.Standing.{layer_of}
use Rattle.call_parts.specs.Entries.{HasNew, HasHandedOver}
use Rattle.vs_calls.specs.Blocks.{size_at}
use Rattle.lfh_spans.specs.Subsegments.{IsBackOf}
use Rattle.small_calls.specs.Ways.{KeepsVs}

-- the locks, the one taken last in front: that of VS, or that of the back end
abbrev pub both_slots : Bool → List ℕ
both_slots vs_last = if vs_last then vs_slot ∷ back_slot ∷ [] else back_slot ∷ vs_slot ∷ []

-- they are given back
abbrev pub gives : Bool → List Act
gives vs_last = if vs_last then acts.GiveLock whats.Vs ∷ acts.GiveLock whats.Back ∷ [] else acts.GiveLock whats.Back ∷ acts.GiveLock whats.Vs ∷ []

-- The caller is inside, has the states of both and nothing in hand, and owes no word.
pub record HasTwo (c : Token) (vs : VsKept) (back : Kept) (vs_last : Bool) : Type 0 where
  pub inside : c.inside ≡ true
  pub whole : c.whole ≡ true
  pub free : c.free ≡ true
  pub out_is : c.out ≡ both_slots vs_last
  pub owes : c.owes ≡ []
  pub keeps : KeepsVs c vs
  pub back_is : IsBackOf c back

-- All that the caller has in hand is a new block of VS of n bytes at this address, which the state of VS has already: it tells what it guards once the block is
-- given.
pub record IsToGive (c : Token) (vs : VsKept) (addr n : ℕ) : Type 0 where
  pub place : Place
  pub new : HasNew c place addr n
  pub layer : place.layer ≡ layers.Vs
  pub sized : size_at vs addr ≡ Some n
  pub limits_are : vs.limits ≡ c.opening.limits
  pub once_given : (d : Token) (zero : Bool) → HasHandedOver c d place n zero → Always d (λ s. (leaves_whole (now s d).state whats.Vs ≡ true) × StandsForVs d.opening (now s d).state (layer_of vs))

-- .. under both locks
pub record HasBlock (c : Token) (vs : VsKept) (back : Kept) (addr n : ℕ) (vs_last : Bool) : Type 0 where
  pub block : IsToGive c vs addr n
  pub few : length c.prepared < 16
  pub out_is : c.out ≡ both_slots vs_last
  pub owes : c.owes ≡ []
  pub back_is : IsBackOf c back
