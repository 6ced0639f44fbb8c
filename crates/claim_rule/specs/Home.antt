-- What the slots hold: while a lock that guards a state is free, its slot has a state that stands for what the lock guards.
use Rattle.std.specs.Prelude.{◌≡◌, ℕ, List, length, Option, Some, None}
use mathlib.Core.Option.{some}
use lib.ListN.{get_elem?}
use Rattle.heap_model.specs.declared.Opening.{Opening}
use Rattle.heap_model.specs.declared.What.{What}
use Rattle.heap_model.specs.declared.What.TheVariants as whats
use Rattle.heap_model.specs.State.{State, holder_of}
use Rattle.heap_model.specs.Layers.{LayerState, StandsForVs, StandsForBack, StandsForLarge}
use Rattle.claim_rule.specs.Places.{vs_slot, back_slot, large_slot, slot_count}

-- the slot of the state that a lock guards
abbrev pub slot_of : What → ℕ
slot_of whats.Vs = vs_slot
slot_of whats.Back = back_slot
slot_of whats.Large = large_slot
slot_of _ = slot_count

-- the locks that guard a state
abbrev pub HasSlot : What → Type 0
HasSlot whats.Vs = Unit {0}
HasSlot whats.Back = Unit {0}
HasSlot whats.Large = Unit {0}
HasSlot _ = ⊥

-- a state tells what this lock guards
abbrev pub Tells : What → Opening → State → LayerState → Type 0
Tells whats.Vs o st t = StandsForVs o st t
Tells whats.Back o st t = StandsForBack o st t
Tells whats.Large o st t = StandsForLarge o st t
Tells _ o st t = ⊥

module _ {T : Type 0} (stands : T → LayerState) (o : Opening) (st : State) (homes : List (mathlib.Core.Option.Option (Option T))) where
  -- the slot of this lock has a state that tells what the lock guards
  abbrev pub IsFull : What → Type 0
  IsFull what = (t : T) × (get_elem? homes (slot_of what) ≡ some (some (Some t))) × Tells what o st (stands t)

  -- .. of each lock that is free
  pub record AreHome : Type 0 where
    pub deep : length homes ≡ slot_count
    pub full : (what : What) → HasSlot what → holder_of st.gate.locks what ≡ None → IsFull what
