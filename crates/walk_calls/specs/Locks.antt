-- The locks of all layers, taken and given back by the owner of the heap lock.
use Rattle.std.specs.Prelude.{◌≡◌, ℕ, true, List, [], ◌∷◌}
use Rattle.heap_model.specs.declared.Act.{Act}
use Rattle.heap_model.specs.declared.Act.TheVariants as acts
use Rattle.heap_model.specs.declared.Call.{Call}
use Rattle.heap_model.specs.declared.What.TheVariants as whats
use Rattle.heap_model.specs.Layers.{StandsForVs, StandsForBack, StandsForLarge}
use Rattle.heap_model.specs.Legal.{leaves_whole}
use Rattle.claim_rule.specs.Places.{vs_slot, back_slot, large_slot}
use Rattle.backend_fit.specs.Kept.{Kept}
use Rattle.backend_fit.specs.Kept as backs
use Rattle.backend_fit.specs.Sound.{IsSound}
use Rattle.large_blocks.specs.Table.{LargeTable}
use Rattle.large_blocks.specs.Table as larges
use Rattle.vs_layer.specs.Kept.{VsKept}
use Rattle.vs_layer.specs.Standing as vss
use Rattle.vs_layer.specs.Effects.{ShowsChunks}
use Rattle.heap_gate.specs.Token.{Token, Always, now}
use Rattle.call_parts.specs.Calls.{GoesOn}
use Rattle.compact_calls.specs.Owner.{IsOwning, Did}
use Rattle.walk_calls.specs.Seen.{SameParts}

-- the last taken first
abbrev pub all_slots : List ℕ
all_slots = large_slot ∷ back_slot ∷ vs_slot ∷ []

abbrev pub taking : List Act
taking = acts.TakeLock whats.Vs ∷ acts.TakeLock whats.Back ∷ acts.TakeLock whats.Large ∷ []

abbrev pub giving : List Act
giving = acts.GiveLock whats.Large ∷ acts.GiveLock whats.Back ∷ acts.GiveLock whats.Vs ∷ []

-- In its call, whichever this is, the owner has added these acts and holds these locks. The heap is as before.
pub record HasDone (old new : Token) (added : List Act) (before behind : List ℕ) : Type 0 where
  pub goes : GoesOn old new added
  pub did : (call : Call) → IsOwning old call before → Did old new call added behind
  pub heap : Always new (λ s. SameParts (now s new) (now s old))

-- The states tell all that the locks guard.
pub record TellAll (c : Token) (vs : VsKept) (back : Kept) (large : LargeTable) : Type 0 where
  pub used : Always c (λ s. leaves_whole (now s c).state whats.Vs ≡ true)
  pub vs_is : Always c (λ s. StandsForVs c.opening (now s c).state (vss.layer_of vs))
  pub back_is : Always c (λ s. StandsForBack c.opening (now s c).state (backs.layer_of back))
  pub large_is : Always c (λ s. StandsForLarge c.opening (now s c).state (larges.layer_of large))

-- .. and are whole
pub record AreWhole (vs : VsKept) (back : Kept) : Type 0 where
  pub chunks : ShowsChunks vs
  pub sound : IsSound back
