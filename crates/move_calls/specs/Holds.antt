-- A caller that takes the locks of a move one after another, and gives them back.
use Rattle.std.specs.Prelude.{◌≡◌, ◌≢◌, ℕ, ◌+◌, true, List, [], ◌∷◌}
use Rattle.heap_model.specs.declared.Act.{Act}
use Rattle.heap_model.specs.declared.Act.TheVariants as acts
use Rattle.heap_model.specs.declared.Busy.{Busy}
use Rattle.heap_model.specs.declared.Call.TheVariants as calls
use Rattle.heap_model.specs.declared.Flags.{Flags}
use Rattle.heap_model.specs.declared.What.{What}
use Rattle.heap_model.specs.declared.What.TheVariants as whats
use Rattle.heap_model.specs.State.{Place}
use Rattle.claim_rule.specs.Home.{slot_of}
use Rattle.claim_rule.specs.Places.{vs_slot, back_slot, large_slot}
use Rattle.heap_gate.specs.Token.{Token, is_out}
use Rattle.backend_fit.specs.Kept.{Kept}
use Rattle.large_blocks.specs.Table.{LargeTable}
use Rattle.vs_layer.specs.Kept.{VsKept}
use Rattle.call_parts.specs.Calls.{IsServing}
use Rattle.call_parts.specs.Entries.{HasAdded, HasEnded}
use Rattle.stay_calls.specs.Stays.{IsStuck}
use Rattle.move_parts.specs.Moves.{IsMoving, TellsVs, TellsBack, TellsLarge}
use Rattle.move_calls.specs.declared.held.Held.{Held}
use Rattle.move_calls.specs.declared.held.Held.TheVariants as helds

---- Others act meanwhile

-- what the states of the locks that are held still have told, they tell still
pub record TellsStill (old new : Token) : Type 0 where
  pub vs : is_out whats.Vs old.out ≡ true → is_out whats.Vs new.out ≡ true → (vs : VsKept) → TellsVs old vs → TellsVs new vs
  pub back : is_out whats.Back old.out ≡ true → is_out whats.Back new.out ≡ true → (back : Kept) → TellsBack old back → TellsBack new back
  pub large : is_out whats.Large old.out ≡ true → is_out whats.Large new.out ≡ true → (large : LargeTable) → TellsLarge old large → TellsLarge new large

---- Locks are taken

-- The caller reallocates the block at addr, which is this place, under the lock of its layer. It is at rest with these locks.
pub record IsGathering (c : Token) (addr size n : ℕ) (flags : Flags) (p : Place) (out : List ℕ) : Type 0 where
  pub serving : IsServing c (calls.Realloc addr n flags) out
  pub stuck : IsStuck c addr size n p

-- .. and has one more of them
pub record HasOneMore (old new : Token) (addr size n : ℕ) (flags : Flags) (p : Place) (out : List ℕ) (what : What) : Type 0 where
  pub gathering : IsGathering new addr size n flags p (slot_of what ∷ out)
  pub added : HasAdded old new (acts.TakeLock what ∷ [])
  pub still : TellsStill old new

-- .. or has not, as another holds it
pub record HasMet (old new : Token) (out : List ℕ) (what : What) (b : Busy) : Type 0 where
  pub ended : HasEnded old new (acts.Blocked b.what b.word ∷ []) out
  pub what_is : b.what ≡ what
  pub another : (b.word ≢ 0) × (b.word ≢ old.number + 1)
  pub still : TellsStill old new

-- .. or has all that it needs, and may move the block
pub record IsReadyToMove (old new : Token) (addr size n : ℕ) (flags : Flags) (p : Place) (out : List ℕ) : Type 0 where
  pub moving : IsMoving new addr size n flags p out
  pub added : HasAdded old new []
  pub still : TellsStill old new

---- Locks are given back

-- The caller is inside with these locks, has nothing in hand, and owes no word.
pub record IsResting (c : Token) (out : List ℕ) : Type 0 where
  pub inside : c.inside ≡ true
  pub whole : c.whole ≡ true
  pub free : c.free ≡ true
  pub out_is : c.out ≡ out
  pub owes : c.owes ≡ []

-- It has given this lock back, and these are left.
pub record HasPut (old new : Token) (what : What) (more : List ℕ) : Type 0 where
  pub ended : HasEnded old new (acts.GiveLock what ∷ []) more
  pub still : TellsStill old new

-- the locks, the last taken first
abbrev pub slots_of : Held → List ℕ
slots_of (helds.Vs vs) = vs_slot ∷ []
slots_of (helds.Low vs back) = back_slot ∷ vs_slot ∷ []
slots_of (helds.LowThenLarge vs back large) = large_slot ∷ back_slot ∷ vs_slot ∷ []
slots_of (helds.Large large) = large_slot ∷ []
slots_of (helds.LargeThenVs large vs) = vs_slot ∷ large_slot ∷ []
slots_of (helds.LargeThenLow large vs back) = back_slot ∷ vs_slot ∷ large_slot ∷ []

-- they are given back
abbrev pub gives_of : Held → List Act
gives_of (helds.Vs vs) = acts.GiveLock whats.Vs ∷ []
gives_of (helds.Low vs back) = acts.GiveLock whats.Back ∷ acts.GiveLock whats.Vs ∷ []
gives_of (helds.LowThenLarge vs back large) = acts.GiveLock whats.Large ∷ acts.GiveLock whats.Back ∷ acts.GiveLock whats.Vs ∷ []
gives_of (helds.Large large) = acts.GiveLock whats.Large ∷ []
gives_of (helds.LargeThenVs large vs) = acts.GiveLock whats.Vs ∷ acts.GiveLock whats.Large ∷ []
gives_of (helds.LargeThenLow large vs back) = acts.GiveLock whats.Back ∷ acts.GiveLock whats.Vs ∷ acts.GiveLock whats.Large ∷ []

-- their states tell what they guard
abbrev pub TellsHeld : Token → Held → Type 0
TellsHeld c (helds.Vs vs) = TellsVs c vs
TellsHeld c (helds.Low vs back) = TellsVs c vs × TellsBack c back
TellsHeld c (helds.LowThenLarge vs back large) = TellsVs c vs × TellsBack c back × TellsLarge c large
TellsHeld c (helds.Large large) = TellsLarge c large
TellsHeld c (helds.LargeThenVs large vs) = TellsVs c vs × TellsLarge c large
TellsHeld c (helds.LargeThenLow large vs back) = TellsVs c vs × TellsBack c back × TellsLarge c large

-- The caller holds all these, and nothing else.
pub record IsHolding (c : Token) (held : Held) : Type 0 where
  pub resting : IsResting c (slots_of held)
  pub tells : TellsHeld c held
