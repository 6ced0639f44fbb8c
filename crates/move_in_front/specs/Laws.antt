-- What a caller that has taken a block and searched nothing still has, whatever others do.
use Rattle.std.specs.Prelude.{◌≡◌, ℕ, false, List, [], ◌∷◌}
use Rattle.heap_model.specs.declared.Act.TheVariants as acts
use Rattle.heap_model.specs.declared.Call.TheVariants as calls
use Rattle.heap_model.specs.declared.Flags.{Flags}
use Rattle.heap_model.specs.declared.What.{What}
use Rattle.heap_model.specs.declared.What.TheVariants as whats
use Rattle.claim_rule.specs.Entries.{IsLegalWith, entry}
use Rattle.claim_rule.specs.Home.{slot_of}
use Rattle.lock_steps.specs.Locks.{owed_with}
use Rattle.heap_gate.specs.Token.{Token, IsStanding}
use Rattle.heap_gate.specs.Calls.{Runs, Reveals, Stands, stance}
use Rattle.lfh_claims.specs.declared.tag.Tag.{Tag}
use Rattle.call_parts.specs.Calls.{IsServing}
use Rattle.stay_calls.specs.Stays.{IsTakenToMove}
use Rattle.move_in_front.specs.Taken.{HasTaken}

-- A call that has found its block of the front end, and has taken it to move it, may call the move here once it has its locks.
abbrev pub TakenHas : Type 0
TakenHas =
    (old new : Token) (addr size n : ℕ) (flags : Flags) (tag : Tag) → IsServing old (calls.Realloc addr n flags) [] → flags.in_place ≡ false → IsTakenToMove old new addr tag size n → IsStanding new
    → IsLegalWith new.opening new.roll new.seen → HasTaken new tag addr size n flags []

-- It still may where a lock was taken ..
abbrev pub LockKeeps : Type 0
LockKeeps =
    (old new : Token) (tag : Tag) (addr size n : ℕ) (flags : Flags) (out : List ℕ) (what : What) → HasTaken old tag addr size n flags out → IsStanding old → Reveals old new (entry old.number (acts.TakeLock what) ∷ [])
    → Stands new (record (stance old) { out = slot_of what ∷ old.out; owes = owed_with what old.owes }) → HasTaken new tag addr size n flags (slot_of what ∷ out)

-- .. or given back ..
abbrev pub GiftKeeps : Type 0
GiftKeeps =
    (old new : Token) (tag : Tag) (addr size n : ℕ) (flags : Flags) (out more : List ℕ) (what : What) → HasTaken old tag addr size n flags out → IsStanding old → Runs old new (entry old.number (acts.GiveLock what) ∷ [])
    → Stands new (record (stance old) { out = more }) → HasTaken new tag addr size n flags more

-- .. or another caller had it ..
abbrev pub MissKeeps : Type 0
MissKeeps =
    (old new : Token) (tag : Tag) (addr size n : ℕ) (flags : Flags) (out : List ℕ) (what : What) (word : ℕ) → HasTaken old tag addr size n flags out → IsStanding old → (what ≡ whats.Gate → ⊥)
    → Runs old new (entry old.number (acts.Blocked what word) ∷ []) → Stands new (stance old) → HasTaken new tag addr size n flags out

-- .. or a word was read, by a step that adds nothing.
abbrev pub LookKeeps : Type 0
LookKeeps =
    (old new : Token) (tag : Tag) (addr size n : ℕ) (flags : Flags) (out : List ℕ) → HasTaken old tag addr size n flags out → IsStanding old → Runs old new [] → Stands new (stance old) → HasTaken new tag addr size n flags out
