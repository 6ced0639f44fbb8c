-- What the parts of a call do that the front end serves.
use Rattle.std.specs.Prelude.{◌≡◌, ℕ, Bool, true, false, List, [], ◌∷◌, Option, Some, None}
use Rattle.heap_model.specs.declared.Act.{Act}
use Rattle.heap_model.specs.declared.Act.TheVariants as acts
use Rattle.heap_model.specs.declared.Call.{Call}
use Rattle.heap_gate.specs.Token.{Token}
use Rattle.call_parts.specs.Calls.{Makes}

-- A part of this call whose own acts are exactly these, so that it has taken no lock and met none.
pub record MakesJust (old new : Token) (call : Call) (rest : List Act) : Type 0 where
  pub makes : Makes old new call rest
  pub just : makes.added ≡ rest

-- .. of the call that the caller is in
abbrev pub GoesBy : Token → Token → List Act → Type 0
GoesBy old new rest = (call : Call) → old.call ≡ Some call → MakesJust old new call rest

-- the size of the block at an address is found, or that none is live there
abbrev pub Measures : Token → Token → ℕ → Option ℕ → Type 0
Measures old new addr (Some size) = GoesBy old new (acts.Sized addr size ∷ [])
Measures old new addr None = GoesBy old new (acts.NotLive addr ∷ [])

-- the block at an address is taken, and its place goes, or none is live there
abbrev pub Drops : Token → Token → ℕ → Bool → Type 0
Drops old new addr true = (size : ℕ) × GoesBy old new (acts.Take addr size ∷ acts.Drop addr ∷ [])
Drops old new addr false = GoesBy old new (acts.NotLive addr ∷ [])
