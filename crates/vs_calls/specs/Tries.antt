-- Which acts try a lock, and what comes before them.
use Rattle.std.specs.Prelude.{◌≡◌, ℕ, Bool, true, false, not, List, [], ◌∷◌, ◌++◌, None}
use Rattle.std.specs.List.{list_all}
use Rattle.heap_model.specs.declared.Act.{Act}
use Rattle.heap_model.specs.declared.Act.TheVariants as acts
use Rattle.heap_model.specs.declared.What.{What}
use Rattle.heap_model.specs.declared.What.TheVariants as whats
use Rattle.heap_model.specs.State.{is_what}
use Rattle.heap_gate.specs.Token.{Token}
use Rattle.vs_layer.specs.Kept.{VsKept, place_for}
use Rattle.call_parts.specs.Calls.{GoesOn}

-- the act takes the lock, or meets it busy
abbrev pub is_try : What → Act → Bool
is_try what (acts.TakeLock lock) = is_what what lock
is_try what (acts.Blocked lock word) = is_what what lock
is_try what _ = false

-- none of the acts does
abbrev pub tries_none : What → List Act → Bool
tries_none what added = list_all (λ act. not (is_try what act)) added

-- each act that does comes behind acts of which this holds
abbrev pub TriesBehind : What → (List Act → Type 0) → List Act → Type 0
TriesBehind what May added = (before after : List Act) (act : Act) → added ≡ before ++ act ∷ after → is_try what act ≡ true → May before

-- The caller's list goes on by acts that do not try the lock of the back end.
pub record LeavesBack (old new : Token) : Type 0 where
  pub added : List Act
  pub goes : GoesOn old new added
  pub back : tries_none whats.Back added ≡ true

-- .. or of which the first alone tries it, and only where no gap of VS holds n bytes
pub record TriesBackFirst (old new : Token) (vs : VsKept) (n : ℕ) : Type 0 where
  pub added : List Act
  pub goes : GoesOn old new added
  pub back : TriesBehind whats.Back (λ before. (before ≡ []) × (place_for vs n ≡ None)) added
