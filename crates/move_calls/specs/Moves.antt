-- What comes of the second half of a reallocation: the block has moved, or no range is there for it, or another caller is in the way.
use Rattle.std.specs.Prelude.{◌≡◌, ◌≢◌, ◌⊎◌, ℕ, ◌+◌, ◌≤◌, false, List, [], ◌∷◌, Result, Ok, Err}
use Rattle.heap_model.specs.declared.Act.{Act}
use Rattle.heap_model.specs.declared.Act.TheVariants as acts
use Rattle.heap_model.specs.declared.Busy.{Busy}
use Rattle.heap_model.specs.declared.Call.TheVariants as calls
use Rattle.heap_model.specs.declared.Flags.{Flags}
use Rattle.heap_model.specs.declared.Limits.{Limits}
use Rattle.heap_model.specs.declared.ReNo.{ReNo}
use Rattle.heap_model.specs.declared.ReNo.TheVariants as re_nos
use Rattle.heap_model.specs.declared.What.{What}
use Rattle.heap_model.specs.declared.What.TheVariants as whats
use Rattle.heap_model.specs.Shape.{IsMoved, HasNoRange, IsHindered, Reallocates}
use Rattle.heap_gate.specs.Token.{Token}
use Rattle.call_parts.specs.Calls.{Makes}
use Rattle.address_calls.specs.Answers.{MayGuard}
use Rattle.stay_calls.specs.Moments.{MakesSo}
use Rattle.stay_calls.specs.Stays.{HasNoRoomAt}

---- Busy

-- a new block of n bytes that an old one moves to needs this lock
abbrev pub IsForNew : ℕ → What → Type 0
IsForNew n whats.Vs = n ≤ 520192
IsForNew n whats.Back = n ≤ 520192
IsForNew n whats.Large = 520193 ≤ n
IsForNew n _ = ⊥

-- .. or the lock may guard what is at addr
abbrev pub MayTry : Limits → ℕ → ℕ → What → Type 0
MayTry l addr n what = MayGuard l addr what ⊎ IsForNew n what

-- Another caller holds such a lock, and the block is as it was: where it is one of the front end that was taken, it was given again with its size.
pub record IsInTheWay (old new : Token) (addr n : ℕ) (flags : Flags) (b : Busy) : Type 0 where
  pub shape : List Act
  pub made : Makes old new (calls.Realloc addr n flags) shape
  pub hindered : IsHindered (calls.Realloc addr n flags) b shape
  pub another : (b.word ≢ 0) × (b.word ≢ old.number + 1)
  pub may : MayTry old.opening.limits addr n b.what

---- The answer

-- The block at addr is at another address now, with n bytes; or no range is there for them, or another is in the way.
abbrev pub Moves : Token → Token → ℕ → ℕ → Flags → Result ℕ ReNo → Type 0
Moves old new addr n flags (Ok b) = MakesSo old new (calls.Realloc addr n flags) (λ s c xs. IsMoved s c addr n flags.zero b xs)
Moves old new addr n flags (Err re_nos.NoFit) = MakesSo old new (calls.Realloc addr n flags) (λ s c xs. HasNoRange s c addr n xs)
Moves old new addr n flags (Err (re_nos.Busy b)) = IsInTheWay old new addr n flags b
Moves old new addr n flags _ = ⊥

-- .. where it may stay too, or may not move, or none is there
abbrev pub IsReallocated : Token → Token → ℕ → ℕ → Flags → Result ℕ ReNo → Type 0
IsReallocated old new addr n flags (Ok b) = MakesSo old new (calls.Realloc addr n flags) (λ s c xs. Reallocates s c addr n flags b xs)
IsReallocated old new addr n flags (Err re_nos.NoFit) = (flags.in_place ≡ false) × MakesSo old new (calls.Realloc addr n flags) (λ s c xs. HasNoRange s c addr n xs)
IsReallocated old new addr n flags (Err re_nos.NoRoomInPlace) = HasNoRoomAt old new addr n flags
IsReallocated old new addr n flags (Err re_nos.NotLive) = Makes old new (calls.Realloc addr n flags) (acts.NotLive addr ∷ [])
IsReallocated old new addr n flags (Err (re_nos.Busy b)) = IsInTheWay old new addr n flags b
