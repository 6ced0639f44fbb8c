-- The end of a move under locks.
use Rattle.std.specs.Prelude.{◌≢◌, ◌⊎◌, ℕ, ◌+◌, [], ◌∷◌, Option, Some, None}
use Rattle.heap_model.specs.declared.Act.TheVariants as acts
use Rattle.heap_model.specs.declared.Busy.{Busy}
use Rattle.heap_model.specs.declared.Call.TheVariants as calls
use Rattle.heap_model.specs.declared.Flags.{Flags}
use Rattle.heap_model.specs.State.{Place}
use Rattle.heap_gate.specs.Token.{Token}
use Rattle.call_parts.specs.Calls.{IsServing}
use Rattle.call_parts.specs.Entries.{HasEnded}
use Rattle.move_parts.specs.Moves.{IsMoving}
use Rattle.move_parts.specs.Moved.{HasMoved}
use Rattle.move_parts.specs.Places.{IsWithout}
use Rattle.backend_fit.specs.Kept.{Kept}
use Rattle.move_to_front.specs.Moved.{HasMovedOver, FitsNowhere}
use Rattle.move_calls.specs.declared.held.Held.{Held}
use Rattle.move_calls.specs.Holds.{slots_of, TellsHeld}
use Rattle.move_calls.specs.Moves.{MayTry}

-- the block has moved, or no range was there for it
abbrev pub HasTriedIt : Token → Token → ℕ → ℕ → ℕ → Flags → Place → Option ℕ → Type 0
HasTriedIt k c addr size n flags p (Some b) = HasMoved k c addr size n flags p b ⊎ HasMovedOver k c addr size n flags p b
HasTriedIt k c addr size n flags p None = IsWithout k c n ⊎ ((back kept : Kept) × FitsNowhere k c addr size n p back kept)

-- From k on, where the caller was ready to move the block, it has tried it. Its locks are held still, and their states tell what is there.
pub record IsBehindTry (k c : Token) (addr size n : ℕ) (flags : Flags) (p : Place) (held : Held) (moved : Option ℕ) : Type 0 where
  pub moving : IsMoving k addr size n flags p (slots_of held)
  pub tried : HasTriedIt k c addr size n flags p moved
  pub tells : TellsHeld c held

-- From k on, where the caller reallocates with these locks, it has met one that another holds, and that it may need.
pub record IsBehindMiss (k c : Token) (addr n : ℕ) (flags : Flags) (held : Held) (b : Busy) : Type 0 where
  pub serving : IsServing k (calls.Realloc addr n flags) (slots_of held)
  pub ended : HasEnded k c (acts.Blocked b.what b.word ∷ []) (slots_of held)
  pub another : (b.word ≢ 0) × (b.word ≢ k.number + 1)
  pub may : MayTry k.opening.limits addr n b.what
  pub tells : TellsHeld c held
