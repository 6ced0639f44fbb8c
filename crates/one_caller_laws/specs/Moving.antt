-- A reallocation: what it is answered, and what it leaves, is a function of what it found, unless the front end has a part in a new place.
use Rattle.std.specs.Prelude.{◌≡◌, ◌⊎◌, ℕ, ◌<◌, true, false, List, ◌∷◌}
use Rattle.heap_model.specs.declared.Act.{Act}
use Rattle.heap_model.specs.declared.Act.TheVariants as acts
use Rattle.heap_model.specs.declared.Call.{Call}
use Rattle.heap_model.specs.declared.Call.TheVariants as calls
use Rattle.heap_model.specs.declared.Flags.{Flags}
use Rattle.heap_model.specs.declared.Reply.{Reply}
use Rattle.heap_model.specs.State.{Setting, IsValidSetting, place_at}
use Rattle.heap_model.specs.Stay.{for_some}
use Rattle.heap_model.specs.CallState.{Configuration}
use Rattle.heap_model.specs.Search.{has_to_move}
use Rattle.heap_model.specs.Alone.{configuration_by}
use Rattle.one_caller_laws.specs.OneCall.{IsBetween, AreAlike, Answers, IsSameReply, IsForOthers}
use Rattle.one_caller_laws.specs.Asked.{Script, AsksOnly, AreOne}

-- The front end makes no place for the reallocation: it may not move its block, or no block is there that has to move, or the new size is for others.
abbrev pub MovesByOthers : Setting → Configuration → ℕ → ℕ → Flags → Type 0
MovesByOthers s m a n flags = (flags.in_place ≡ true) ⊎ ((for_some (place_at m.state 0 a) (has_to_move s m.state 0 n) ≡ false) ⊎ IsForOthers m n)

-- Of such a reallocation it is so: whether its block stays, moves with its words to another place, is refused, or is not there.
abbrev pub ReallocationIsDetermined : Type 0
ReallocationIsDetermined = (s : Setting) (m k : Configuration) (reply other : Reply) (rest others : List Act) (a n : ℕ) (flags : Flags) →
    IsValidSetting s → IsBetween s m → IsBetween s k → AreAlike m k → MovesByOthers s m a n flags →
    Answers s m (calls.Realloc a n flags) reply rest → Answers s k (calls.Realloc a n flags) other others →
    IsSameReply reply other × AreAlike (configuration_by s m (acts.Begin (calls.Realloc a n flags) ∷ rest)) (configuration_by s k (acts.Begin (calls.Realloc a n flags) ∷ others))

-- any call but one for which the front end may make a place: an allocation of so few bytes, or a reallocation to so few that may move its block
abbrev pub IsOfOthersOrMoves : Call → Type 0
IsOfOthersOrMoves (calls.Alloc n flags) = 16368 < n
IsOfOthersOrMoves (calls.Realloc a n flags) = (flags.in_place ≡ true) ⊎ (16368 < n)
IsOfOthersOrMoves call = Unit {0}

-- Two runs of a script of such calls are one.
abbrev pub RunsThatMoveAreOne : Type 0
RunsThatMoveAreOne = (s : Setting) (script : Script) → IsValidSetting s → AsksOnly IsOfOthersOrMoves script → AreOne s script
