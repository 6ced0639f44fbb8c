-- A reallocation of a block that is not of the front end is determined whatever its new size is, as long as what a pass finds is placed under the lock of the back end.
use Rattle.std.specs.Prelude.{◌≡◌, ℕ, true, false, List, ◌∷◌}
use Rattle.heap_model.specs.declared.Act.{Act}
use Rattle.heap_model.specs.declared.Act.TheVariants as acts
use Rattle.heap_model.specs.declared.Call.TheVariants as calls
use Rattle.heap_model.specs.declared.Flags.{Flags}
use Rattle.heap_model.specs.declared.Reply.{Reply}
use Rattle.heap_model.specs.State.{Setting, IsValidSetting, place_at}
use Rattle.heap_model.specs.Stay.{for_some}
use Rattle.heap_model.specs.CallState.{Configuration}
use Rattle.heap_model.specs.Alone.{configuration_by}
use Rattle.heap_model.specs.Shape.{is_of_front}
use Rattle.one_caller_laws.specs.OneCall.{IsBetween, AreAlike, Answers, IsSameReply}
use Rattle.one_caller_laws.specs.UnderBack.{place_under_back}

-- Its block may move to the front end, whether it searches, makes a span, or falls back to another layer.
abbrev pub MoveUnderBackIsDetermined : Type 0
MoveUnderBackIsDetermined = (s : Setting) (m k : Configuration) (reply other : Reply) (rest others : List Act) (a n : ℕ) (flags : Flags) →
    IsValidSetting s → IsBetween s m → IsBetween s k → AreAlike m k → for_some (place_at m.state 0 a) is_of_front ≡ false →
    Answers s m (calls.Realloc a n flags) reply rest → Answers s k (calls.Realloc a n flags) other others →
    place_under_back s m (acts.Begin (calls.Realloc a n flags) ∷ rest) ≡ true → place_under_back s k (acts.Begin (calls.Realloc a n flags) ∷ others) ≡ true →
    IsSameReply reply other × AreAlike (configuration_by s m (acts.Begin (calls.Realloc a n flags) ∷ rest)) (configuration_by s k (acts.Begin (calls.Realloc a n flags) ∷ others))
