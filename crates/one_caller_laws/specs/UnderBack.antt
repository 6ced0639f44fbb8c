-- What one caller is answered by the front end is determined too, as long as what a pass finds is placed under the lock of the back end.
use Rattle.std.specs.Prelude.{◌≡◌, ◌⊎◌, ◌<◌, Bool, true, false, ◌&&◌, ◌||◌, not, List, [], ◌∷◌}
use Rattle.heap_model.specs.declared.Call.{Call}
use Rattle.heap_model.specs.declared.Call.TheVariants as calls
use Rattle.heap_model.specs.declared.Act.{Act}
use Rattle.heap_model.specs.declared.Act.TheVariants as acts
use Rattle.heap_model.specs.declared.Layer.TheVariants as layers
use Rattle.heap_model.specs.declared.Reply.{Reply}
use Rattle.heap_model.specs.State.{Setting, State, IsValidSetting}
use Rattle.heap_model.specs.CallState.{Stage, NotBegun, AtHint, FirstPass, SecondPass, Configuration, caller_view}
use Rattle.heap_model.specs.Legal.{after}
use Rattle.heap_model.specs.Alone.{by_zero, configuration_by}
use Rattle.heap_model.specs.History.{first_configuration}
use Rattle.one_caller_laws.specs.OneCall.{IsBetween, AreAlike, Answers, IsSameReply}
use Rattle.one_caller_laws.specs.Asked.{Script, Runs, AsksOnly}

-- the search reads all spans of its bucket and slot
abbrev pub is_of_pass : Stage → Bool
is_of_pass NotBegun = false
is_of_pass AtHint = false
is_of_pass FirstPass = true
is_of_pass SecondPass = true

-- A place that a pass has found is made while its caller holds the lock of the back end. One in the span of the hint needs no lock.
abbrev pub is_under_back : Configuration → Act → Bool
is_under_back m (acts.Place start granules layers.Lfh) = not (is_of_pass (m.now.calls 0).search.stage) || (caller_view m 0).back
is_under_back m _ = true

-- .. and so are all among these acts of caller 0
abbrev pub place_under_back : Setting → Configuration → List Act → Bool
place_under_back s m [] = true
place_under_back s m (act ∷ rest) = is_under_back m act && place_under_back s (after s m (by_zero act)) rest

-- However a call comes about under that premise, from configurations that are alike, its reply is the same, and it leaves them alike.
abbrev pub IsDeterminedUnderBack : Call → Type 0
IsDeterminedUnderBack call = (s : Setting) (m n : Configuration) (reply other : Reply) (rest others : List Act) →
    IsValidSetting s → IsBetween s m → IsBetween s n → AreAlike m n → Answers s m call reply rest → Answers s n call other others →
    place_under_back s m (acts.Begin call ∷ rest) ≡ true → place_under_back s n (acts.Begin call ∷ others) ≡ true →
    IsSameReply reply other × AreAlike (configuration_by s m (acts.Begin call ∷ rest)) (configuration_by s n (acts.Begin call ∷ others))

-- A run of a script under that premise.
pub record RunsUnderBack (s : Setting) (script : Script) (replies : List Reply) (state : State) : Type 0 where
  pub runs : Runs s script replies state
  pub under : place_under_back s first_configuration runs.acts ≡ true

-- Two such runs of one script have the same replies, and end in the same state.
abbrev pub AreOneUnderBack : Setting → Script → Type 0
AreOneUnderBack s script = (replies others : List Reply) (state other : State) → RunsUnderBack s script replies state → RunsUnderBack s script others other → (replies ≡ others) × (state ≡ other)

-- Where each call that a script asks is determined so, its runs are one.
abbrev pub EachThenAllUnderBack : Type 0
EachThenAllUnderBack = (s : Setting) (script : Script) → IsValidSetting s → AsksOnly IsDeterminedUnderBack script → AreOneUnderBack s script

-- any call but a reallocation to so few bytes that the front end may serve them, that may move its block
abbrev pub MovesToOthers : Call → Type 0
MovesToOthers (calls.Realloc a n flags) = (flags.in_place ≡ true) ⊎ (16368 < n)
MovesToOthers call = Unit {0}

-- Of scripts of such calls it is so.
abbrev pub RunsUnderBackAreOne : Type 0
RunsUnderBackAreOne = (s : Setting) (script : Script) → IsValidSetting s → AsksOnly MovesToOthers script → AreOneUnderBack s script
