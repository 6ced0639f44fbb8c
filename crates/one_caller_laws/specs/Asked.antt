-- All that one caller asks: a script says what comes next by the replies so far.
use Rattle.std.specs.Prelude.{◌≡◌, ℕ, ◌<◌, true, List, [], ◌∷◌, ◌++◌, Option, Some, None}
use Rattle.heap_model.specs.declared.Call.{Call}
use Rattle.heap_model.specs.declared.Call.TheVariants as calls
use Rattle.heap_model.specs.declared.Act.{Act}
use Rattle.heap_model.specs.declared.Reply.{Reply}
use Rattle.heap_model.specs.State.{Setting, State, IsValidSetting}
use Rattle.heap_model.specs.History.{first_configuration}
use Rattle.heap_model.specs.Alone.{configuration_by, may_all_come}
use Rattle.heap_model.specs.Moments.{Moment, moments_by}
use Rattle.heap_model.specs.Served.{GetsReply, by_depth, depth_after, IsServed}
use Rattle.heap_model.specs.Serial.{IsIdle}
use Rattle.one_caller_laws.specs.OneCall.{IsDetermined}

-- What is asked next, where anything is, behind the replies so far.
abbrev pub Script : Type 0
Script = List Reply → Option Call

-- These calls are what the script asks, each behind the replies to those before it, and they have these replies and moments.
abbrev pub IsScripted : (Call → Reply → List Moment → Type 0) → Script → ℕ → List Reply → List Call → List Reply → List Moment → Type 0
IsScripted One script depth before [] rs xs = (script before ≡ None) × (rs ≡ []) × (xs ≡ [])
IsScripted One script depth before (call ∷ calls) rs xs =
    (script before ≡ Some call)
    × ((its : List Reply) × (others : List Reply) × (made : List Moment) × (later : List Moment)
    × (rs ≡ its ++ others) × (xs ≡ made ++ later)
    × IsServed One (by_depth depth call) call its made
    × IsScripted One script (depth_after depth call its) (before ++ its) calls others later)

-- A legal history of caller 0 alone runs the script with these replies, and ends in no call, in this state.
pub record Runs (s : Setting) (script : Script) (replies : List Reply) (state : State) : Type 0 where
  pub calls : List Call
  pub acts : List Act
  pub legal : may_all_come s first_configuration acts ≡ true
  pub scripted : IsScripted (GetsReply s 0) script 0 [] calls replies (moments_by s first_configuration acts)
  pub idle : IsIdle (configuration_by s first_configuration acts)
  pub ends : state ≡ (configuration_by s first_configuration acts).state

-- Two runs of one script in one setting have the same replies, and end in the same state.
abbrev pub AreOne : Setting → Script → Type 0
AreOne s script = (replies others : List Reply) (state other : State) → Runs s script replies state → Runs s script others other → (replies ≡ others) × (state ≡ other)

-- whatever was replied, the script asks such calls alone
abbrev pub AsksOnly : (Call → Type 0) → Script → Type 0
AsksOnly P script = (before : List Reply) (call : Call) → script before ≡ Some call → P call

-- Where each call that a script asks is determined, so are its runs.
abbrev pub EachThenAll : Type 0
EachThenAll = (s : Setting) (script : Script) → IsValidSetting s → AsksOnly IsDetermined script → AreOne s script

-- any call but an allocation of so few bytes that the front end may serve it, and a reallocation that may move its block
abbrev pub IsOfOthers : Call → Type 0
IsOfOthers (calls.Alloc n flags) = 16368 < n
IsOfOthers (calls.Realloc a n flags) = flags.in_place ≡ true
IsOfOthers call = Unit {0}

-- Of scripts of such calls it is so.
abbrev pub RunsOfOthersAreOne : Type 0
RunsOfOthersAreOne = (s : Setting) (script : Script) → IsValidSetting s → AsksOnly IsOfOthers script → AreOne s script
