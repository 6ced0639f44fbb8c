-- Calls of one caller, one after another, each from the configuration that the one before left.
use Rattle.std.specs.Prelude.{◌≡◌, ℕ, ◌+◌, true, List, [], ◌∷◌, None}
use Rattle.heap_model.specs.declared.Call.{Call}
use Rattle.heap_model.specs.declared.Act.{Act}
use Rattle.heap_model.specs.declared.Act.TheVariants as acts
use Rattle.heap_model.specs.declared.Limits.{Limits}
use Rattle.heap_model.specs.declared.Reply.{Reply}
use Rattle.heap_model.specs.State.{Setting, hands}
use Rattle.heap_model.specs.CallState.{Configuration}
use Rattle.heap_model.specs.declared.What.TheVariants as whats
use Rattle.heap_model.specs.Legal.{leaves_whole, searched_once}
use Rattle.heap_model.specs.History.{first_configuration}
use Rattle.heap_model.specs.Alone.{alone, configuration_by, may_all_come, at_rest}
use Rattle.heap_model.specs.Moments.{moments_by}
use Rattle.heap_model.specs.Served.{GetsReply, by_depth}
use Rattle.heap_model.specs.Serial.{IsIdle, IsSerial}

-- Nobody is at the gate, no lock is held, nothing is demanded, caller 0 has nothing in hand, and each span of the back end and of the
-- variable-size layer has a place.
pub record IsAtRest (m : Configuration) : Type 0 where
  pub rest : m ≡ at_rest m.state.back m.state.vs m.state.lfh m.state.large m.state.words m.now.calls m.now.disturbed m.now.span_history
  pub hands : hands m.state 0 ≡ []
  pub whole : leaves_whole m.state whats.Back ≡ true
  pub used : leaves_whole m.state whats.Vs ≡ true

-- how many calls of caller 0 have searched the low-fragmentation front end, each with one draw
abbrev pub searches_of : Configuration → ℕ
searches_of m = (m.now.calls 0).searches + searched_once (m.now.calls 0).search.stage

-- From this configuration the acts behind the Begin of this call, which no depth of the heap lock answers, may come, and end it with this reply.
pub record Completes (s : Setting) (m : Configuration) (call : Call) (reply : Reply) (rest : List Act) : Type 0 where
  pub steps : (depth : ℕ) → by_depth depth call ≡ None
  pub legal : may_all_come s m (acts.Begin call ∷ rest) ≡ true
  pub answered : GetsReply s 0 call reply (moments_by s m (acts.Begin call ∷ rest))
  pub idle : IsIdle (configuration_by s m (acts.Begin call ∷ rest))

-- .. for these calls, one after another
abbrev pub CompleteInTurn : Setting → Configuration → List Call → List Reply → List (List Act) → Type 0
CompleteInTurn s m [] [] [] = Unit {0}
CompleteInTurn s m (call ∷ calls) (reply ∷ replies) (rest ∷ rests) =
    Completes s m call reply rest × CompleteInTurn s (configuration_by s m (acts.Begin call ∷ rest)) calls replies rests
CompleteInTurn s m calls replies rests = ⊥

-- the configuration behind these calls
abbrev pub end_of : Setting → Configuration → List Call → List (List Act) → Configuration
end_of s m (call ∷ calls) (rest ∷ rests) = end_of s (configuration_by s m (acts.Begin call ∷ rest)) calls rests
end_of s m calls rests = m

-- Calls that complete in turn from the opening are a serial history.
abbrev pub InTurnIsSerial : Type 0
InTurnIsSerial = (limits : Limits) (seed : ℕ) (calls : List Call) (replies : List Reply) (rests : List (List Act)) →
    CompleteInTurn (alone limits seed) first_configuration calls replies rests →
    IsSerial limits seed calls replies (end_of (alone limits seed) first_configuration calls rests).state
