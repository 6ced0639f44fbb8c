-- What one caller alone is answered: the heap as a plain program sees it.
use Rattle.std.specs.Prelude.{◌≡◌, ℕ, true, List, [], map}
use Rattle.heap_model.specs.declared.Call.{Call}
use Rattle.heap_model.specs.declared.Act.{Act}
use Rattle.heap_model.specs.declared.Limits.{Limits}
use Rattle.heap_model.specs.declared.Reply.{Reply}
use Rattle.heap_model.specs.State.{State, hands}
use Rattle.heap_model.specs.CallState.{Configuration, Nothing, caller_view, is_outside, holds_none}
use Rattle.heap_model.specs.History.{IsLegal, configuration_of, first_configuration}
use Rattle.heap_model.specs.Alone.{alone, by_zero}
use Rattle.heap_model.specs.Moments.{moments_by}
use Rattle.heap_model.specs.Served.{GetsReply, AreServed}

-- Caller 0 is outside the gate, holds no lock and has nothing in hand, and nothing has to follow.
pub record IsIdle (m : Configuration) : Type 0 where
  pub outside : is_outside (caller_view m 0) ≡ true
  pub holds : holds_none (caller_view m 0) ≡ true
  pub hands : hands m.state 0 ≡ []
  pub demand : m.now.demand ≡ Nothing

-- Some legal history of caller 0 alone serves these calls, gives these replies, and ends idle in this state.
pub record IsSerial (limits : Limits) (seed : ℕ) (calls : List Call) (replies : List Reply) (state : State) : Type 0 where
  pub rest : List Act
  pub served : AreServed (GetsReply (alone limits seed) 0) 0 calls replies (moments_by (alone limits seed) first_configuration rest)
  pub legal : IsLegal (alone limits seed) (map by_zero rest)
  pub idle : IsIdle (configuration_of (alone limits seed) (map by_zero rest))
  pub ends : state ≡ (configuration_of (alone limits seed) (map by_zero rest)).state
