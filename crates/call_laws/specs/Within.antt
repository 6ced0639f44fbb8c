-- A caller within its call, in a configuration to which a legal history leads, and one more entry of it.
use Rattle.std.specs.Prelude.{◌≡◌, ℕ, true, List, map, Some}
use Rattle.heap_model.specs.declared.Act.{Act}
use Rattle.heap_model.specs.declared.Call.{Call}
use Rattle.heap_model.specs.declared.Entry.{Entry}
use Rattle.heap_model.specs.State.{Setting, State, IsValidSetting}
use Rattle.heap_model.specs.CallState.{Configuration, Nothing, caller_view}
use Rattle.heap_model.specs.Legal.{may_follow, after}
use Rattle.heap_model.specs.History.{may_all_follow, first_configuration, configuration_of, configuration_after}

abbrev pub by_caller : ℕ → Act → Entry
by_caller c act = record { caller = c; act = act }

-- Some legal history, of whatever callers, leads to the configuration.
pub record IsReached (s : Setting) (m : Configuration) : Type 0 where
  pub valid : IsValidSetting s
  pub entries : List Entry
  pub legal : may_all_follow s first_configuration entries ≡ true
  pub leads : m ≡ configuration_of s entries

-- The caller is inside, in this call, and nothing has to follow.
pub record IsWithin (m : Configuration) (c : ℕ) (call : Call) : Type 0 where
  pub entered : (caller_view m c).entered ≡ true
  pub call_is : (m.now.calls c).call ≡ Some call
  pub demand : m.now.demand ≡ Nothing

-- The entry may come next. It leads to this state, in which the caller is still within its call and at the gate and the locks as before.
pub record LeadsTo (s : Setting) (m : Configuration) (c : ℕ) (call : Call) (act : Act) (st : State) : Type 0 where
  pub may : may_follow s m (by_caller c act) ≡ true
  pub state : (after s m (by_caller c act)).state ≡ st
  pub within : IsWithin (after s m (by_caller c act)) c call

abbrev pub by_all : ℕ → List Act → List Entry
by_all c rest = map (by_caller c) rest

-- .. of several entries, one behind another.
pub record LeadAllTo (s : Setting) (m : Configuration) (c : ℕ) (call : Call) (rest : List Act) (st : State) : Type 0 where
  pub may : may_all_follow s m (by_all c rest) ≡ true
  pub state : (configuration_after s m (by_all c rest)).state ≡ st
  pub within : IsWithin (configuration_after s m (by_all c rest)) c call
