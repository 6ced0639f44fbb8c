-- The heap as its only caller uses it: what a contract sees of it, and what one call does.
use Rattle.std.specs.Prelude.{◌≡◌, ℕ, List, [], ◌∷◌, ◌++◌, map}
use mathlib.Core.List.{IsPrefix}
use Rattle.heap_model.specs.declared.Act.{Act}
use Rattle.heap_model.specs.declared.Call.{Call}
use Rattle.heap_model.specs.declared.Call.TheVariants as calls
use Rattle.heap_model.specs.declared.Entry.{Entry}
use Rattle.heap_model.specs.declared.Limits.{Limits}
use Rattle.heap_model.specs.declared.Opening.{Opening}
use Rattle.heap_model.specs.declared.Reply.{Reply}
use Rattle.heap_model.specs.State.{Setting}
use Rattle.heap_model.specs.CallState.{Configuration}
use Rattle.heap_model.specs.Alone.{alone, by_zero}
use Rattle.heap_model.specs.History.{configuration_of}
use Rattle.heap_model.specs.Moments.{moments_by}
use Rattle.heap_model.specs.Served.{GetsReply, IsServed, by_depth, depth_after}
use Rattle.claim_rule.specs.declared.views.Assignment.{Assignment}
use Rattle.heap_gate.specs.Token.{HeapToken, Token}
use Rattle.heap_gate.specs.Roots.{RootToken, opened_with}
use Rattle.heap_now.specs.Callers.{IsRootOf}
use Rattle.heap_now.specs.Calls.{IsCallerOf}
use Rattle.thread_calls.specs.Serving.{EndsOnce}

---- What is seen of it

-- what it was opened with, what its caller has done, and how often the caller has the heap lock
pub record LoneHeap : Type 0 where
  pub opening : Opening
  pub acts : List Act
  pub depth : ℕ

abbrev pub new_with : Limits → ℕ → LoneHeap
new_with limits seed = record { opening = opened_with limits seed; acts = []; depth = 0 }

-- the caller has the slot 0 and the stream 0
abbrev pub setting_of : LoneHeap → Setting
setting_of h = alone h.opening.limits h.opening.seed

abbrev pub history_of : LoneHeap → List Entry
history_of h = map by_zero h.acts

-- the configuration behind all that the caller has done
abbrev pub behind : LoneHeap → Configuration
behind h = configuration_of (setting_of h) (history_of h)

---- The heap, its root and its caller

abbrev pub act_of : Entry → Act
act_of e = e.act

-- the heap as it is seen of its own table and its caller
abbrev pub seen_by : HeapToken → Token → LoneHeap
seen_by h c = record { opening = h.opening; acts = map act_of c.seen; depth = c.depth }

-- what the only caller is made with
abbrev pub only_one : List Assignment
only_one = record { slot = 0; stream = 0 } ∷ []

-- The heap has room for one caller, and this is it, between two calls.
pub record IsLone (h : HeapToken) (r : RootToken) (c : Token) : Type 0 where
  pub few : h.opening.limits.callers ≡ 1
  pub root : IsRootOf h r
  pub roll : r.roll ≡ only_one
  pub joined : r.joined ≡ []
  pub caller : IsCallerOf h c
  pub number : c.number ≡ 0
  pub known : IsPrefix only_one c.roll

---- One call

-- The caller has done more: its acts are those of this call, which got these replies, or none where the depth answers it.
pub record Serves (old new : LoneHeap) (call : Call) (its : List Reply) : Type 0 where
  pub added : List Act
  pub opening : new.opening ≡ old.opening
  pub acts : new.acts ≡ old.acts ++ added
  pub depth : new.depth ≡ depth_after old.depth call its
  pub served : IsServed (GetsReply (setting_of old) 0) (by_depth old.depth call) call its (moments_by (setting_of old) (behind old) added)

-- .. a walk: a block for each call but the last one, which found none, or one refusal
pub record Walks (old new : LoneHeap) (its : List Reply) : Type 0 where
  pub serves : Serves old new (calls.WalkNext 0) its
  pub ends : EndsOnce its
