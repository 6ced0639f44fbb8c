-- How the heap lock is taken and given back.
use Rattle.std.specs.Prelude.{◌≡◌, ◌≢◌, ◌+◌, ◌-◌, ◌<◌}
use Rattle.heap_model.specs.declared.Call.TheVariants as calls
use Rattle.heap_model.specs.declared.LockNo.{LockNo}
use Rattle.heap_model.specs.declared.LockNo.TheVariants as lock_nos
use Rattle.heap_model.specs.declared.Reply.TheVariants as replies
use Rattle.heap_model.specs.declared.What.TheVariants as whats
use Rattle.heap_model.specs.Shape.{Replied, WasBusy}
use Rattle.heap_gate.specs.Token.{Token}
use Rattle.heap_gate.specs.Calls.{with_depth}
use Rattle.heap_now.specs.Calls.{IsReady, Gets}

-- The caller has the heap lock once more. From depth 0 it has it by a call, which but for the depth is answered as any other.
pub record IsLockedMore (old new : Token) : Type 0 where
  pub table : new.table ≡ old.table
  pub opening : new.opening ≡ old.opening
  pub depth : new.depth ≡ old.depth + 1
  pub few : old.depth < 65535
  pub first : old.depth ≡ 0 → Gets old (with_depth new 0) calls.Lock (Replied replies.Done)
  pub again : old.depth ≢ 0 → new ≡ with_depth old (old.depth + 1)
  pub ready : IsReady new

-- .. or not: it has it as often as it may, or somebody is inside or owns it, as the gate word says that was read
abbrev pub IsNotLocked : Token → Token → LockNo → Type 0
IsNotLocked old new lock_nos.Depth = (old.depth ≡ 65535) × (new ≡ old)
IsNotLocked old new (lock_nos.Busy b) = (old.depth ≡ 0) × Gets old new calls.Lock (WasBusy b) × (b.what ≡ whats.Gate) × (b.word ≢ 0)

-- The caller has given the heap lock back once. From depth 1 it has by a call.
pub record IsLockedLess (old new : Token) : Type 0 where
  pub table : new.table ≡ old.table
  pub opening : new.opening ≡ old.opening
  pub owned : old.depth ≢ 0
  pub depth : new.depth ≡ old.depth - 1
  pub last : old.depth ≡ 1 → Gets old (with_depth new 1) calls.Unlock (Replied replies.Done)
  pub again : old.depth ≢ 1 → new ≡ with_depth old (old.depth - 1)
  pub ready : IsReady new
