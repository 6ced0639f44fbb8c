-- What a caller is between two public calls, how a call begins and ends, and how it is answered.
use Rattle.std.specs.Prelude.{◌≡◌, ◌≢◌, ◌⊎◌, ℕ, ◌≤◌, List, [], ◌∷◌, Result, Ok, Err}
use Rattle.heap_model.specs.declared.Act.{Act}
use Rattle.heap_model.specs.declared.Act.TheVariants as acts
use Rattle.heap_model.specs.declared.AllocNo.{AllocNo}
use Rattle.heap_model.specs.declared.AllocNo.TheVariants as alloc_nos
use Rattle.heap_model.specs.declared.Busy.{Busy}
use Rattle.heap_model.specs.declared.Call.{Call}
use Rattle.heap_model.specs.declared.Reply.TheVariants as replies
use Rattle.heap_model.specs.declared.What.{What}
use Rattle.heap_model.specs.declared.What.TheVariants as whats
use Rattle.heap_model.specs.Shape.{Answer, Replied, WasBusy}
use Rattle.claim_rule.specs.Entries.{IsLegalWith}
use Rattle.heap_gate.specs.Token.{HeapToken, Token}
use Rattle.call_parts.specs.Calls.{IsReadyToCall, GoesOn, Answers, IsCause, IsServing, Brings, MeetsBusy}

---- Between two calls

-- The caller is outside, holds no lock of a layer, has nothing in hand and nothing prepared, and owes nothing.
pub record IsReady (c : Token) : Type 0 where
  pub ready : IsReadyToCall c
  pub owes : c.owes ≡ []

-- It is one of this heap.
pub record IsCallerOf (h : HeapToken) (c : Token) : Type 0 where
  pub table : c.table ≡ h.table
  pub opening : c.opening ≡ h.opening
  pub is_ready : IsReady c

---- How a call begins and ends

-- The call has begun and the caller has entered, and has done nothing else.
pub record HasBegun (old new : Token) (call : Call) : Type 0 where
  pub goes : GoesOn old new (acts.Begin call ∷ acts.Enter ∷ [])
  pub legal : IsLegalWith new.opening new.roll new.seen
  pub serving : IsServing new call []

-- The caller has left, and is ready to call again.
pub record HasGone (old new : Token) : Type 0 where
  pub goes : GoesOn old new (acts.Leave ∷ [])
  pub legal : IsLegalWith new.opening new.roll new.seen
  pub ready : IsReady new

---- How a call is answered

-- The caller's own entries since are one call, which they answer so. The list is legal, and the caller is ready to call again.
pub record Gets (old new : Token) (call : Call) (answer : Answer) : Type 0 where
  pub rest : List Act
  pub answers : Answers old new call answer rest
  pub owes : new.owes ≡ []

-- .. with Busy: the word that the call read names another, of the gate an owner of the heap lock, of a lock its holder
pub record GetsBusy (old new : Token) (call : Call) (b : Busy) : Type 0 where
  pub gets : Gets old new call (WasBusy b)
  pub cause : IsCause old.number b

-- The call is answered so. Busy comes from the gate, or from a lock of which this says that the call may need it.
abbrev pub EndsWith : (What → Type 0) → Token → Token → Call → Answer → Type 0
EndsWith May old new call (Replied reply) = Gets old new call (Replied reply)
EndsWith May old new call (WasBusy b) = GetsBusy old new call b × ((b.what ≡ whats.Gate) ⊎ May b.what)

-- .. as the part of it tells that works inside, and meets no gate
abbrev pub ServesWith : (What → Type 0) → Token → Token → Call → Answer → Type 0
ServesWith May old new call (Replied reply) = Brings old new call (Replied reply)
ServesWith May old new call (WasBusy b) = MeetsBusy old new call b b.what × (b.what ≢ whats.Gate) × May b.what

---- Allocation

abbrev pub alloc_answer : Result ℕ AllocNo → Answer
alloc_answer (Ok addr) = Replied (replies.Address addr)
alloc_answer (Err alloc_nos.NoFit) = Replied replies.NoFit
alloc_answer (Err (alloc_nos.Busy b)) = WasBusy b

-- an allocation of n bytes may need this lock
abbrev pub MayTake : ℕ → What → Type 0
MayTake n whats.Vs = n ≤ 131072
MayTake n whats.Back = n ≤ 520192
MayTake n whats.Large = 520193 ≤ n
MayTake n _ = ⊥
