-- The workers of a script as a whole, between two rounds.
use Rattle.std.specs.Prelude.{◌≡◌, ℕ, ◌<◌, ◌≤◌, ◌+◌, ◌%◌, true, All, List, [], length, slice_index_or}
use mathlib.Core.List.{IsPrefix}
use Rattle.heap_model.specs.declared.Entry.{Entry}
use Rattle.heap_model.specs.declared.Limits.{Limits}
use Rattle.heap_model.specs.History.{own}
use Rattle.heap_model.specs.State.{is_among}
use Rattle.claim_rule.specs.declared.views.Assignment.{Assignment}
use Rattle.claim_rule.specs.Entries.{slot_at, stream_at}
use Rattle.script_text.specs.Values.{Answered}
use Rattle.name_values.specs.Table.{Tells}
use Rattle.heap_gate.specs.Roots.{RootToken}
use Rattle.heap_gate.specs.Token.{HeapToken}
use Rattle.thread_commands.specs.Working.{IsFree}
use Rattle.thread_commands.specs.declared.workers.Worker.{Worker}

-- each worker's caller may call, and does not own the heap lock
abbrev pub AreFree : HeapToken → List Worker → Type 0
AreFree h ws = All (λ w. IsFree h w) ws

---- The history that all have seen

-- Worker t has caller t, and knows of all these callers. It has seen this history, in which all that its caller has done stands.
pub record IsAbreast (roll : List Assignment) (history : List Entry) (t : ℕ) (w : Worker) : Type 0 where
  pub number : w.caller.number ≡ t
  pub knows : IsPrefix roll w.caller.roll
  pub seen : IsPrefix history w.caller.seen
  pub own : own t w.caller.seen ≡ own t history

abbrev pub AreAbreast : List Assignment → List Entry → List Worker → Type 0
AreAbreast roll history ws = (t : ℕ) (d : Worker) → t < length ws → IsAbreast roll history t (slice_index_or ws t d)

-- Worker t knows what names stand for behind these rounds, and behind what its own thread was answered in this one.
abbrev pub AreTold : List (List (List Answered)) → List (List Answered) → List Worker → Type 0
AreTold earlier round ws = (t : ℕ) (d : Worker) → t < length ws → Tells (slice_index_or ws t d).names earlier (slice_index_or round t [])

---- The beginning

-- caller t has slot t, over and over again, and stream t
abbrev pub AreInTurn : Limits → List Assignment → Type 0
AreInTurn limits roll = (t : ℕ) → t < length roll → (slot_at roll t ≡ t % limits.slots) × (stream_at roll t ≡ t)

-- The worker has done nothing yet. Its caller, which is number t, knows of itself and of those that were made before it.
pub record IsNew (h : HeapToken) (made : List Assignment) (t : ℕ) (w : Worker) : Type 0 where
  pub free : IsFree h w
  pub number : w.caller.number ≡ t
  pub seen : w.caller.seen ≡ []
  pub roll : IsPrefix w.caller.roll made
  pub many : length w.caller.roll ≡ t + 1
  pub names : Tells w.names [] []

-- The workers are new, and theirs are all callers that the root of a heap has made.
pub record AreMade (h : HeapToken) (r : RootToken) (ws : List Worker) : Type 0 where
  pub table : r.table ≡ h.table
  pub opening : r.opening ≡ h.opening
  pub all : length r.roll ≡ length ws
  pub in_turn : AreInTurn h.opening.limits r.roll
  pub none_joined : r.joined ≡ []
  pub none_seen : r.seen ≡ []
  pub each : (t : ℕ) (d : Worker) → t < length ws → IsNew h r.roll t (slice_index_or ws t d)

---- The end

-- the workers' callers are all that the root of a heap has made
pub record AreOf (h : HeapToken) (r : RootToken) (ws : List Worker) : Type 0 where
  pub table : r.table ≡ h.table
  pub opening : r.opening ≡ h.opening
  pub all : length r.roll ≡ length ws
  pub none_joined : r.joined ≡ []
  pub numbers : (t : ℕ) (d : Worker) → t < length ws → (slice_index_or ws t d).caller.number ≡ t

-- The callers of the workers from number n on have joined, and no others. The root has seen what they had seen, and nothing more of theirs.
pub record HaveJoinedFrom (n : ℕ) (ws : List Worker) (old new : RootToken) : Type 0 where
  pub table : new.table ≡ old.table
  pub opening : new.opening ≡ old.opening
  pub roll : new.roll ≡ old.roll
  pub joined : (t : ℕ) → n ≤ t → t < length ws → is_among t new.joined ≡ true
  pub only : (t : ℕ) → is_among t new.joined ≡ true → (n ≤ t) × (t < length ws)
  pub seen : (t : ℕ) (d : Worker) → n ≤ t → t < length ws → IsPrefix (slice_index_or ws t d).caller.seen new.seen
  pub own : (t : ℕ) (d : Worker) → n ≤ t → t < length ws → own t new.seen ≡ own t (slice_index_or ws t d).caller.seen

abbrev pub HaveJoined : List Worker → RootToken → RootToken → Type 0
HaveJoined ws old new = HaveJoinedFrom 0 ws old new
