-- A worked pair of different lists of one call, and a case in which two lists of one call are told apart by later calls.
use Rattle.std.specs.Prelude.{◌≡◌, ℕ, ◌+◌, ◌*◌, ◌^◌, List, [], ◌∷◌, ◌++◌, map}
use Rattle.heap_model.specs.declared.Call.{Call}
use Rattle.heap_model.specs.declared.Call.TheVariants as calls
use Rattle.heap_model.specs.declared.Act.{Act}
use Rattle.heap_model.specs.declared.Act.TheVariants as acts
use Rattle.heap_model.specs.declared.Kind.TheVariants as kinds
use Rattle.heap_model.specs.declared.Layer.TheVariants as layers
use Rattle.heap_model.specs.declared.Limits.{Limits}
use Rattle.heap_model.specs.declared.Reply.{Reply}
use Rattle.heap_model.specs.declared.Reply.TheVariants as replies
use Rattle.heap_model.specs.declared.What.TheVariants as whats
use Rattle.heap_model.specs.Limits.{AreValid}
use Rattle.heap_model.specs.State.{Setting, State}
use Rattle.heap_model.specs.Backend.{numbers}
use Rattle.heap_model.specs.CallState.{Configuration}
use Rattle.heap_model.specs.History.{first_configuration}
use Rattle.heap_model.specs.Alone.{alone, configuration_by}
use Rattle.heap_model.specs.Serial.{IsSerial}
use Rattle.serial_laws.specs.BackCalls.{plain}
use Rattle.one_caller_laws.specs.OneCall.{IsBetween, Answers, IsDetermined}

-- a heap of one caller, one segment and no large pages
abbrev pub one : Setting
one = alone (record { segments = 1; large_pages = 0; slots = 1; callers = 1 }) 1

---- Two lists of one call

-- a block of the back end, as the program makes it ..
abbrev pub straight : List Act
straight =
    acts.Enter ∷ acts.TakeLock whats.Back ∷ acts.Reserve 0 ∷ acts.Span 2 33 kinds.Back 0 0 ∷ acts.Place 8192 8448 layers.Back ∷ acts.Give 8192 131073 ∷ acts.GiveLock whats.Back ∷ acts.Leave ∷ []

-- .. and with other locks, taken, given and taken again
abbrev pub winding : List Act
winding =
    acts.Enter ∷ acts.TakeLock whats.Vs ∷ acts.TakeLock whats.Back ∷ acts.GiveLock whats.Vs ∷ acts.GiveLock whats.Back ∷ acts.TakeLock whats.Large ∷ acts.TakeLock whats.Back
    ∷ acts.Reserve 0 ∷ acts.Span 2 33 kinds.Back 0 0 ∷ acts.Place 8192 8448 layers.Back ∷ acts.GiveLock whats.Large ∷ acts.Give 8192 131073 ∷ acts.GiveLock whats.Back ∷ acts.Leave ∷ []

pub record TwoWays : Type 0 where
  pub straight_on : Answers one first_configuration (calls.Alloc 131073 plain) (replies.Address 8192) straight
  pub winding_on : Answers one first_configuration (calls.Alloc 131073 plain) (replies.Address 8192) winding

---- A hint that tells more than the heap shows

-- a call, its reply, and its acts behind the Begin
pub record Told : Type 0 where
  pub call : Call
  pub reply : Reply
  pub rest : List Act

abbrev pub acts_of_all : List Told → List Act
acts_of_all [] = []
acts_of_all (t ∷ ts) = (acts.Begin t.call ∷ t.rest) ++ acts_of_all ts

-- blocks of 256 bytes at an address: one of the variable-size layer,
abbrev pub allocates : ℕ → List Act → Told
allocates a rest = record { call = calls.Alloc 256 plain; reply = replies.Address a; rest = rest }

abbrev pub in_gap : ℕ → Told
in_gap i = allocates (8256 + 272 * i) (acts.Enter ∷ acts.TakeLock whats.Vs ∷ acts.Place (8240 + 272 * i) 17 layers.Vs ∷ acts.Give (8256 + 272 * i) 256 ∷ acts.GiveLock whats.Vs ∷ acts.Leave ∷ [])

-- .. block i of the span at a page, which shows these bits,
abbrev pub block_at : ℕ → ℕ → ℕ
block_at head i = 4096 * head + 64 + 256 * i

abbrev pub hits : ℕ → ℕ → ℕ → Told
hits head bits i = allocates (block_at head i) (acts.Enter ∷ acts.Saw head 0 bits ∷ acts.Place (block_at head i) 16 layers.Lfh ∷ acts.Give (block_at head i) 256 ∷ acts.Leave ∷ [])

-- .. and these blocks, one after another
abbrev pub fills : ℕ → ℕ → List ℕ → List Told
fills head bits [] = []
fills head bits (i ∷ is) = hits head bits i ∷ fills head (bits + 2 ^ i) is

abbrev pub frees : ℕ → Told
frees a = record { call = calls.Free a; reply = replies.Done; rest = acts.Enter ∷ acts.Take a 256 ∷ acts.Drop a ∷ acts.Leave ∷ [] }

-- Fifteen blocks fill a span at page 19, which is the hint. Behind the first, two blocks of the span before are freed.
abbrev pub second_span : List Told
second_span =
    allocates (block_at 19 0) (acts.Enter ∷ acts.Saw 18 0 32767 ∷ acts.TakeLock whats.Back ∷ acts.Saw 18 0 32767 ∷ acts.Span 19 1 kinds.Lfh 16 0 ∷ acts.Place (block_at 19 0) 16 layers.Lfh
    ∷ acts.Give (block_at 19 0) 256 ∷ acts.GiveLock whats.Back ∷ acts.Leave ∷ [])
    ∷ frees (block_at 18 0) ∷ frees (block_at 18 1) ∷ fills 19 1 (1 ∷ 2 ∷ 3 ∷ 4 ∷ 5 ∷ 6 ∷ 7 ∷ 8 ∷ 9 ∷ 10 ∷ 11 ∷ 12 ∷ 13 ∷ 14 ∷ [])

-- Before, fifteen fill one at page 18: the bucket becomes active, and its blocks are drawn in this order.
abbrev pub drawn_first : List ℕ
drawn_first = 1 ∷ 2 ∷ 10 ∷ 3 ∷ 4 ∷ 5 ∷ 6 ∷ 7 ∷ 8 ∷ 9 ∷ 11 ∷ 12 ∷ 13 ∷ 14 ∷ []

abbrev pub spans_then : List Told
spans_then =
    allocates (block_at 18 0) (acts.Enter ∷ acts.TakeLock whats.Vs ∷ acts.Active 16 ∷ acts.GiveLock whats.Vs ∷ acts.NoHint 16 0 ∷ acts.TakeLock whats.Back ∷ acts.Span 18 1 kinds.Lfh 16 0
    ∷ acts.Place (block_at 18 0) 16 layers.Lfh ∷ acts.Give (block_at 18 0) 256 ∷ acts.GiveLock whats.Back ∷ acts.Leave ∷ [])
    ∷ (fills 18 1 drawn_first ++ second_span)

-- And before that, seventeen in the variable-size layer make the bucket due.
abbrev pub two_spans : List Told
two_spans =
    allocates 8256 (acts.Enter ∷ acts.TakeLock whats.Vs ∷ acts.TakeLock whats.Back ∷ acts.Reserve 0 ∷ acts.Span 2 16 kinds.Vs 0 0 ∷ acts.Place 8240 17 layers.Vs ∷ acts.GiveLock whats.Back ∷ acts.Give 8256 256 ∷ acts.GiveLock whats.Vs ∷ acts.Leave ∷ [])
    ∷ (map in_gap (numbers 1 16) ++ spans_then)

abbrev pub filled : Configuration
filled = configuration_by one first_configuration (acts_of_all two_spans)

-- The hint's span has no free block, and a pass finds one in the other. It is placed while the lock is held, as the program does ..
abbrev pub under_lock : List Act
under_lock =
    acts.Enter ∷ acts.Saw 19 0 32767 ∷ acts.TakeLock whats.Back ∷ acts.Saw 18 0 32764 ∷ acts.Place (block_at 18 0) 16 layers.Lfh ∷ acts.GiveLock whats.Back ∷ acts.Give (block_at 18 0) 256 ∷ acts.Leave ∷ []

-- .. or behind it.
abbrev pub behind_lock : List Act
behind_lock =
    acts.Enter ∷ acts.Saw 19 0 32767 ∷ acts.TakeLock whats.Back ∷ acts.Saw 18 0 32764 ∷ acts.GiveLock whats.Back ∷ acts.Place (block_at 18 0) 16 layers.Lfh ∷ acts.Give (block_at 18 0) 256 ∷ acts.Leave ∷ []

abbrev pub asks_again : Call
asks_again = calls.Alloc 256 plain

-- The reply and the state are the same, and the hint is another one.
pub record TwoHints : Type 0 where
  pub between : IsBetween one filled
  pub under : Answers one filled asks_again (replies.Address (block_at 18 0)) under_lock
  pub behind : Answers one filled asks_again (replies.Address (block_at 18 0)) behind_lock

-- So the next search begins in another span. A block of the second span is freed, and the next allocation is answered differently.
abbrev pub all_under : List Told
all_under = two_spans ++ allocates (block_at 18 0) under_lock ∷ frees (block_at 19 0) ∷ hits 18 32765 1 ∷ []

abbrev pub all_behind : List Told
all_behind = two_spans ++ allocates (block_at 18 0) behind_lock ∷ frees (block_at 19 0) ∷ hits 19 32766 0 ∷ []

abbrev pub asked_in : List Told → List Call
asked_in ts = map (λ t. t.call) ts

abbrev pub replied_in : List Told → List Reply
replied_in ts = map (λ t. t.reply) ts

-- The same calls, in two serial histories, and the last reply is another one.
pub record TwoReplies : Type 0 where
  pub under : (state : State) × IsSerial one.limits one.seed (asked_in all_under) (replied_in all_under) state
  pub behind : (state : State) × IsSerial one.limits one.seed (asked_in all_under) (replied_in all_behind) state

-- An allocation that the front end serves is not determined: the lists leave more open than the heap can forget.
abbrev pub SearchIsNotDetermined : Type 0
SearchIsNotDetermined = IsDetermined asks_again → ⊥

-- Nor is what a list of calls is answered.
abbrev pub SerialIsAFunction : Type 0
SerialIsAFunction = (limits : Limits) (seed : ℕ) (asked : List Call) (answered others : List Reply) (state other : State) → AreValid limits →
    IsSerial limits seed asked answered state → IsSerial limits seed asked others other → (answered ≡ others) × (state ≡ other)

abbrev pub SerialIsNoFunction : Type 0
SerialIsNoFunction = SerialIsAFunction → ⊥
