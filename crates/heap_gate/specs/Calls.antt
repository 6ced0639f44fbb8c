-- What each call of a caller does.
use Rattle.std.specs.Prelude.{◌≡◌, ◌≢◌, ℕ, ◌+◌, ◌/◌, ◌-◌, ◌<◌, ◌==◌, Bool, true, false, not, ◌||◌, cond, List, [], ◌∷◌, ◌++◌, Option, Some}
use mathlib.Core.List.{IsPrefix}
use Rattle.heap_model.specs.declared.Act.{Act}
use Rattle.heap_model.specs.declared.Act.TheVariants as acts
use Rattle.heap_model.specs.declared.Call.{Call}
use Rattle.heap_model.specs.declared.Call.TheVariants as calls
use Rattle.heap_model.specs.declared.Entry.{Entry}
use Rattle.heap_model.specs.declared.LockNo.{LockNo}
use Rattle.heap_model.specs.declared.LockNo.TheVariants as lock_nos
use Rattle.heap_model.specs.declared.What.{What}
use Rattle.heap_model.specs.declared.What.TheVariants as whats
use Rattle.heap_model.specs.Layers.{LayerState}
use Rattle.heap_model.specs.State.{hands, holds}
use Rattle.heap_model.specs.Ranges.{vs_spans}
use Rattle.heap_model.specs.CallState.{Configuration, Nothing}
use Rattle.heap_model.specs.Legal.{leaves_whole}
use Rattle.heap_model.specs.History.{configuration_after, own}
use Rattle.heap_model.specs.Agreement.{AgreesFor, revealed}
use Rattle.claim_rule.specs.declared.views.Owed.{Owed}
use Rattle.claim_rule.specs.Entries.{IsLegalWith, entry}
use Rattle.claim_rule.specs.Home.{slot_of, Tells}
use Rattle.lock_steps.specs.Locks.{owed_with}
use Rattle.heap_gate.specs.Token.{Token, now, Always, count}

---- A prepared entry

abbrev pub call_with : Option Call → Act → Option Call
call_with p (acts.Begin call) = Some call
call_with p _ = p

abbrev pub is_begun_with : Bool → Act → Bool
is_begun_with p (acts.Begin call) = true
is_begun_with p _ = p

abbrev pub is_unless_begun : Bool → Act → Bool
is_unless_begun p (acts.Begin call) = false
is_unless_begun p _ = p

-- nothing has to follow the act at once: of a Drop this is not known by the act alone
abbrev pub is_whole_with : Act → Bool
is_whole_with (acts.Reserve segment) = false
is_whole_with (acts.Span first pages kind bucket slot) = false
is_whole_with (acts.Drop a) = false
is_whole_with _ = true

-- .. and whether nothing is in hand then
abbrev pub is_free_with : Bool → Act → Bool
is_free_with p (acts.Place start granules layer) = false
is_free_with p (acts.Give a size) = false
is_free_with p (acts.Take a size) = false
is_free_with p (acts.Drop a) = false
is_free_with p (acts.Resize a granules size) = false
is_free_with p _ = p

abbrev pub searches_with : ℕ → Bool → Act → ℕ
searches_with made begun (acts.Begin call) = made + count begun
searches_with made begun _ = made

-- the caller with one prepared entry more
abbrev pub with_prepared : Token → Act → Token
with_prepared c act = record {
  table = c.table;
  opening = c.opening;
  roll = c.roll;
  seen = c.seen;
  number = c.number;
  prepared = c.prepared ++ entry c.number act ∷ [];
  pending = is_begun_with c.pending act;
  call = call_with c.call act;
  fresh = is_begun_with c.fresh act;
  locked = is_unless_begun c.locked act;
  inside = c.inside;
  depth = c.depth;
  out = c.out;
  owes = c.owes;
  whole = is_whole_with act;
  free = is_free_with c.free act;
  searches = searches_with c.searches c.searched act;
  searched = is_unless_begun c.searched act;
  drawn = is_unless_begun c.drawn act;
}

-- nothing is in hand, and nothing has to follow
pub record HasRested (m : Configuration) (n : ℕ) : Type 0 where
  pub hands : hands m.state n ≡ []
  pub demand : m.now.demand ≡ Nothing

abbrev pub rested : Token → Token
rested c = record c { whole = true; free = true }

---- A step: what it adds to the list

-- The caller's list goes on. Its own entries in it are those that it had prepared, and then these.
pub record Does (old new : Token) (es : List Entry) : Type 0 where
  pub table : new.table ≡ old.table
  pub opening : new.opening ≡ old.opening
  pub number : new.number ≡ old.number
  pub roll : IsPrefix old.roll new.roll
  pub seen : IsPrefix old.seen new.seen
  pub own : own old.number new.seen ≡ own old.number old.seen ++ (old.prepared ++ es)
  pub prepared : new.prepared ≡ []
  pub legal : IsLegalWith new.opening new.roll new.seen

-- .. what the caller alone decides moves as if it were alone, and what is in its hand stays
pub record Runs (old new : Token) (es : List Entry) : Type 0 where
  pub does : Does old new es
  pub agrees : Always new (λ s. AgreesFor old.number (now s new) (configuration_after s (now s old) es))
  pub hands : Always new (λ s. hands (now s new).state old.number ≡ hands (now s old).state old.number)

-- a lock shows its holder the heap
pub record Reveals (old new : Token) (es : List Entry) : Type 0 where
  pub does : Does old new es
  pub agrees : Always new (λ s. AgreesFor old.number (now s new) (configuration_after s (revealed (now s new) (now s old)) es))
  pub hands : Always new (λ s. hands (now s new).state old.number ≡ hands (now s old).state old.number)

-- What the locks that n held in m guard is in k as it was.
pub record IsGuarded (n : ℕ) (m k : Configuration) : Type 0 where
  pub vs : holds m.state.gate n whats.Vs ≡ true → k.state.vs ≡ m.state.vs
  pub spans : holds m.state.gate n whats.Vs ≡ true → vs_spans k.state.back.area ≡ vs_spans m.state.back.area
  pub back : holds m.state.gate n whats.Back ≡ true → k.state.back ≡ m.state.back
  pub span_history : holds m.state.gate n whats.Back ≡ true → k.now.span_history ≡ m.now.span_history
  pub large : holds m.state.gate n whats.Large ≡ true → k.state.large ≡ m.state.large

---- .. and where the caller stands behind it

pub record Stance : Type 0 where
  pub call : Option Call
  pub fresh : Bool
  pub locked : Bool
  pub inside : Bool
  pub depth : ℕ
  pub out : List ℕ
  pub owes : List Owed
  pub free : Bool
  pub searches : ℕ
  pub searched : Bool
  pub drawn : Bool

abbrev pub stance : Token → Stance
stance c = record {
  call = c.call;
  fresh = c.fresh;
  locked = c.locked;
  inside = c.inside;
  depth = c.depth;
  out = c.out;
  owes = c.owes;
  free = c.free;
  searches = c.searches;
  searched = c.searched;
  drawn = c.drawn;
}

-- the caller stands so, with nothing prepared and nothing that has to follow
pub record Stands (c : Token) (x : Stance) : Type 0 where
  pub call : c.call ≡ x.call
  pub fresh : c.fresh ≡ x.fresh
  pub locked : c.locked ≡ x.locked
  pub inside : c.inside ≡ x.inside
  pub depth : c.depth ≡ x.depth
  pub out : c.out ≡ x.out
  pub owes : c.owes ≡ x.owes
  pub free : c.free ≡ x.free
  pub searches : c.searches ≡ x.searches
  pub searched : c.searched ≡ x.searched
  pub drawn : c.drawn ≡ x.drawn
  pub whole : c.whole ≡ true
  pub pending : c.pending ≡ false
  pub prepared : c.prepared ≡ []

-- inside the gate, or the owner of the heap lock
abbrev pub IsUnder : Bool → ℕ → Type 0
IsUnder inside depth = (inside || not (depth == 0)) ≡ true

---- The gate

-- the Begin that a call prepares itself, where none is pending
abbrev pub begins : Token → Call → List Entry
begins c call = cond c.pending [] (entry c.number (acts.Begin call) ∷ [])

abbrev pub begun_with : Token → Call → Token
begun_with c call = cond c.pending c (with_prepared c (acts.Begin call))

-- .. and the Begin to give the heap lock back, but within a call that took it
abbrev pub begins_unlock : Bool → Token → List Entry
begins_unlock within c = cond (c.pending || within) [] (entry c.number (acts.Begin calls.Unlock) ∷ [])

abbrev pub begun_unlock : Bool → Token → Token
begun_unlock within c = cond (c.pending || within) c (with_prepared c (acts.Begin calls.Unlock))

-- the gate word names an owner, another than the caller
abbrev pub NamesAnother : ℕ → ℕ → Type 0
NamesAnother word n = (word / 65536 ≢ 0) × (word / 65536 ≢ n + 1)

-- a caller that finds this gate word has entered: the heap lock has no owner, or the caller is it
abbrev pub may_enter_by : ℕ → ℕ → Bool
may_enter_by word n = (word / 65536 == 0) || (word / 65536 == n + 1)

-- the caller has entered; from is where it stands once its call has begun
pub record HasEntered (old new : Token) (from : Stance) (es : List Entry) : Type 0 where
  pub runs : Runs old new es
  pub stands : Stands new (record from { fresh = false; inside = true })

-- the caller found the gate word, which names another owner, and has turned back
pub record HasTurnedBack (old new : Token) (from : Stance) (what : What) (word : ℕ) (es : List Entry) : Type 0 where
  pub gate : what ≡ whats.Gate
  pub names : NamesAnother word old.number
  pub runs : Runs old new es
  pub stands : Stands new (record from { fresh = false })

pub record HasLeft (old new : Token) (es : List Entry) : Type 0 where
  pub runs : Runs old new es
  pub stands : Stands new (record (stance old) { inside = false })

---- The heap lock

-- the caller has taken it, for the first time
pub record HasLocked (old new : Token) (from : Stance) (es : List Entry) : Type 0 where
  pub reveals : Reveals old new es
  pub stands : Stands new (record from { locked = true; depth = 1 })

-- the caller found a gate word that is not 0
pub record HasMissedGate (old new : Token) (from : Stance) (what : What) (word : ℕ) (es : List Entry) : Type 0 where
  pub gate : what ≡ whats.Gate
  pub word_is : word ≢ 0
  pub runs : Runs old new es
  pub stands : Stands new from

-- the caller has given it back
pub record HasUnlocked (old new : Token) (from : Stance) (es : List Entry) : Type 0 where
  pub runs : Runs old new es
  pub stands : Stands new (record from { depth = 0 })

abbrev pub with_depth : Token → ℕ → Token
with_depth c depth = record c { depth = depth }

-- it was taken once more: at depth 0 by a step
pub record IsDeeper (old new : Token) : Type 0 where
  pub first : old.depth ≡ 0 → HasLocked old new (stance (begun_with old calls.Lock)) (begins old calls.Lock ++ entry old.number acts.Lock ∷ [])
  pub again : old.depth ≢ 0 → (old.depth < 65535) × (new ≡ with_depth old (old.depth + 1))

-- .. and why it was not
abbrev pub IsRefusedLock : Token → Token → LockNo → Type 0
IsRefusedLock old new lock_nos.Depth = (old.depth ≡ 65535) × (new ≡ old)
IsRefusedLock old new (lock_nos.Busy b) =
    (old.depth ≡ 0) × HasMissedGate old new (stance (begun_with old calls.Lock)) b.what b.word (begins old calls.Lock ++ entry old.number (acts.Blocked whats.Gate b.word) ∷ [])

-- it was given back once: from depth 1 by a step, which belongs to the call under way where it is within it
pub record IsShallower (within : Bool) (old new : Token) : Type 0 where
  pub owned : old.depth ≢ 0
  pub last : old.depth ≡ 1 → HasUnlocked old new (stance (begun_unlock within old)) (begins_unlock within old ++ entry old.number acts.Unlock ∷ [])
  pub again : old.depth ≢ 1 → new ≡ with_depth old (old.depth - 1)

---- The locks of the layers

-- the caller has taken a lock, and has the state of its slot, which tells what the lock guards; each span of VS has a place
pub record HasTaken {T : Type 0} (tells : T → LayerState) (old new : Token) (what : What) (state : T) : Type 0 where
  pub reveals : Reveals old new (entry old.number (acts.TakeLock what) ∷ [])
  pub stands : Stands new (record (stance old) { out = slot_of what ∷ old.out; owes = owed_with what old.owes })
  pub tells_it : Always new (λ s. Tells what new.opening (now s new).state (tells state))
  pub guarded : Always new (λ s. IsGuarded old.number (now s old) (now s new))
  pub used : what ≡ whats.Vs → Always new (λ s. leaves_whole (now s new).state whats.Vs ≡ true)

-- .. or found that another caller has it
pub record HasMissed (old new : Token) (what found : What) (word : ℕ) : Type 0 where
  pub what_is : found ≡ what
  pub another : (word ≢ 0) × (word ≢ old.number + 1)
  pub runs : Runs old new (entry old.number (acts.Blocked what word) ∷ [])
  pub stands : Stands new (stance old)

-- the caller has given a lock back
pub record HasGiven (old new : Token) (what : What) (es : List Entry) : Type 0 where
  pub runs : Runs old new es
  pub stands : (more : List ℕ) → old.out ≡ slot_of what ∷ more → Stands new (record (stance old) { out = more })
