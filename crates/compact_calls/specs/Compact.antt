-- A compaction: what it has done, and how it ends.
use Rattle.std.specs.Prelude.{◌≡◌, ◌≢◌, ℕ, List, [], ◌∷◌, ◌++◌, length}
use mathlib.Core.List.{IsPrefix}
use Rattle.heap_model.specs.declared.Act.{Act}
use Rattle.heap_model.specs.declared.Act.TheVariants as acts
use Rattle.heap_model.specs.declared.Busy.{Busy}
use Rattle.heap_model.specs.declared.Call.TheVariants as calls
use Rattle.heap_model.specs.declared.Reply.TheVariants as replies
use Rattle.heap_model.specs.declared.What.TheVariants as whats
use Rattle.heap_model.specs.Shape.{Answer, Replied, WasBusy, IsCompact}
use Rattle.claim_rule.specs.Entries.{entry}
use Rattle.claim_rule.specs.Places.{back_slot}
use Rattle.backend_fit.specs.Kept.{Kept}
use Rattle.lfh_spans.specs.Subsegments.{IsBackOf}
use Rattle.heap_gate.specs.Token.{Token, Always, IsStanding, now}
use Rattle.heap_gate.specs.Calls.{Does, with_depth}
use Rattle.call_parts.specs.Calls.{IsReadyToCall, GoesOn, Answers}
use Rattle.compact_calls.specs.Owner.{Did}
use Rattle.compact_calls.specs.Empties.{unspans}
use Rattle.compact_calls.specs.Pages.{decommits}

-- under the lock of the back end, which is taken first, spans go, and then pages are decommitted
abbrev pub cleaning : List ℕ → List ℕ → List Act
cleaning heads pages = acts.TakeLock whats.Back ∷ (unspans heads ++ decommits pages)

-- The heap is compact, and the caller has the state of the back end still.
pub record HasCleaned (old new : Token) (back : Kept) (number : ℕ) : Type 0 where
  pub heads : List ℕ
  pub pages : List ℕ
  pub did : Did old new calls.Compact (cleaning heads pages) (back_slot ∷ [])
  pub count : number ≡ length pages
  pub back_is : IsBackOf new back
  pub compact : Always new (λ s. IsCompact (now s new).state)

-- The caller has done a last act, and before it the heap was compact.
pub record Ends (old new : Token) (last : Act) : Type 0 where
  pub before : Token
  pub number : before.number ≡ old.number
  pub seen : IsPrefix old.seen before.seen
  pub standing : IsStanding before
  pub owns : before.depth ≢ 0
  pub prepared : before.prepared ≡ []
  pub compact : Always before (λ s. IsCompact (now s before).state)
  pub does : Does before new (entry before.number last ∷ [])

-- It has compacted, and has given back the heap lock that it took for this.
pub record HasFinished (old new : Token) (number : ℕ) : Type 0 where
  pub heads : List ℕ
  pub pages : List ℕ
  pub count : number ≡ length pages
  pub goes : GoesOn old (with_depth new old.depth) ((cleaning heads pages ++ acts.GiveLock whats.Back ∷ []) ++ acts.Unlock ∷ [])
  pub ends : Ends old new acts.Unlock
  pub ready : IsReadyToCall new
  pub depth : new.depth ≡ 0
  pub owes : new.owes ≡ []

-- The call is answered so.
pub record IsCompacted (old new : Token) (answer : Answer) : Type 0 where
  pub rest : List Act
  pub answers : Answers old new calls.Compact answer rest
  pub owes : new.owes ≡ []

-- by the number of pages that were decommitted, or with Busy, since the gate word was not 0
abbrev pub HasNumber : Token → Token → ℕ → Type 0
HasNumber old new number = IsCompacted old new (Replied (replies.Compacted number))

pub record IsRefused (old new : Token) (b : Busy) : Type 0 where
  pub outside : old.depth ≡ 0
  pub what : b.what ≡ whats.Gate
  pub word : b.word ≢ 0
  pub answered : IsCompacted old new (WasBusy b)
