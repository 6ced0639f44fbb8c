-- A call on a block of a subsegment that the caller has seen tagged needs no lock.
use Rattle.std.specs.Prelude.{◌≡◌, ℕ, ◌/◌, ◌==◌, Bool, true, false, ◌&&◌, List, [], ◌∷◌, length, drop, if◌then◌else◌}
use Rattle.std.specs.List.{list_all}
use Rattle.heap_model.specs.declared.Act.{Act}
use Rattle.heap_model.specs.declared.Act.TheVariants as acts
use Rattle.heap_model.specs.declared.Busy.{Busy}
use Rattle.heap_model.specs.declared.Entry.{Entry}
use Rattle.heap_model.specs.declared.What.TheVariants as whats
use Rattle.heap_model.specs.Backend.{in_span}
use Rattle.heap_model.specs.Shape.{Answer, WasBusy}
use Rattle.heap_model.specs.State.{Span}
use Rattle.heap_gate.specs.Token.{Token}
use Rattle.call_parts.specs.Calls.{GoesOn}
use Rattle.address_calls.specs.Tagged.{IsTaggedIn, all_leave_span}

-- the act neither takes the lock of a layer nor finds it taken
abbrev pub needs_no_lock : Act → Bool
needs_no_lock (acts.TakeLock what) = false
needs_no_lock (acts.Blocked whats.Gate word) = true
needs_no_lock (acts.Blocked what word) = false
needs_no_lock _ = true

-- None of the caller's own acts since does. If it was answered Busy, that is of the gate.
pub record TakesNoLock (old new : Token) (answer : Answer) : Type 0 where
  pub added : List Act
  pub goes : GoesOn old new added
  pub no_lock : list_all needs_no_lock added ≡ true
  pub busy : (b : Busy) → answer ≡ WasBusy b → b.what ≡ whats.Gate

---- Seen tagged

abbrev pub is_enter : Act → Bool
is_enter acts.Enter = true
is_enter _ = false

-- what comes before the first Enter of n
abbrev pub until_enter : ℕ → List Entry → List Entry
until_enter n [] = []
until_enter n (e ∷ es) = if (e.caller == n && is_enter e.act) then [] else e ∷ until_enter n es

-- what has come since old
abbrev pub since : Token → Token → List Entry
since old new = drop (length old.seen) new.seen

-- At the call's start the caller's list showed a subsegment over the address tagged, and it was not ended before the call's Enter.
pub record IsSeenTagged (old new : Token) (addr : ℕ) : Type 0 where
  pub span : Span
  pub tagged : IsTaggedIn span old.seen
  pub has_page : in_span (addr / 4096) span ≡ true
  pub stays : all_leave_span span.first (until_enter old.number (since old new)) ≡ true
