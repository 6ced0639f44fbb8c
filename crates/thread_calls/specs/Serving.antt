-- What a caller does for a call that its thread asks, whether it takes a step or is answered by the depth.
use Rattle.std.specs.Prelude.{◌≡◌, ◌≢◌, ℕ, ◌+◌, ◌-◌, ◌≤◌, Bool, true, false, List, [], ◌∷◌, MatchBool}
use mathlib.Core.List.{IsPrefix}
use Rattle.heap_model.specs.declared.Call.{Call}
use Rattle.heap_model.specs.declared.Call.TheVariants as calls
use Rattle.heap_model.specs.declared.Reply.{Reply}
use Rattle.heap_model.specs.declared.Reply.TheVariants as replies
use Rattle.heap_model.specs.History.{configuration_of}
use Rattle.heap_model.specs.Moments.{moments}
use Rattle.heap_model.specs.Served.{IsTried, IsServed, by_depth, depth_after}
use Rattle.claim_rule.specs.Entries.{IsLegalWith}
use Rattle.heap_gate.specs.Token.{Token, Always}
use Rattle.heap_now.specs.Calls.{IsReady}

-- a call that a command makes as one call of the heap, or none
abbrev pub IsServable : Call → Type 0
IsServable (calls.WalkNext from) = ⊥
IsServable calls.Stay = ⊥
IsServable call = Unit {0}

-- the reply is the last one that a command gets: no block that a walk has seen, behind which it goes on
abbrev pub is_last : Reply → Bool
is_last (replies.Seen block) = false
is_last _ = true

-- these are all replies that a command gets: the last one comes once, behind all others
abbrev pub EndsOnce : List Reply → Type 0
EndsOnce [] = ⊥
EndsOnce (r ∷ rs) = MatchBool (is_last r) (rs ≡ []) (EndsOnce rs)

-- How often a caller has the heap lock behind a call: a lock takes it once more at most, and an unlock gives it back once, if the caller has it.
abbrev pub IsDepthBehind : Call → (old new : ℕ) → Type 0
IsDepthBehind calls.Lock old new = new ≤ old + 1
IsDepthBehind calls.Unlock old new = new ≡ old - 1
IsDepthBehind call old new = new ≡ old

-- The caller's list goes on, and the caller is ready to call again. How often it has the heap lock is not said.
pub record Goes (old new : Token) : Type 0 where
  pub table : new.table ≡ old.table
  pub opening : new.opening ≡ old.opening
  pub number : new.number ≡ old.number
  pub roll : IsPrefix old.roll new.roll
  pub seen : IsPrefix old.seen new.seen
  pub ready : IsReady new

-- The call got these replies by what the caller has done since: it tried until no other caller was in the way, or took no step where the depth
-- answers it. The depth is what the replies leave.
pub record Serves (old new : Token) (call : Call) (its : List Reply) : Type 0 where
  pub goes : Goes old new
  pub depth : new.depth ≡ depth_after old.depth call its
  pub served : Always new (λ s. IsServed (λ asked reply xs. IsTried s old.number asked reply xs) (by_depth old.depth call) call its (moments s old.number (configuration_of s old.seen) goes.seen.0))

-- A walk got these replies: a block for each call but the last one, which found none, or one refusal, where the caller
-- has not the heap lock and stays as it was. The list behind the calls is legal.
pub record HasWalked (old new : Token) (its : List Reply) : Type 0 where
  pub serves : Serves old new (calls.WalkNext 0) its
  pub ends : EndsOnce its
  pub still : old.depth ≡ 0 → new ≡ old
  pub legal : old.depth ≢ 0 → IsLegalWith new.opening new.roll new.seen
