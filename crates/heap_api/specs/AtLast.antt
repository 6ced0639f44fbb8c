-- A call that is tried until no other caller is in the way.
use Rattle.std.specs.Prelude.{◌≡◌, ◌≢◌, ◌⊎◌, ℕ, List, [], ◌∷◌, Result, Ok, Err}
use mathlib.Core.List.{IsPrefix}
use Rattle.heap_model.specs.declared.Busy.{Busy}
use Rattle.heap_model.specs.declared.Call.{Call}
use Rattle.heap_model.specs.declared.Call.TheVariants as calls
use Rattle.heap_model.specs.declared.Limits.{Limits}
use Rattle.heap_model.specs.declared.Reply.{Reply}
use Rattle.heap_model.specs.declared.Reply.TheVariants as replies
use Rattle.heap_model.specs.declared.What.{What}
use Rattle.heap_model.specs.declared.What.TheVariants as whats
use Rattle.heap_model.specs.History.{configuration_of}
use Rattle.heap_model.specs.Moments.{moments}
use Rattle.heap_model.specs.Served.{IsTried}
use Rattle.heap_model.specs.Shape.{Replied, WasBusy}
use Rattle.claim_rule.specs.Entries.{IsLegalWith}
use Rattle.heap_gate.specs.Token.{Token, Always}
use Rattle.call_parts.specs.Calls.{IsCause}
use Rattle.address_calls.specs.Answers.{MayGuard}
use Rattle.heap_now.specs.Calls.{IsReady, Gets, MayTake}
use Rattle.heap_now.specs.Reallocs.{MayTry}
use Rattle.heap_api.specs.declared.WordRefused.{WordRefused}
use Rattle.heap_api.specs.declared.WordRefused.TheVariants as word_refusals

---- One try

-- the call may need this lock
abbrev pub MayNeed : Limits → Call → What → Type 0
MayNeed l (calls.Alloc n flags) what = MayTake n what
MayNeed l (calls.Realloc addr n flags) what = MayTry l addr n what
MayNeed l (calls.Free addr) what = MayGuard l addr what
MayNeed l (calls.Size addr) what = MayGuard l addr what
MayNeed l (calls.Get addr index) what = MayGuard l addr what
MayNeed l (calls.Put addr index value) what = MayGuard l addr what
MayNeed l call what = ⊥

-- What turned caller n back. The heap lock is taken where nobody is inside and nobody owns it: the gate word was not 0. Of any other call, the
-- word that was read names another: of the gate an owner of the heap lock, of a lock that the call may need its holder.
abbrev pub IsInTheWay : Limits → ℕ → Call → Busy → Type 0
IsInTheWay l n calls.Lock b = (b.what ≡ whats.Gate) × (b.word ≢ 0)
IsInTheWay l n calls.Compact b = (b.what ≡ whats.Gate) × (b.word ≢ 0)
IsInTheWay l n call b = IsCause n b × ((b.what ≡ whats.Gate) ⊎ MayNeed l call b.what)

-- The caller made the call, and was turned back.
pub record IsTurnedBack (old new : Token) (call : Call) : Type 0 where
  pub busy : Busy
  pub gets : Gets old new call (WasBusy busy)
  pub why : IsInTheWay old.opening.limits old.number call busy

---- All tries

-- It was turned back time and again, and stood so behind each try.
abbrev pub AreTries : Call → Token → List Token → Token → Type 0
AreTries call old [] new = new ≡ old
AreTries call old (next ∷ rest) new = IsTurnedBack old next call × AreTries call next rest new

-- It tried the call until it was not turned back, and was answered so: its own entries since are those of the tries, and then one call's. The list is legal, and the
-- caller is ready to call again.
pub record GetsAtLast (old new : Token) (call : Call) (reply : Reply) : Type 0 where
  pub tries : List Token
  pub before : Token
  pub turned : AreTries call old tries before
  pub gets : Gets before new call (Replied reply)

---- Replies

abbrev pub alloc_reply : {E : Type 0} → Result ℕ E → Reply
alloc_reply (Ok addr) = replies.Address addr
alloc_reply (Err refusal) = replies.NoFit

abbrev pub free_reply : {A E : Type 0} → Result A E → Reply
free_reply (Ok done) = replies.Done
free_reply (Err refusal) = replies.NotLive

abbrev pub size_reply : {E : Type 0} → Result ℕ E → Reply
size_reply (Ok n) = replies.Number n
size_reply (Err refusal) = replies.NotLive

abbrev pub refused_reply : WordRefused → Reply
refused_reply word_refusals.NotLive = replies.NotLive
refused_reply (word_refusals.Past words) = replies.Past words

abbrev pub get_reply : Result ℕ WordRefused → Reply
get_reply (Ok value) = replies.Number value
get_reply (Err why) = refused_reply why

abbrev pub put_reply : {A : Type 0} → Result A WordRefused → Reply
put_reply (Ok done) = replies.Done
put_reply (Err why) = refused_reply why

---- What the history has of it

-- The caller stands where it stood, and its list goes on.
pub record Follows (old new : Token) : Type 0 where
  pub table : new.table ≡ old.table
  pub opening : new.opening ≡ old.opening
  pub number : new.number ≡ old.number
  pub depth : new.depth ≡ old.depth
  pub roll : IsPrefix old.roll new.roll
  pub seen : IsPrefix old.seen new.seen

-- What has come since has, of the caller, the moments of a call that was tried until it was not busy, and then got this reply.
pub record IsMade (old new : Token) (call : Call) (reply : Reply) : Type 0 where
  pub follows : Follows old new
  pub tried : Always new (λ s. IsTried s old.number call reply (moments s old.number (configuration_of s old.seen) follows.seen.0))
  pub legal : IsLegalWith new.opening new.roll new.seen
  pub ready : IsReady new
