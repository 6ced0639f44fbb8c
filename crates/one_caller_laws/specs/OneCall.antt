-- One call of one caller: what it is answered, and what it leaves, is a function of what it found.
use Rattle.std.specs.Prelude.{◌≡◌, ℕ, true, false, List, ◌∷◌}
use Rattle.heap_model.specs.declared.Call.{Call}
use Rattle.heap_model.specs.declared.Call.TheVariants as calls
use Rattle.heap_model.specs.declared.Flags.{Flags}
use Rattle.heap_model.specs.declared.Act.{Act}
use Rattle.heap_model.specs.declared.Act.TheVariants as acts
use Rattle.heap_model.specs.declared.Reply.{Reply}
use Rattle.heap_model.specs.declared.Reply.TheVariants as replies
use Rattle.heap_model.specs.Buckets.{bucket_of}
use Rattle.heap_model.specs.State.{Setting, IsValidSetting}
use Rattle.heap_model.specs.Stay.{for_some}
use Rattle.heap_model.specs.CallState.{Configuration}
use Rattle.heap_model.specs.Search.{hint}
use Rattle.heap_model.specs.Legal.{goes_to_lfh}
use Rattle.heap_model.specs.History.{first_configuration}
use Rattle.heap_model.specs.Alone.{configuration_by, may_all_come}
use Rattle.heap_model.specs.Moments.{moments_by}
use Rattle.heap_model.specs.Served.{GetsReply}
use Rattle.heap_model.specs.Serial.{IsIdle}
use Rattle.serial_laws.specs.OneCall.{searches_of}

-- Acts of caller 0 alone lead from the opening to this configuration, in which it is in no call.
pub record IsBetween (s : Setting) (m : Configuration) : Type 0 where
  pub acts : List Act
  pub legal : may_all_come s first_configuration acts ≡ true
  pub leads : m ≡ configuration_by s first_configuration acts
  pub idle : IsIdle m

-- All that a later call can see of two configurations is the same: the state, how many calls have searched, and the span that each search
-- begins with. What is remembered beside may differ: whether that span is so because a block was placed in it under the lock of the back end,
-- or because it is the lowest.
pub record AreAlike (m n : Configuration) : Type 0 where
  pub state : m.state ≡ n.state
  pub searches : searches_of m ≡ searches_of n
  pub hints : (b t : ℕ) → hint m.state.back.area m.now.span_history b t ≡ hint n.state.back.area n.now.span_history b t

-- These acts behind the Begin of the call may come, get this reply, and leave the caller in no call.
pub record Answers (s : Setting) (m : Configuration) (call : Call) (reply : Reply) (rest : List Act) : Type 0 where
  pub legal : may_all_come s m (acts.Begin call ∷ rest) ≡ true
  pub gets : GetsReply s 0 call reply (moments_by s m (acts.Begin call ∷ rest))
  pub idle : IsIdle (configuration_by s m (acts.Begin call ∷ rest))

-- One reply. The number that ends a walk counts the calls before, so one call alone does not tell it.
abbrev pub IsSameReply : Reply → Reply → Type 0
IsSameReply (replies.Walked n) (replies.Walked count) = Unit {0}
IsSameReply reply other = reply ≡ other

-- However a call comes about, from configurations that are alike, its reply is the same, and it leaves them alike.
abbrev pub IsDetermined : Call → Type 0
IsDetermined call = (s : Setting) (m n : Configuration) (reply other : Reply) (rest others : List Act) →
    IsValidSetting s → IsBetween s m → IsBetween s n → AreAlike m n → Answers s m call reply rest → Answers s n call other others →
    IsSameReply reply other × AreAlike (configuration_by s m (acts.Begin call ∷ rest)) (configuration_by s n (acts.Begin call ∷ others))

-- The front end has no part in a block of so many bytes: its size has no bucket, or one that is neither active nor due.
abbrev pub IsForOthers : Configuration → ℕ → Type 0
IsForOthers m n = for_some (bucket_of n) (goes_to_lfh m.state.vs) ≡ false

-- Of an allocation in which the front end has no part it is so, whichever layer serves or refuses it.
abbrev pub AllocationIsDetermined : Type 0
AllocationIsDetermined = (s : Setting) (m k : Configuration) (reply other : Reply) (rest others : List Act) (n : ℕ) (flags : Flags) →
    IsValidSetting s → IsBetween s m → IsBetween s k → AreAlike m k → IsForOthers m n →
    Answers s m (calls.Alloc n flags) reply rest → Answers s k (calls.Alloc n flags) other others →
    IsSameReply reply other × AreAlike (configuration_by s m (acts.Begin (calls.Alloc n flags) ∷ rest)) (configuration_by s k (acts.Begin (calls.Alloc n flags) ∷ others))
