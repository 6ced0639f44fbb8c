-- How a reallocation is answered, and what it keeps of its block.
use Rattle.std.specs.Prelude.{ℕ, Result, Ok, Err}
use mathlib.Core.List.{IsPrefix}
use Rattle.heap_model.specs.declared.ReNo.{ReNo}
use Rattle.heap_model.specs.declared.ReNo.TheVariants as re_nos
use Rattle.heap_model.specs.declared.Reply.TheVariants as replies
use Rattle.heap_model.specs.Contents.{HadSize, KeepsContents}
use Rattle.heap_model.specs.History.{configuration_of}
use Rattle.heap_model.specs.Moments.{moments}
use Rattle.heap_model.specs.Shape.{Answer, Replied, WasBusy}
use Rattle.heap_model.specs.State.{Setting, IsValidSetting}
use Rattle.claim_rule.specs.Entries.{IsSettingOf}
use Rattle.heap_gate.specs.Token.{Token}
-- which locks a reallocation may find busy: for the crates above
pub use Rattle.move_calls.specs.Moves.{MayTry}

abbrev pub realloc_answer : Result ℕ ReNo → Answer
realloc_answer (Ok addr) = Replied (replies.Address addr)
realloc_answer (Err re_nos.NotLive) = Replied replies.NotLive
realloc_answer (Err re_nos.NoFit) = Replied replies.NoFit
realloc_answer (Err re_nos.NoRoomInPlace) = Replied replies.NoRoom
realloc_answer (Err (re_nos.Busy b)) = WasBusy b

-- In each setting that a heap has: the words of the block at addr, as many as it had and n bytes have, are those of the block at b once that is given: those
-- that stood there before the first entry of the call, unless another caller has stored to either word in between.
pub record KeepsWords (old new : Token) (addr n b : ℕ) : Type 0 where
  pub seen : IsPrefix old.seen new.seen
  pub keeps : (s : Setting) → IsSettingOf new.opening new.roll s → IsValidSetting s →
      (size : ℕ) × HadSize old.number addr size (moments s old.number (configuration_of s old.seen) seen.0)
      × KeepsContents s old.number (configuration_of s old.seen) addr size b n seen.0
