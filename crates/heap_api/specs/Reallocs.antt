-- A reallocation that is tried until no other caller is in the way.
use Rattle.std.specs.Prelude.{ℕ, Result, Ok, Err, IfOk}
use Rattle.heap_model.specs.declared.Call.TheVariants as calls
use Rattle.heap_model.specs.declared.Flags.{Flags}
use Rattle.heap_model.specs.declared.Reply.{Reply}
use Rattle.heap_model.specs.declared.Reply.TheVariants as replies
use Rattle.heap_gate.specs.Token.{Token}
use Rattle.heap_now.specs.Reallocs.{KeepsWords}
use Rattle.heap_api.specs.AtLast.{GetsAtLast}
use Rattle.heap_api.specs.declared.ReRefused.{ReRefused}
use Rattle.heap_api.specs.declared.ReRefused.TheVariants as re_refusals

abbrev pub realloc_reply : Result ℕ ReRefused → Reply
realloc_reply (Ok addr) = replies.Address addr
realloc_reply (Err re_refusals.NotLive) = replies.NotLive
realloc_reply (Err re_refusals.NoFit) = replies.NoFit
realloc_reply (Err re_refusals.NoRoomInPlace) = replies.NoRoom

-- The last try gave the answer. Where it is an address, the words that both sizes have are those that stood there before that try began.
pub record ReallocatesAtLast (old new : Token) (addr n : ℕ) (flags : Flags) (answer : Result ℕ ReRefused) : Type 0 where
  pub gets : GetsAtLast old new (calls.Realloc addr n flags) (realloc_reply answer)
  pub kept : IfOk answer (λ b. KeepsWords gets.before new addr n b)
