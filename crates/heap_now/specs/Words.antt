-- How the calls on a block at an address are answered, and what is done with a word of it.
use Rattle.std.specs.Prelude.{◌≡◌, ℕ, ◌+◌, ◌/◌, ◌<◌, ◌≤◌, [], ◌∷◌, Result, Ok, Err}
use Rattle.heap_model.specs.declared.Act.{Act}
use Rattle.heap_model.specs.declared.Act.TheVariants as acts
use Rattle.heap_model.specs.declared.Call.{Call}
use Rattle.heap_model.specs.declared.FreeNo.{FreeNo}
use Rattle.heap_model.specs.declared.FreeNo.TheVariants as free_nos
use Rattle.heap_model.specs.declared.Reply.TheVariants as replies
use Rattle.heap_model.specs.declared.WordNo.{WordNo}
use Rattle.heap_model.specs.declared.WordNo.TheVariants as word_nos
use Rattle.heap_model.specs.Geometry.{words_of}
use Rattle.heap_model.specs.Shape.{Answer, Replied, WasBusy}
use Rattle.heap_gate.specs.Token.{Token}
use Rattle.call_parts.specs.Calls.{GoesOn, IsInside}

---- Answers

abbrev pub size_answer : Result ℕ FreeNo → Answer
size_answer (Ok n) = Replied (replies.Number n)
size_answer (Err free_nos.NotLive) = Replied replies.NotLive
size_answer (Err (free_nos.Busy b)) = WasBusy b

abbrev pub free_answer : {A : Type 0} → Result A FreeNo → Answer
free_answer (Ok done) = Replied replies.Done
free_answer (Err free_nos.NotLive) = Replied replies.NotLive
free_answer (Err (free_nos.Busy b)) = WasBusy b

abbrev pub get_answer : Result ℕ WordNo → Answer
get_answer (Ok value) = Replied (replies.Number value)
get_answer (Err word_nos.NotLive) = Replied replies.NotLive
get_answer (Err (word_nos.Past words)) = Replied (replies.Past words)
get_answer (Err (word_nos.Busy b)) = WasBusy b

abbrev pub put_answer : {A : Type 0} → Result A WordNo → Answer
put_answer (Ok done) = Replied replies.Done
put_answer (Err word_nos.NotLive) = Replied replies.NotLive
put_answer (Err (word_nos.Past words)) = Replied (replies.Past words)
put_answer (Err (word_nos.Busy b)) = WasBusy b

---- A word of the block

-- The caller's list goes on by this act, and the caller is inside still.
pub record Adds (old new : Token) (act : Act) : Type 0 where
  pub goes : GoesOn old new (act ∷ [])
  pub inside : (call : Call) → IsInside old call → IsInside new call

-- The block has no such word, and nothing was done.
pub record IsPastEnd (old new : Token) (index size words : ℕ) : Type 0 where
  pub nothing : new ≡ old
  pub words_are : words ≡ words_of size
  pub past : words ≤ index

-- a word of the block was loaded
abbrev pub LoadsWord : Token → Token → (addr index size : ℕ) → Result ℕ WordNo → Type 0
LoadsWord old new addr index size (Ok value) = (index < words_of size) × Adds old new (acts.Load (addr / 8 + index) value)
LoadsWord old new addr index size (Err (word_nos.Past words)) = IsPastEnd old new index size words
LoadsWord old new addr index size _ = ⊥

-- .. or stored
abbrev pub StoresWord : {A : Type 0} → Token → Token → (addr index size value : ℕ) → Result A WordNo → Type 0
StoresWord old new addr index size value (Ok done) = (index < words_of size) × Adds old new (acts.Store (addr / 8 + index) value)
StoresWord old new addr index size value (Err (word_nos.Past words)) = IsPastEnd old new index size words
StoresWord old new addr index size value _ = ⊥
