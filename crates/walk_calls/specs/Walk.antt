-- A step of a walk, and how it is answered.
use Rattle.std.specs.Prelude.{◌≡◌, ◌≢◌, ℕ, List, [], Option, Some, None}
use Rattle.heap_model.specs.declared.Act.{Act}
use Rattle.heap_model.specs.declared.Block.{Block}
use Rattle.heap_model.specs.declared.Call.TheVariants as calls
use Rattle.heap_model.specs.declared.Reply.{Reply}
use Rattle.heap_model.specs.declared.Reply.TheVariants as replies
use Rattle.heap_model.specs.State.{Setting, State, live}
use Rattle.heap_model.specs.Shape.{Answer, Replied, next_live}
use Rattle.heap_gate.specs.Token.{Token, Always, now}
use Rattle.call_parts.specs.Calls.{Answers}
use Rattle.layout_decode.specs.declared.Image.{Image}
use Rattle.layout_decode.specs.Decode.{decode}
use Rattle.layout_decode.specs.Shows.{Shows}

-- The words of the table and the states in its slots are an image that shows the heap, and decodes to exactly its live blocks.
pub record IsShown (s : Setting) (st : State) : Type 0 where
  pub image : Image
  pub shows : Shows image s st
  pub blocks : decode image ≡ live st

-- the block, or that there is none: then the caller can say how many there were
abbrev pub walk_reply : Option Block → ℕ → Reply
walk_reply (Some b) count = replies.Seen b
walk_reply None count = replies.Walked count

-- The call is answered so.
pub record IsWalked (old new : Token) (from : ℕ) (answer : Answer) : Type 0 where
  pub rest : List Act
  pub answers : Answers old new (calls.WalkNext from) answer rest
  pub owes : new.owes ≡ []

-- The owner of the heap lock finds the live block of the least address at or after another, or that there is none. It is in no call then,
-- and words and slots show the heap.
pub record Walks (old new : Token) (from : ℕ) (found : Option Block) : Type 0 where
  pub owns : old.depth ≢ 0
  pub answered : (count : ℕ) → IsWalked old new from (Replied (walk_reply found count))
  pub next : Always new (λ s. found ≡ next_live from (now s new).state)
  pub shown : Always new (λ s. IsShown s (now s new).state)
