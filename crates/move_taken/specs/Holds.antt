-- A block of the front end that its caller has taken to move it.
use Rattle.std.specs.Prelude.{◌≡◌, ℕ, ◌+◌, ◌*◌, ◌/◌, ◌≤◌, ◌&&◌, nat_le, true, false, is_some, List, [], Some}
use Rattle.heap_model.specs.declared.Call.TheVariants as calls
use Rattle.heap_model.specs.declared.Flags.{Flags}
use Rattle.heap_model.specs.declared.Layer.TheVariants as layers
use Rattle.heap_model.specs.Buckets.{block_size}
use Rattle.heap_model.specs.State.{Place, InHand}
use Rattle.step_parts.specs.InHand.{IsBlockNumber}
use Rattle.heap_gate.specs.Token.{Token, Always, now}
use Rattle.lfh_claims.specs.declared.tag.Tag.{Tag}
use Rattle.lfh_claims.specs.Stays.{HasRead}
use Rattle.move_parts.specs.Moves.{IsTaken}

-- the place of a block of bucket b that begins there, in hand of n
abbrev pub taken_place : ℕ → ℕ → ℕ → Place
taken_place b addr n = record { start = addr; granules = block_size b / 16; layer = layers.Lfh; status = InHand n }

-- All that the caller has in hand is a block of the subsegment that the tag names, within the segments of the heap, which it has taken with this size. It has
-- read the tag since it entered. Entries may be prepared.
pub record HasTakenBlock (c : Token) (tag : Tag) (addr size : ℕ) : Type 0 where
  pub inside : c.inside ≡ true
  pub whole : c.whole ≡ true
  pub begun : is_some c.call ≡ true
  pub hand : Always c (λ s. IsTaken (now s c) c.number addr (taken_place tag.bucket addr c.number))
  pub fits : size ≤ block_size tag.bucket
  pub small : size ≤ 16368
  pub read : HasRead c tag.head tag.bucket tag.slot
  pub number : IsBlockNumber tag.head tag.bucket addr
  pub ends : addr + block_size tag.bucket ≤ 1048576 * c.opening.limits.segments

-- It reallocates that block to n bytes, which would not let it keep its address, and may move it. It is in that call, holds these locks, the last taken first,
-- has nothing prepared, and has not placed. Where it has searched, it is by its draw, and it owes no word.
pub record HoldsTaken (c : Token) (tag : Tag) (addr size n : ℕ) (flags : Flags) (out : List ℕ) : Type 0 where
  pub block : HasTakenBlock c tag addr size
  pub call_is : c.call ≡ Some (calls.Realloc addr n flags)
  pub fresh : c.fresh ≡ false
  pub out_is : c.out ≡ out
  pub pending : c.pending ≡ false
  pub prepared : c.prepared ≡ []
  pub drawn : c.searched ≡ c.drawn
  pub owes : c.owes ≡ []
  pub placed : Always c (λ s. ((now s c).now.calls c.number).placed ≡ false)
  pub may_move : flags.in_place ≡ false
  pub leaves : (nat_le n 16368 && nat_le n (block_size tag.bucket)) ≡ false
