-- What the parts of an allocation do that the front end serves.
use Rattle.std.specs.Prelude.{◌≡◌, ℕ, ◌≤◌, Bool, true, false, is_some, List, [], ◌∷◌, ◌++◌, Some}
use Rattle.heap_model.specs.declared.Act.{Act}
use Rattle.heap_model.specs.declared.Act.TheVariants as acts
use Rattle.heap_model.specs.declared.Call.{Call}
use Rattle.heap_model.specs.declared.Call.TheVariants as calls
use Rattle.heap_model.specs.declared.Flags.{Flags}
use Rattle.heap_model.specs.Buckets.{block_size, block_address}
use Rattle.heap_model.specs.Shape.{zeroing}
use Rattle.heap_model.specs.State.{Place, hands}
use Rattle.lfh_buckets.specs.Blocks.{IsBucket}
use Rattle.step_parts.specs.InHand.{HasBlock}
use Rattle.heap_gate.specs.Token.{Token, Always, now}
use Rattle.heap_gate.specs.Calls.{IsGuarded}
use Rattle.call_parts.specs.Calls.{GoesOn, IsServing}
use Rattle.call_parts.specs.Entries.{HasEnded}
use Rattle.lfh_search.specs.Acts.{AreReadings}
use Rattle.lfh_search.specs.Results.{place}
use Rattle.lfh_search.specs.Hints.{HasSpentHint}
use Rattle.small_calls.specs.declared.front.ByHint.{ByHint}
use Rattle.small_calls.specs.declared.front.ByHint.TheVariants.{Placed, Spent}

---- A block in hand is given

-- All that the caller has in hand is a block of bucket b of the front end, at this address, and nothing is prepared.
pub record HasOne (c : Token) (b addr : ℕ) : Type 0 where
  pub inside : c.inside ≡ true
  pub whole : c.whole ≡ true
  pub begun : is_some c.call ≡ true
  pub prepared : c.prepared ≡ []
  pub block : Always c (λ s. HasBlock (now s c) c.number b addr)
  pub alone : Always c (λ s. (p : Place) × (hands (now s c).state c.number ≡ p ∷ []))

-- .. with room for n bytes
abbrev pub HasRoomFor : Token → ℕ → ℕ → Type 0
HasRoomFor c n addr = (b : ℕ) × IsBucket b × (n ≤ block_size b) × HasOne c b addr

-- It was zeroed, where that was asked, and is live. What the caller's locks guard is as it was.
pub record IsHandedOver (old new : Token) (addr n : ℕ) (zero : Bool) : Type 0 where
  pub ended : HasEnded old new (zeroing zero addr n ++ acts.Give addr n ∷ []) old.out
  pub guarded : Always new (λ s. IsGuarded old.number (now s old) (now s new))

---- A block is found and given

-- The caller is in this call, at rest, with these locks. It has searched with the draw that it has, or has neither searched nor drawn, and owes no word.
pub record IsResting (c : Token) (call : Call) (out : List ℕ) : Type 0 where
  pub call_is : c.call ≡ Some call
  pub fresh : c.fresh ≡ false
  pub inside : c.inside ≡ true
  pub out_is : c.out ≡ out
  pub whole : c.whole ≡ true
  pub free : c.free ≡ true
  pub pending : c.pending ≡ false
  pub prepared : c.prepared ≡ []
  pub drawn : c.searched ≡ c.drawn
  pub owes : c.owes ≡ []

-- block i of the subsegment of bucket b at a page is placed and given
abbrev pub front_acts : ℕ → ℕ → ℕ → ℕ → Bool → List Act
front_acts b head i n zero = place b head i ∷ (zeroing zero (block_address b head i) n ++ acts.Give (block_address b head i) n ∷ [])

-- A block of bucket b is given at this address, behind readings alone. The locks are as they were, and what they guard.
pub record HasGivenBlock (old new : Token) (call : Call) (b n : ℕ) (zero : Bool) (addr : ℕ) : Type 0 where
  pub head : ℕ
  pub index : ℕ
  pub at : addr ≡ block_address b head index
  pub its : List Act
  pub are : AreReadings its
  pub goes : GoesOn old new (its ++ front_acts b head index n zero)
  pub rests : IsResting new call old.out
  pub guarded : Always new (λ s. IsGuarded old.number (now s old) (now s new))

-- The caller allocates n bytes, to be zeroed or not, has these locks, and has not searched.
pub record IsAsking (c : Token) (n : ℕ) (zero : Bool) (out : List ℕ) : Type 0 where
  pub flags : Flags
  pub zero_is : flags.zero ≡ zero
  pub serving : IsServing c (calls.Alloc n flags) out

-- the search goes on under Back, or a block was given
abbrev pub ServesByHint : Token → Token → Call → ℕ → ℕ → Bool → ByHint → Type 0
ServesByHint old new call b n zero (Placed addr) = HasGivenBlock old new call b n zero addr
ServesByHint old new call b n zero (Spent lost draw) = HasSpentHint (record old { drawn = true }) new b draw.value lost
