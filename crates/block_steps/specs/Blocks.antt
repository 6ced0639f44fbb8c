-- A block in hand, and its size word: what a caller owes before it gives the bit back, makes the block live, takes it or asks its size, and what the
-- step tells it.
use Rattle.std.specs.Prelude.{◌/◌, ◌%◌, ◌≡◌, ℕ, ◌-◌, ◌<◌, true, is_some, List, Option}
use Rattle.atomic_table.specs.Table.{Step, Me}
use Rattle.heap_model.specs.declared.Act.TheVariants as acts
use Rattle.heap_model.specs.declared.Entry.{Entry}
use Rattle.heap_model.specs.Buckets.{block_address, block_count}
use Rattle.heap_model.specs.State.{Setting, is_entered}
use Rattle.heap_model.specs.CallState.{Configuration}
use Rattle.heap_model.specs.Legal.{may}
use Rattle.claim_rule.specs.declared.views.View.{View}
use Rattle.claim_rule.specs.Plays.{Adds, number_of}
use Rattle.claim_rule.specs.Entries.{IsSettingOf}
use Rattle.heap_model.specs.History.{configuration_of}
use Rattle.step_parts.specs.Seen.{IsSeen}
use Rattle.step_parts.specs.InHand.{IsInHand, HasBlock, IsBlockNumber}
use Rattle.heap_model.specs.Backend.{in_span}

-- it is inside, and block i of a subsegment that it has seen is in its hand
pub record MayClear (s : Setting) (m : Configuration) (n head b t i : ℕ) : Type 0 where
  pub inside : is_entered m.state.gate n ≡ true
  pub hand : IsInHand m n (block_address b head i)
  pub seen : IsSeen m head b t
  pub below : i < block_count b
  pub ok : may s m n (acts.Drop (block_address b head i)) ≡ true

-- the block is in its hand, and the size fits
pub record MayPublish (s : Setting) (m : Configuration) (n addr size : ℕ) : Type 0 where
  pub hand : IsInHand m n addr
  pub ok : may s m n (acts.Give addr size) ≡ true

-- It is inside, and the address is a multiple of 16 in a subsegment that it has seen in this stay. Whether a block begins there the size word tells: no other
-- layer has a block in a subsegment.
pub record MayAsk (m : Configuration) (n head b t addr : ℕ) : Type 0 where
  pub begun : is_some (m.now.calls n).call ≡ true
  pub inside : is_entered m.state.gate n ≡ true
  pub seen : IsSeen m head b t
  pub has_page : in_span (addr / 4096) seen.span ≡ true
  pub aligned : addr % 16 ≡ 0

module _ {T : Type 0} (es : List Entry) (addr : ℕ) (st : Step (Option T)) (m : Me (Option T) View) (r : ℕ) (m' : Me (Option T) View) where
  -- the block is in nobody's hand, and its bit is 0
  pub record cleared : Type 0 where
    pub adds : Adds es (acts.Drop addr) m m'
    pub slot : m'.1 ≡ m.1
    pub owes : m'.0.owes ≡ m.0.owes

  -- the word that was found is 0: no live block is there
  pub record HasNone : Type 0 where
    pub adds : Adds es (acts.NotLive addr) m m'
    pub slot : m'.1 ≡ m.1
    pub owes : m'.0.owes ≡ m.0.owes

  -- it is 1 more than the size of the block
  pub record HasSize : Type 0 where
    pub adds : Adds es (acts.Sized addr (r - 1)) m m'
    pub slot : m'.1 ≡ m.1
    pub owes : m'.0.owes ≡ m.0.owes

  -- what the word that was found tells of the address
  pub record sized : Type 0 where
    pub live : (r ≡ 0 → ⊥) → HasSize
    pub none : r ≡ 0 → HasNone

module _ {T : Type 0} (es : List Entry) (addr size : ℕ) (st : Step (Option T)) (m : Me (Option T) View) (r : ℕ) (m' : Me (Option T) View) where
  -- the block is live
  pub record published : Type 0 where
    pub adds : Adds es (acts.Give addr size) m m'
    pub slot : m'.1 ≡ m.1
    pub owes : m'.0.owes ≡ m.0.owes

module _ {T : Type 0} (es : List Entry) (head b addr : ℕ) (st : Step (Option T)) (m : Me (Option T) View) (r : ℕ) (m' : Me (Option T) View) where
  -- the word that was found is 1 more than the size: the block, of this bucket, is in hand
  pub record HasTakenBlock : Type 0 where
    pub adds : Adds es (acts.Take addr (r - 1)) m m'
    pub slot : m'.1 ≡ m.1
    pub owes : m'.0.owes ≡ m.0.owes
    pub number : IsBlockNumber head b addr
    pub tells : (s : Setting) → IsSettingOf m'.0.opening m'.0.roll s → HasBlock (configuration_of s m'.0.seen) (number_of m.0.role) b addr

  -- what the word that was found tells of the block
  pub record taken_block : Type 0 where
    pub live : (r ≡ 0 → ⊥) → HasTakenBlock
    pub none : r ≡ 0 → HasNone es addr st m r m'
