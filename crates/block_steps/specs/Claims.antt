-- Blocks of the front end: what a caller owes before it reads a bitmap word, claims a bit or gives one back, and what the step tells it.
use Rattle.std.specs.Prelude.{◌≡◌, ℕ, ◌/◌, ◌%◌, Bool, true, false, List, Option}
use Rattle.atomic_table.specs.Table.{Step, Me}
use Rattle.heap_model.specs.declared.Act.TheVariants as acts
use Rattle.heap_model.specs.declared.Entry.{Entry}
use Rattle.heap_model.specs.declared.Layer.TheVariants as layers
use Rattle.heap_model.specs.Bits.{has_bit}
use Rattle.heap_model.specs.Buckets.{block_size, block_address}
use Rattle.heap_model.specs.State.{Setting}
use Rattle.claim_rule.specs.declared.views.View.{View}
use Rattle.heap_model.specs.History.{configuration_of}
use Rattle.claim_rule.specs.Entries.{IsSettingOf}
use Rattle.claim_rule.specs.Plays.{Adds, number_of}
use Rattle.step_parts.specs.InHand.{HasBlock}
use Rattle.step_parts.specs.Claims.{owed_by_place}

module _ {T : Type 0} (es : List Entry) (head b t i : ℕ) (back : Bool) (hint : ℕ) (st : Step (Option T)) (m : Me (Option T) View) (r : ℕ) (m' : Me (Option T) View) where
  -- the word that was found has not the bit: the block is in hand of the caller
  pub record HasClaimed : Type 0 where
    pub adds : Adds es (acts.Place (block_address b head i) (block_size b / 16) layers.Lfh) m m'
    pub slot : m'.1 ≡ m.1
    pub owes : m'.0.owes ≡ owed_by_place back b t hint m.0.owes
    pub tells : (s : Setting) → IsSettingOf m'.0.opening m'.0.roll s → HasBlock (configuration_of s m'.0.seen) (number_of m.0.role) b (block_address b head i)

  -- it has: another had the block
  pub record HasLost : Type 0 where
    pub adds : Adds es (acts.Lost head i) m m'
    pub slot : m'.1 ≡ m.1
    pub owes : m'.0.owes ≡ m.0.owes

  -- what the bit that was found tells
  pub record claimed : Type 0 where
    pub free : has_bit r (i % 64) ≡ false → HasClaimed
    pub taken : has_bit r (i % 64) ≡ true → HasLost
