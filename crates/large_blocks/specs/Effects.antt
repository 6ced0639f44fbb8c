-- What the calls answer and change, in each state that the table stands for.
use Rattle.std.specs.Prelude.{◌≡◌, ℕ, ◌*◌, Bool, nat_le, List, ◌∷◌, filter_map, Option, Some, option_and_then}
use Rattle.std.specs.List.{find}
use Rattle.heap_model.specs.declared.Block.{Block}
use Rattle.heap_model.specs.declared.Opening.{Opening}
use Rattle.heap_model.specs.Geometry.{pages_of}
use Rattle.heap_model.specs.State.{State, Place, live_size, is_live_at, has_address, change_found, remove_found, by_address, block_of}
use Rattle.heap_model.specs.Stay.{lets_stay}
use Rattle.heap_model.specs.Legal.{resize_place}
use Rattle.heap_model.specs.Layers.{StandsForLarge}
use Rattle.large_blocks.specs.Table.{LargeTable, place_of, layer_of}

-- so it is in each state that the table stands for
abbrev pub InEach : LargeTable → (Opening → State → Type 0) → Type 0
InEach t P = (o : Opening) (st : State) → StandsForLarge o st (layer_of t) → P o st

-- the size of the live block at the address
abbrev pub size_at : ℕ → List Place → Option ℕ
size_at addr ps = option_and_then (λ p. live_size p.status) (find (is_live_at addr) ps)

-- the first live block at or after the address
abbrev pub block_from : ℕ → List Place → Option Block
block_from addr ps = find (λ b. nat_le addr b.addr) (filter_map block_of (by_address ps))

-- the answer is whether the definitions let the block at the address stay where it is with n bytes
pub record TellsStay (o : Opening) (st : State) (addr n : ℕ) (answer : Bool) : Type 0 where
  pub place : Place
  pub there : find (has_address addr) st.large ≡ Some place
  pub told : answer ≡ lets_stay o.limits st place n

-- For each state that the old table stands for, the new one stands for those whose large places are what becomes of them.
abbrev pub Becomes : LargeTable → LargeTable → (List Place → List Place) → Type 0
Becomes old new f = (o : Opening) (st later : State) → StandsForLarge o st (layer_of old) → later.large ≡ f st.large → StandsForLarge o later (layer_of new)

-- with a block of n bytes at an address
abbrev pub with_block : List Place → ℕ → ℕ → List Place
with_block ps addr n = place_of (record { addr = addr; size = n }) ∷ ps

-- without the block at an address
abbrev pub without_block : List Place → ℕ → List Place
without_block ps addr = remove_found (has_address addr) ps

-- with n bytes, and the pages that they need, in the block at an address
abbrev pub with_length : List Place → ℕ → ℕ → List Place
with_length ps addr n = change_found (has_address addr) (resize_place (256 * pages_of n) n) ps
