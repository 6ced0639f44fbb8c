-- The table of large blocks, and the part of the heap that it stands for.
use Rattle.std.specs.Prelude.{ℕ, ◌*◌, ◌==◌, Bool, nat_le, List, [], ◌∷◌, map, if◌then◌else◌, nat_lt}
use Rattle.heap_model.specs.declared.Block.{Block}
use Rattle.heap_model.specs.declared.Layer.TheVariants as layers
use Rattle.heap_model.specs.declared.Limits.{Limits}
use Rattle.heap_model.specs.declared.What.TheVariants as whats
use Rattle.heap_model.specs.Geometry.{pages_of}
use Rattle.heap_model.specs.State.{Place, Live, opening}
use Rattle.heap_model.specs.Layers.{LayerState}
use Rattle.large_blocks.specs.declared.LargeBlock.{LargeBlock}

pub record LargeTable : Type 0 where
  pub limits : Limits
  pub blocks : List LargeBlock  -- by address

-- the place of a block: whole pages, as many as its bytes need
abbrev pub place_of : LargeBlock → Place
place_of b = record { start = b.addr; granules = 256 * pages_of b.size; layer = layers.Large; status = Live b.size }

abbrev pub places_of : LargeTable → List Place
places_of t = map place_of t.blocks

-- the row of the table as callers see the block
abbrev pub block_in : LargeBlock → Block
block_in b = record { addr = b.addr; size = b.size; layer = layers.Large }

-- what the lock of the large area guards
abbrev pub layer_of : LargeTable → LayerState
layer_of t = record { lock = whats.Large; limits = t.limits; key = 0; back = opening.back; vs = opening.vs; vs_spans = []; large = places_of t }

abbrev pub is_at : ℕ → LargeBlock → Bool
is_at addr b = b.addr == addr

abbrev pub is_from : ℕ → LargeBlock → Bool
is_from addr b = nat_le addr b.addr

abbrev pub insert_block : LargeBlock → List LargeBlock → List LargeBlock
insert_block b [] = b ∷ []
insert_block b (c ∷ cs) = if nat_lt b.addr c.addr then b ∷ c ∷ cs else c ∷ insert_block b cs

abbrev pub with_blocks : LargeTable → List LargeBlock → LargeTable
with_blocks t bs = record { limits = t.limits; blocks = bs }

abbrev pub with_bytes : ℕ → LargeBlock → LargeBlock
with_bytes n b = record { addr = b.addr; size = n }
