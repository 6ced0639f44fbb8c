-- The chunks of the variable-size layer, as contracts see them, and what a call makes of them.
use Rattle.std.specs.Prelude.{ℕ, ◌+◌, ◌-◌, ◌*◌, ◌/◌, ◌%◌, ◌==◌, false, List, slice_set, Option, Some, None, option_map, if◌then◌else◌}
use Rattle.std.specs.List.{slice_index_or}
use Rattle.std.specs.Option.{option_map_or}
use Rattle.vs_headers.specs.declared.Head.{Head}
use Rattle.vs_headers.specs.Headers.{encoded}

-- for each granule the head of the chunk that starts there, if one does, and the key of the heap
pub record Chunks : Type 0 where
  pub key : ℕ
  pub heads : List (Option Head)

abbrev pub head_at : Chunks → ℕ → Option Head
head_at v g = slice_index_or v.heads g None

-- .. by an address; a granule has 16 bytes
abbrev pub chunk_at : Chunks → ℕ → Option Head
chunk_at v addr = if addr % 16 == 0 then head_at v (addr / 16) else None

-- the header word of a granule
abbrev pub word_at : Chunks → ℕ → ℕ
word_at v g = option_map_or (λ h. encoded h v.key (16 * g)) (head_at v g) 0

abbrev pub with_head : Chunks → ℕ → Option Head → Chunks
with_head v g o = record v { heads = slice_set v.heads g o }

-- a free chunk
abbrev pub gap : ℕ → ℕ → Head
gap units prev = record { units = units; prev = prev; unused = 0; busy = false }

abbrev pub told_prev : ℕ → Head → Head
told_prev units h = record h { prev = units }

-- the chunk that starts here, if one does, has so many granules in front of it
abbrev pub with_prev : Chunks → ℕ → ℕ → Chunks
with_prev v g units = with_head v g (option_map (told_prev units) (head_at v g))

-- the chunk h at g, cut behind its first n granules
abbrev pub split_chunk : Chunks → ℕ → Head → ℕ → Chunks
split_chunk v g h n =
    with_prev (with_head (with_head v g (Some (record h { units = n }))) (g + n) (Some (gap (h.units - n) n))) (g + h.units) (h.units - n)

-- the chunk h at g, and the n granules of the chunk behind it
abbrev pub joined_chunk : Chunks → ℕ → Head → ℕ → Chunks
joined_chunk v g h n =
    with_prev (with_head (with_head v g (Some (record h { units = h.units + n }))) (g + h.units) None) (g + h.units + n) (h.units + n)
