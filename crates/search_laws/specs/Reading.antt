-- What a search that nobody disturbs reads, and the block that it finds: of the span of its hint first, then of all spans of its bucket and
-- slot in the order of their pages.
use Rattle.std.specs.Prelude.{ℕ, zero, suc, ◌+◌, ◌*◌, ◌/◌, ◌%◌, List, [], ◌∷◌, ◌++◌, Option, None, option_map, is_some, if◌then◌else◌}
use Rattle.std.specs.Option.{option_or}
use Rattle.heap_model.specs.declared.Act.{Act}
use Rattle.heap_model.specs.declared.Act.TheVariants as acts
use Rattle.heap_model.specs.declared.Layer.TheVariants as layers
use Rattle.heap_model.specs.Buckets.{words_in_use, valid_bits, block_size, block_address}
use Rattle.heap_model.specs.Bits.{bits_of, pick}
use Rattle.heap_model.specs.State.{Span, Place, Live}
use Rattle.heap_model.specs.Search.{SearchKey, first_word}

-- the word that is read behind k others of a span
abbrev pub word_behind : SearchKey → ℕ → ℕ
word_behind g k = (first_word g + k) % words_in_use g.bucket

-- the block that it shows free and the draw picks
abbrev pub picked_at : List Place → SearchKey → Span → ℕ → Option ℕ
picked_at ps g x k =
    option_map (λ i. 64 * word_behind g k + i) (pick (bits_of ps x (word_behind g k)) (valid_bits g.bucket (word_behind g k)) (g.draw % 64))

-- the block that at most n words show, from the one behind k others on
abbrev pub block_from : List Place → SearchKey → Span → ℕ → ℕ → Option ℕ
block_from ps g x zero k = None
block_from ps g x (suc n) k = option_or (picked_at ps g x k) (block_from ps g x n (suc k))

-- .. and the entries of reading them, up to the first that shows one
abbrev pub reads_from : List Place → SearchKey → Span → ℕ → ℕ → List Act
reads_from ps g x zero k = []
reads_from ps g x (suc n) k =
    acts.Saw x.first (word_behind g k) (bits_of ps x (word_behind g k)) ∷ (if is_some (picked_at ps g x k) then [] else reads_from ps g x n (suc k))

-- the free block that a reading of the span finds
abbrev pub block_found : List Place → SearchKey → Span → Option ℕ
block_found ps g x = block_from ps g x (words_in_use g.bucket) 0

abbrev pub reads_of : List Place → SearchKey → Span → List Act
reads_of ps g x = reads_from ps g x (words_in_use g.bucket) 0

-- a block of a span
pub record Found : Type 0 where
  pub span : Span
  pub index : ℕ

abbrev pub found_of : Span → ℕ → Found
found_of x i = record { span = x; index = i }

-- the first free block that a pass over spans finds
abbrev pub pass_found : List Place → SearchKey → List Span → Option Found
pass_found ps g [] = None
pass_found ps g (x ∷ xs) = option_or (option_map (found_of x) (block_found ps g x)) (pass_found ps g xs)

-- .. and what it reads, up to the first span that has one
abbrev pub pass_reads : List Place → SearchKey → List Span → List Act
pass_reads ps g [] = []
pass_reads ps g (x ∷ xs) = reads_of ps g x ++ (if is_some (block_found ps g x) then [] else pass_reads ps g xs)

-- the place of a block of n bytes
abbrev pub lfh_block : ℕ → ℕ → Found → Place
lfh_block b n f = record { start = block_address b f.span.first f.index; granules = block_size b / 16; layer = layers.Lfh; status = Live n }
