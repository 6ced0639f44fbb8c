-- The live blocks that the metadata of a heap tells of: descriptors, header words, bitmaps, size words and the table of large blocks, and
-- nothing else.
use Rattle.std.specs.Prelude.{◌≡◌, ℕ, zero, suc, ◌+◌, ◌-◌, ◌*◌, ◌/◌, ◌%◌, ◌==◌, ◌≤◌, Bool, ◌&&◌, not, nat_le, nat_lt, List, [], ◌∷◌, ◌++◌, length, slice_index, map, flat_map, sum_by, Option, Some, if◌then◌else◌, cond}
use Rattle.std.specs.List.{AllByRecursion}
use Rattle.std.specs.Option.{option_map_or}
use Rattle.heap_model.specs.declared.Kind.{Kind}
use Rattle.heap_model.specs.declared.Kind.TheVariants as kinds
use Rattle.heap_model.specs.declared.Layer.TheVariants as layers
use Rattle.heap_model.specs.declared.Block.{Block}
use Rattle.heap_model.specs.declared.Limits.{Limits}
use Rattle.heap_model.specs.declared.Run.{Run}
use Rattle.heap_model.specs.Bits.{has_bit}
use Rattle.heap_model.specs.Buckets.{block_size, block_count, block_address, bucket_pages}
use Rattle.heap_model.specs.Geometry.{page_bytes}
use Rattle.large_blocks.specs.Table.{LargeTable, block_in}
use Rattle.page_ranges.specs.Words.{runs_of}
use Rattle.page_ranges.specs.Ranges.{IsWhole}
use Rattle.page_ranges.specs.Spans.{block_of}
use Rattle.vs_headers.specs.declared.Head.{Head}
use Rattle.vs_headers.specs.Headers.{decoded}
use Rattle.vs_split.specs.Chunks.{Chunks, head_at, word_at}
use Rattle.vs_split.specs.Laws.{AreOfSpan}
use Rattle.table_words.specs.Told.{AreWords, bits_in, size_place}
use Rattle.layout_decode.specs.declared.Image.{Image}

---- The variable-size layer

-- the head that the header word of a granule tells
abbrev pub head_told : Image → ℕ → Option Head
head_told image g = decoded (word_at image.heads g) image.key (16 * g)

-- the block of a place at granule g: it begins behind the header
abbrev pub place_block : ℕ → Head → Block
place_block g h = record { addr = 16 * g + 16; size = 16 * (h.units - 1) - h.unused; layer = layers.Vs }

-- the block of a chunk at granule g, where it is a place
abbrev pub block_if : ℕ → Head → List Block
block_if g h = if h.busy then place_block g h ∷ [] else []

-- the blocks of at most n chunks from granule g up to another, each found by the units of the one before
abbrev pub chunk_blocks : (ℕ → Option Head) → ℕ → ℕ → ℕ → List Block
chunk_blocks told zero g to = []
chunk_blocks told (suc n) g to =
    cond (nat_lt g to) (option_map_or (λ h. block_if g h ++ chunk_blocks told n (g + h.units) to) (told g) []) []

---- The low-fragmentation front end

-- the size word of an address
abbrev pub size_word_of : Image → ℕ → ℕ
size_word_of image addr = slice_index image.words (size_place image.limits addr)

-- the bit of block i of the subsegment that a run is
abbrev pub is_taken_in : Image → Run → ℕ → Bool
is_taken_in image r i = has_bit (bits_in image.limits image.words r.first (i / 64)) (i % 64)

-- block i of the subsegment, where its bit is set and its size word is not 0; this tells the size plus 1
abbrev pub block_at_bit : Image → Run → ℕ → List Block
block_at_bit image r i =
    let addr = block_address r.mark.bucket r.first i in
    let word = size_word_of image addr in
    if is_taken_in image r i && not (word == 0) then record { addr = addr; size = word - 1; layer = layers.Lfh } ∷ [] else []

-- the blocks among so many from block i on
abbrev pub blocks_at_bits : Image → Run → ℕ → ℕ → List Block
blocks_at_bits image r zero i = []
blocks_at_bits image r (suc n) i = block_at_bit image r i ++ blocks_at_bits image r n (suc i)

---- All layers

-- the blocks of a run: one of the back end is a block, one of the variable-size layer has those of its chunks, behind its first 48 bytes,
-- and one of the low-fragmentation front end those of its bits
abbrev pub blocks_of : Image → Run → Kind → List Block
blocks_of image r kinds.Back = block_of page_bytes r ∷ []
blocks_of image r kinds.Vs = chunk_blocks (head_told image) (256 * r.pages) (256 * r.first + 3) (256 * (r.first + r.pages))
blocks_of image r kinds.Lfh = blocks_at_bits image r (block_count r.mark.bucket) 0
blocks_of image r _ = []

-- the blocks of all runs
abbrev pub page_blocks : Image → List Block
page_blocks image = flat_map (λ r. blocks_of image r r.mark.kind) (runs_of image.descs)

-- the blocks of the table of large blocks
abbrev pub table_blocks : LargeTable → List Block
table_blocks t = map block_in t.blocks

-- the blocks that an image tells of, by address: the large area lies behind the pages
abbrev pub decode : Image → List Block
decode image = page_blocks image ++ table_blocks image.large

abbrev pub is_at_or_after : ℕ → Block → Bool
is_at_or_after from b = nat_le from b.addr

-- the bytes that blocks were asked for
abbrev pub total_of : List Block → ℕ
total_of bs = sum_by (λ b. b.size) bs

-- chunks tile the run, if it is one of the variable-size layer
abbrev pub IsRunOfChunks : Chunks → Run → Kind → Type 0
IsRunOfChunks v r kinds.Vs = (hs : List Head) × AreOfSpan v r.first r.pages hs
IsRunOfChunks v r _ = Unit {0}

-- each header word tells its chunk
abbrev pub AreTold : Image → Type 0
AreTold image = (g : ℕ) (h : Head) → head_at image.heads g ≡ Some h → head_told image g ≡ Some h

-- the run is a subsegment of its bucket, in the segments of the heap
pub record IsOfBucket (l : Limits) (r : Run) : Type 0 where
  pub bucket : (1 ≤ r.mark.bucket) × (r.mark.bucket ≤ 128)
  pub pages : r.pages ≡ bucket_pages r.mark.bucket
  pub inside : r.first + r.pages ≤ 256 * l.segments

-- .. if it is one of the low-fragmentation front end
abbrev pub IsRunOfBlocks : Limits → Run → Kind → Type 0
IsRunOfBlocks l r kinds.Lfh = IsOfBucket l r
IsRunOfBlocks l r _ = Unit {0}

-- each block of the run was asked for no more bytes than it has, if the run is one of the low-fragmentation front end
abbrev pub BlocksFit : Image → Run → Kind → Type 0
BlocksFit image r kinds.Lfh = AllByRecursion (λ b. b.size ≤ block_size r.mark.bucket) (blocks_of image r kinds.Lfh)
BlocksFit image r _ = Unit {0}

-- An image can be read: its runs are whole, chunks tile those of the variable-size layer, each header word tells its chunk, those of the
-- low-fragmentation front end are subsegments of their buckets, whose blocks fit, and words, region, descriptors and large blocks are those
-- of a heap with these limits.
pub record IsReadable (image : Image) : Type 0 where
  pub whole : IsWhole image.descs
  pub rows : AllByRecursion (λ r. IsRunOfChunks image.heads r r.mark.kind) (runs_of image.descs)
  pub told : AreTold image
  pub subsegments : AllByRecursion (λ r. IsRunOfBlocks image.limits r r.mark.kind) (runs_of image.descs)
  pub fits : AllByRecursion (λ r. BlocksFit image r r.mark.kind) (runs_of image.descs)
  pub words : AreWords image.limits image.words
  pub segments : image.region.segments ≡ image.limits.segments
  pub pages : length image.descs ≡ 256 * image.limits.segments
  pub large : image.large.limits ≡ image.limits
