-- What the owner of the heap lock reads, told of any image whose words and chunks are those that it reads.
use Rattle.std.specs.Prelude.{◌≡◌, ◌≢◌, ℕ, ◌+◌, ◌*◌, ◌/◌, ◌%◌, true, false, List, [], length}
use Rattle.std.specs.List.{AllByRecursion}
use Rattle.heap_model.specs.declared.Block.{Block}
use Rattle.heap_model.specs.declared.Limits.{Limits}
use Rattle.heap_model.specs.declared.Run.{Run}
use Rattle.heap_model.specs.State.{State}
use Rattle.heap_model.specs.CallState.{Configuration}
use Rattle.page_ranges.specs.Words.{runs_of}
use Rattle.page_ranges.specs.Ranges.{IsWhole}
use Rattle.vs_split.specs.Chunks.{Chunks, head_at}
use Rattle.claim_rule.specs.Places.{bitmaps_region, sizes_region}
use Rattle.claim_rule.specs.Shown.{AreShown, lfh_spans, bitmap_word, size_word}
use Rattle.backend_fit.specs.Kept.{Kept}
use Rattle.large_blocks.specs.Table.{LargeTable}
use Rattle.vs_layer.specs.Kept.{VsKept}
use Rattle.heap_gate.specs.Token.{Token, Always, now}
use Rattle.heap_gate.specs.Calls.{Stands, stance}
use Rattle.call_parts.specs.Calls.{GoesOn}
use Rattle.layout_decode.specs.declared.Image.{Image}
use Rattle.layout_decode.specs.Decode.{chunk_blocks, IsRunOfChunks, IsRunOfBlocks, IsReadable, AreTold}

---- The owner

-- The caller owns the heap lock, and has nothing prepared.
pub record IsOwner (c : Token) : Type 0 where
  pub owns : c.depth ≢ 0
  pub whole : c.whole ≡ true
  pub pending : c.pending ≡ false
  pub prepared : c.prepared ≡ []

-- Two configurations have the same spans and places.
pub record SameParts (m n : Configuration) : Type 0 where
  pub back : m.state.back ≡ n.state.back
  pub vs : m.state.vs ≡ n.state.vs
  pub lfh : m.state.lfh ≡ n.state.lfh
  pub large : m.state.large ≡ n.state.large

-- It has added nothing and stands as it did, and the heap is as before.
pub record Looks (old new : Token) : Type 0 where
  pub goes : GoesOn old new []
  pub stands : Stands new (stance old)
  pub heap : Always new (λ s. SameParts (now s new) (now s old))

---- Images

-- The bitmaps and the size words of the image are those of the state.
pub record ShowsBlocks (image : Image) (l : Limits) (st : State) : Type 0 where
  pub limits : image.limits ≡ l
  pub bitmaps : AreShown image.words (bitmaps_region l) (λ k. bitmap_word st.lfh (lfh_spans st.back.area) (k / 4) (k % 4))
  pub sizes : AreShown image.words (sizes_region l) (size_word st.lfh)

-- .. and it has these descriptors and these chunks, and can be read.
pub record IsImageOf (image : Image) (l : Limits) (descs : List ℕ) (v : Chunks) (st : State) : Type 0 where
  pub blocks : ShowsBlocks image l st
  pub descs_are : image.descs ≡ descs
  pub heads_are : image.heads ≡ v
  pub readable : IsReadable image

-- So these can be read.
pub record CanBeRead (l : Limits) (descs : List ℕ) (v : Chunks) : Type 0 where
  pub whole : IsWhole descs
  pub chunks : AllByRecursion (λ r. IsRunOfChunks v r r.mark.kind) (runs_of descs)
  pub subsegments : AllByRecursion (λ r. IsRunOfBlocks l r r.mark.kind) (runs_of descs)
  pub pages : length descs ≡ 256 * l.segments

-- the blocks of the chunks of a run of the variable-size layer
abbrev pub chunks_in : Chunks → Run → List Block
chunks_in v r = chunk_blocks (head_at v) (256 * r.pages) (256 * r.first + 3) (256 * (r.first + r.pages))

---- What is told

-- .. of each image that shows the bitmaps and the size words of the state that the owner had
abbrev pub TellsFront : Token → Token → (Image → Type 0) → Type 0
TellsFront old new P = Always new (λ s. (image : Image) → ShowsBlocks image old.opening.limits (now s old).state → P image)

-- .. and has these chunks, each told by its header word
abbrev pub TellsRun : Chunks → Token → Token → (Image → Type 0) → Type 0
TellsRun v old new P = TellsFront old new (λ image. image.heads ≡ v → AreTold image → P image)

-- .. of each image of that state with these descriptors and chunks
abbrev pub TellsPages : List ℕ → Chunks → Token → Token → (Image → Type 0) → Type 0
TellsPages descs v old new P = Always new (λ s. (image : Image) → IsImageOf image old.opening.limits descs v (now s old).state → P image)

-- .. and with this table of large blocks
abbrev pub TellsAll : Kept → VsKept → LargeTable → Token → Token → (Image → Type 0) → Type 0
TellsAll back vs large old new P = TellsPages back.words vs.chunks old new (λ image. image.large ≡ large → P image)
