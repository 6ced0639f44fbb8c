-- A walk over the runs of an image that can be read.
use Rattle.std.proofs.Common.{◌≡◌, ℕ, ◌+◌, ◌*◌, ◌≤◌, List, [], ◌∷◌, length, length-append, Some, None, sym, ap, ◌∙◌, arith}
use Rattle.std.specs.Prelude.{flat_map}
use Rattle.std.specs.List.{find, AllByRecursion}
use Rattle.heap_model.specs.declared.Block.{Block}
use Rattle.heap_model.specs.declared.Run.{Run}
use Rattle.page_ranges.specs.Words.{runs_of}
use Rattle.page_ranges.specs.Ranges.{begins_from, has_page}
use Rattle.vs_split.specs.Tiles.{IsTiled}
use Rattle.layout_decode.specs.declared.Image.{Image}
use Rattle.layout_decode.specs.Decode.{page_blocks, blocks_of, is_at_or_after, total_of, IsRunOfChunks, IsRunOfBlocks, BlocksFit, IsReadable}
use Rattle.layout_decode.proofs.Walk.{all_behind, none_behind, blocks_from, Step, step, none_from, start, bounds, found_one, find_in, find_behind, total-append, quiet_all}
use Rattle.layout_decode.proofs.OneRun.{IsReadableRun, headers, few, none_before}

-- the blocks of a run, as a walk takes them
abbrev pub of_run : Image → Run → List Block
of_run image r = blocks_of image r r.mark.kind

-- the blocks of the runs from a page on
abbrev pub left_from : Image → ℕ → List Block
left_from image page = blocks_from (of_run image) page (runs_of image.descs)

abbrev pub Each : Image → Run → Type 0
Each image r = IsReadableRun image r r.mark.kind

each_of : (image : Image) (rs : List Run) → AllByRecursion (λ r. IsRunOfChunks image.heads r r.mark.kind) rs → AllByRecursion (λ r. IsRunOfBlocks image.limits r r.mark.kind) rs
    → AllByRecursion (λ r. BlocksFit image r r.mark.kind) rs → AllByRecursion (Each image) rs
each_of image [] chunks subsegments fits = tt
each_of image (r ∷ rs) chunks subsegments fits = (record { chunks = chunks.0; subsegment = subsegments.0; fit = fits.0 }, each_of image rs chunks.1 subsegments.1 fits.1)

-- each run of an image that can be read
pub each : (image : Image) → IsReadable image → AllByRecursion (Each image) (runs_of image.descs)
each image readable = each_of image (runs_of image.descs) readable.rows readable.subsegments readable.fits

module _ (image : Image) (readable : IsReadable image) (t : IsTiled image.heads) where
  abbrev words : List ℕ
  words = image.descs

  pub next : (page : ℕ) (r : Run) → find (begins_from page) (runs_of words) ≡ Some r → Step (of_run image) (length words) page (runs_of words) r
  next page r e = step (of_run image) (headers image) words 0 (length words) page (runs_of words) r readable.whole e

  pub run_is : (page : ℕ) (r : Run) → find (begins_from page) (runs_of words) ≡ Some r → IsReadableRun image r r.mark.kind
  run_is page r e = found_one (Each image) (begins_from page) (runs_of words) r (each image readable) e

  pub none_next : (page : ℕ) → find (begins_from page) (runs_of words) ≡ None → left_from image page ≡ []
  none_next page e = none_from (of_run image) (headers image) page (runs_of words) e

  pub none_beyond : (page : ℕ) → length words ≤ page → left_from image page ≡ []
  none_beyond page l = ap (flat_map (of_run image)) (none_behind words 0 (length words) page (runs_of words) readable.whole l)

  pub all_from : left_from image 0 ≡ page_blocks image
  all_from = ap (flat_map (of_run image)) (all_behind words 0 (length words) 0 (runs_of words) readable.whole (omega arith))

  pub starts_at : (from page : ℕ) (r : Run) → 4096 * page ≤ from → find (has_page page) (runs_of words) ≡ Some r → find (is_at_or_after from) (left_from image r.first) ≡ find (is_at_or_after from) (page_blocks image)
  starts_at from page r l e =
      let s = start (of_run image) (is_at_or_after from) (Each image) page (none_before image t readable.told from page l) words 0 (length words) (runs_of words) r readable.whole (each image readable) (omega arith) e in
      sym s.same

  -- no block lies behind the last page
  pub none_past : (from : ℕ) → 4096 * length words ≤ from → find (is_at_or_after from) (page_blocks image) ≡ None
  none_past from l = quiet_all (of_run image) (is_at_or_after from) (Each image) (length words) (none_before image t readable.told from (length words) l) words 0 (length words) (runs_of words) readable.whole (each image readable) (omega arith)

  -- blocks are no more than the granules of the pages, and have no more bytes
  pub few_blocks : (length (page_blocks image) ≤ 256 * length words) × (total_of (page_blocks image) ≤ 4096 * length words)
  few_blocks =
      let b = bounds (of_run image) (Each image) (few image t readable.told) words 0 (length words) (runs_of words) readable.whole (each image readable) in
      (omega (arith, b.0), omega (arith, b.1))

  -- what a run has, and what is left behind it
  pub count_next : (page : ℕ) (r : Run) → find (begins_from page) (runs_of words) ≡ Some r
      → (length (left_from image page) ≡ length (of_run image r) + length (left_from image (r.first + r.pages))) × (total_of (left_from image page) ≡ total_of (of_run image r) + total_of (left_from image (r.first + r.pages)))
  count_next page r e =
      let s = next page r e in
      let rest = left_from image (r.first + r.pages) in
      (ap (length {A = Block}) s.next ∙ length-append (of_run image r) rest, ap total_of s.next ∙ total-append (of_run image r) rest)

  -- what is found in a run, or behind it
  pub found_here : (from page : ℕ) (r : Run) (b : Block) → find (begins_from page) (runs_of words) ≡ Some r → find (is_at_or_after from) (of_run image r) ≡ Some b → find (is_at_or_after from) (left_from image page) ≡ Some b
  found_here from page r b e f =
      let s = next page r e in
      ap (find (is_at_or_after from)) s.next ∙ find_in (is_at_or_after from) (of_run image r) (left_from image (r.first + r.pages)) b f

  pub found_behind : (from page : ℕ) (r : Run) → find (begins_from page) (runs_of words) ≡ Some r → find (is_at_or_after from) (of_run image r) ≡ None
      → find (is_at_or_after from) (left_from image page) ≡ find (is_at_or_after from) (left_from image (r.first + r.pages))
  found_behind from page r e f =
      let s = next page r e in
      ap (find (is_at_or_after from)) s.next ∙ find_behind (is_at_or_after from) (of_run image r) (left_from image (r.first + r.pages)) f
