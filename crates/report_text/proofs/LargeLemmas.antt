-- The lines of large blocks.
use Rattle.std.proofs.Common.{◌≡◌, ℕ, zero, suc, ◌+◌, ◌-◌, ◌*◌, ◌/◌, ◌<◌, ◌≤◌, arith, Bool, true, false, ◌&&◌, not, eqb, List, [], ◌∷◌, ◌++◌, length, drop, get_or, map, Option, Some, None, refl, sym, ap, ◌∙◌, cond, append_assoc, add-one, ltb, inl, inr}
use Rattle.std.specs.Prelude.{flat_map, codes, decimal}
use Rattle.std.specs.Int.{div_ceil}
use Rattle.std.proofs.Math.ListN.{drop_of_length-le}
use Rattle.std.specs.Option.{option_map_or}
use Rattle.std.proofs.Math.Seq.{drop-cons}
use Rattle.std.proofs.lemmas.Bool.{cases_Bool}
use Rattle.heap_model.specs.declared.Block.{Block}
use Rattle.heap_model.specs.declared.Kind.{Kind}
use Rattle.heap_model.specs.declared.Kind.TheVariants as kinds
use Rattle.heap_model.specs.declared.Layer.TheVariants as layers
use Rattle.heap_model.specs.declared.Run.{Run}
use Rattle.heap_model.specs.Geometry.{pages_of}
use Rattle.heap_model.specs.Buckets.{block_address, block_count}
use Rattle.large_blocks.specs.declared.LargeBlock.{LargeBlock}
use Rattle.large_blocks.specs.Table.{block_in}
use Rattle.page_ranges.specs.Words.{runs_of}
use Rattle.vs_headers.specs.declared.Head.{Head}
use Rattle.layout_decode.specs.declared.Image.{Image}
use Rattle.layout_decode.specs.Decode.{place_block, block_if, chunk_blocks, size_word_of, is_taken_in, block_at_bit, blocks_at_bits, blocks_of, page_blocks, table_blocks, decode, head_told}
use Rattle.report_text.specs.Report.{large_line, large_lines}

lines_append : (xs ys : List Block) → large_lines (xs ++ ys) ≡ large_lines xs ++ large_lines ys
lines_append [] ys = refl
lines_append (x ∷ xs) ys = ap (λ (zs : List ℕ). large_line x x.layer ++ zs) (lines_append xs ys) ∙ sym (append_assoc (large_line x x.layer) (large_lines xs) (large_lines ys))

---- No run tells of a large block

chunk_lines : (told : ℕ → Option Head) (n g to : ℕ) → large_lines (chunk_blocks told n g to) ≡ []
chunk_lines told zero g to = refl
chunk_lines told (suc n) g to = elim (cases_Bool (ltb g to)) [
  | inl e ↦ rw e (by_head (λ at. chunk_lines told n at to) (told g))
  | inr e ↦ rw e refl
]
  where
    own : (h : Head) (busy : Bool) → large_lines (cond busy (place_block g h ∷ []) []) ≡ []
    own h true = refl
    own h false = refl

    by_head : ((at : ℕ) → large_lines (chunk_blocks told n at to) ≡ []) → (o : Option Head) → large_lines (option_map_or (λ (h : Head). block_if g h ++ chunk_blocks told n (g + h.units) to) o []) ≡ []
    by_head again None = refl
    by_head again (Some h) = lines_append (block_if g h) (chunk_blocks told n (g + h.units) to) ∙ ap (λ (xs : List ℕ). xs ++ large_lines (chunk_blocks told n (g + h.units) to)) (own h h.busy) ∙ again (g + h.units)

bit_lines : (image : Image) (r : Run) (n i : ℕ) → large_lines (blocks_at_bits image r n i) ≡ []
bit_lines image r zero i = refl
bit_lines image r (suc n) i =
    lines_append (block_at_bit image r i) (blocks_at_bits image r n (suc i))
    ∙ ap (λ (xs : List ℕ). xs ++ large_lines (blocks_at_bits image r n (suc i))) (own (is_taken_in image r i && not (eqb (size_word_of image (block_address r.mark.bucket r.first i)) 0)))
    ∙ bit_lines image r n (suc i)
  where
    own : (set : Bool) → large_lines (cond set (record { addr = block_address r.mark.bucket r.first i; size = size_word_of image (block_address r.mark.bucket r.first i) - 1; layer = layers.Lfh } ∷ []) []) ≡ []
    own true = refl
    own false = refl

run_lines : (image : Image) (r : Run) (k : Kind) → large_lines (blocks_of image r k) ≡ []
run_lines image r kinds.Header = refl
run_lines image r kinds.Free = refl
run_lines image r kinds.Back = refl
run_lines image r kinds.Vs = chunk_lines (head_told image) (256 * r.pages) (256 * r.first + 3) (256 * (r.first + r.pages))
run_lines image r kinds.Lfh = bit_lines image r (block_count r.mark.bucket) 0

page_lines : (image : Image) (rs : List Run) → large_lines (flat_map (λ r. blocks_of image r r.mark.kind) rs) ≡ []
page_lines image [] = refl
page_lines image (r ∷ rs) = lines_append (blocks_of image r r.mark.kind) (flat_map (λ (q : Run). blocks_of image q q.mark.kind) rs) ∙ ap (λ (xs : List ℕ). xs ++ large_lines (flat_map (λ (q : Run). blocks_of image q q.mark.kind) rs)) (run_lines image r r.mark.kind) ∙ page_lines image rs

---- So those of the table are all

abbrev pub row_lines : List LargeBlock → List ℕ
row_lines bs = large_lines (map block_in bs)

pub all_rows : (image : Image) → large_lines (decode image) ≡ row_lines image.large.blocks
all_rows image = lines_append (page_blocks image) (table_blocks image.large) ∙ ap (λ (xs : List ℕ). xs ++ large_lines (table_blocks image.large)) (page_lines image (runs_of image.descs))

-- the line of a row
abbrev pub row_line : LargeBlock → List ℕ
row_line b = large_line (block_in b) layers.Large

pub next_row : (bs : List LargeBlock) (d : LargeBlock) (i : ℕ) → i < length bs → row_lines (drop i bs) ≡ row_line (get_or bs i d) ++ row_lines (drop (i + 1) bs)
next_row bs d i l = ap row_lines (drop-cons bs i d l) ∙ ap (λ (n : ℕ). row_line (get_or bs i d) ++ row_lines (drop n bs)) (sym (add-one i))

pub line_is : (b : LargeBlock) (pages : ℕ) → pages ≡ div_ceil b.size 4096 → codes "large " ++ decimal (b.addr / 4096) ++ codes " " ++ decimal pages ++ codes "\n" ≡ row_line b
line_is b pages e = let f : pages ≡ pages_of b.size = e ∙ omega arith in ap (λ (n : ℕ). codes "large " ++ decimal (b.addr / 4096) ++ codes " " ++ decimal n ++ codes "\n") f

-- nothing is behind the last row
pub rows_end : (bs : List LargeBlock) (i : ℕ) → length bs ≤ i → row_lines (drop i bs) ≡ []
rows_end bs i l = ap row_lines (drop_of_length-le bs l)
