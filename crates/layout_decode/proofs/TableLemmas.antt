-- The rows of the table of large blocks.
use Rattle.std.proofs.Common.{◌≡◌, ℕ, suc, ◌+◌, ◌≤◌, List, [], ◌∷◌, length, map, refl, sym, ap, ◌∙◌, subst, arith}
use Rattle.std.specs.Prelude.{sum_by}
use Rattle.std.proofs.lemmas.List.Sums.{sum_by-cons}
use Rattle.heap_model.specs.declared.Block.{Block}
use Rattle.large_blocks.specs.declared.LargeBlock.{LargeBlock}
use Rattle.large_blocks.specs.Table.{LargeTable, block_in}
use Rattle.large_blocks.specs.Sound.{IsSound}
use Rattle.large_blocks.proofs.Laid.{laid_few, laid_bytes}
use Rattle.layout_decode.specs.Decode.{table_blocks, total_of}

-- the bytes of all rows
abbrev pub row_bytes : List LargeBlock → ℕ
row_bytes bs = sum_by (λ b. b.size) bs

pub few_rows : (t : LargeTable) → IsSound t → length t.blocks ≤ 32
few_rows t h = let r = laid_few t.limits 0 t.blocks (omega arith) h.laid in let m = h.limits.large_pages in omega arith

pub few_bytes : (t : LargeTable) (bs : List LargeBlock) → IsSound t → bs ≡ t.blocks → row_bytes bs ≤ 16777216
few_bytes t bs h e =
    let r = laid_bytes t.limits 0 t.blocks (omega arith) h.laid in
    let m = h.limits.large_pages in
    subst (λ (xs : List LargeBlock). row_bytes xs ≤ 16777216) (sym e) (omega arith)

pub length_of_rows : (t : LargeTable) → length (table_blocks t) ≡ length t.blocks
length_of_rows t = go t.blocks
  where
    go : (bs : List LargeBlock) → length (map block_in bs) ≡ length bs
    go [] = refl
    go (b ∷ bs) = ap suc (go bs)

pub bytes_of_rows : (t : LargeTable) → total_of (table_blocks t) ≡ row_bytes t.blocks
bytes_of_rows t = go t.blocks
  where
    go : (bs : List LargeBlock) → total_of (map block_in bs) ≡ row_bytes bs
    go [] = refl
    go (b ∷ bs) =
        sum_by-cons (λ (x : Block). x.size) (block_in b) (map block_in bs) ∙ ap (λ (n : ℕ). b.size + n) (go bs) ∙ sym (sum_by-cons (λ (x : LargeBlock). x.size) b bs)
