use Rattle.std.proofs.Common.{◌≡◌, ◌∙◌, sym, ap, length, take, get_or, ◌+◌, ℕ, arith}
use Rattle.std.proofs.Math.Seq.{take-length}
use Rattle.std.proofs.lemmas.List.Sums.{sum_by_more, sum_by_more_le}
use Rattle.large_blocks.specs.declared.LargeBlock.{LargeBlock}
use Rattle.layout_decode.proofs.TableLemmas.{row_bytes, few_rows, few_bytes, length_of_rows, bytes_of_rows}
use Rattle.layout_decode.proofs.count_large.Goals as goal

nothing : LargeBlock
nothing = record { addr = 0; size = 0 }

pub overflow_add-bytes : goal.overflow_add-bytes
unfolding nothing
overflow_add-bytes c =
    let some = sum_by_more_le (λ (b : LargeBlock). b.size) c.blocks-rows.result.now c.loop-row.row-index nothing c.loop-row-test.true in
    let few = few_bytes c.args.large.now c.blocks-rows.result.now c.blocks-rows.ensures.sound c.blocks-rows.ensures.blocks in
    omega (arith, some, few, c.loop-row.invariant)

pub loop-row-preserved : goal.loop-row-preserved
unfolding nothing
loop-row-preserved c = ap (λ (n : ℕ). n + (get_or c.blocks-rows.result.now c.loop-row.row-index nothing).size) c.loop-row.invariant ∙ sym (sum_by_more (λ (b : LargeBlock). b.size) c.blocks-rows.result.now c.loop-row.row-index nothing c.loop-row-test.true)

pub returns : goal.returns
returns c =
    let rows = c.blocks-rows.result.now in
    let e = c.blocks-rows.ensures.blocks in
    let last : c.loop-row.row-index ≡ length rows = omega (arith, c.loop-row.auto.row-index-end, c.loop-row-test.false) in
    let bytes : c.loop-row.bytes ≡ row_bytes rows = c.loop-row.invariant ∙ ap (λ (n : ℕ). row_bytes (take n rows)) last ∙ ap row_bytes (take-length rows) in
    let few = few_bytes c.args.large.now rows c.blocks-rows.ensures.sound e in
    let most = few_rows c.args.large.now c.blocks-rows.ensures.sound in
    record {
      blocks = ap (length {A = LargeBlock}) e ∙ sym (length_of_rows c.args.large.now);
      bytes = bytes ∙ ap row_bytes e ∙ sym (bytes_of_rows c.args.large.now);
      few = (omega (arith, ap (length {A = LargeBlock}) e, most), omega (arith, bytes, few));
    }
