use Rattle.std.proofs.Common.{◌++◌, ◌∙◌, ◌+◌, List, ℕ, sym, ap, get_or, drop, string_bytes}
use Rattle.large_blocks.specs.declared.LargeBlock.{LargeBlock}
use Rattle.report_text.proofs.ReplyLemmas.{put_on, put_all}
use Rattle.report_text.proofs.LargeLemmas.{row_lines, row_line, all_rows, next_row, line_is, rows_end}
use Rattle.report_text.proofs.layout.push_large.Goals as goal

nothing : LargeBlock
nothing = record { addr = 0; size = 0 }

pub loop-row-preserved : goal.loop-row-preserved
unfolding nothing
loop-row-preserved c =
    let rows = c.blocks-rows.result.now in
    let row : LargeBlock = get_or rows c.loop-row.row-index nothing in
    put_on _ _ (row_line row) (row_lines (drop (c.loop-row.row-index + 1) rows)) (row_lines (drop c.loop-row.row-index rows)) _
    (c.in_ok-push_large_line.ensures ∙ ap (λ (xs : List ℕ). string_bytes c.loop-row.text ++ xs) (line_is row c.div_ceil.result c.div_ceil.ensures))
    (next_row rows nothing c.loop-row.row-index c.loop-row-test.true) c.loop-row.invariant

pub returns : goal.returns
returns c =
    let rows = c.blocks-rows.result.now in
    put_all _ _ _ (rows_end rows c.loop-row.row-index c.loop-row-test.false) c.loop-row.invariant
    ∙ ap (λ (xs : List ℕ). string_bytes c.args.text.now ++ xs) (ap row_lines c.blocks-rows.ensures.blocks ∙ sym (all_rows c.args.image.now))
