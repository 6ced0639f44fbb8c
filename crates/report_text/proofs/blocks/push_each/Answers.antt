use Rattle.std.proofs.Common.{◌++◌, ◌∙◌, List, ℕ, sym, ap, arith, string_bytes}
use Rattle.layout_decode.specs.Decode.{decode}
use Rattle.report_text.proofs.BlockLemmas.{step, few_addresses, all_lines, block_put, none_left}
use Rattle.report_text.proofs.blocks.push_each.Goals as goal

pub overflow_add-from : goal.overflow_add-from
overflow_add-from c =
    let s = step c.args.image.now c.requires c.chunk_at-chunk.ensures.tiled c.blocks-rows.ensures.sound c.loop-block.from c.in-Some.block (sym c.in-Some.is ∙ c.next_block.ensures) in
    let few = few_addresses c.args.image.now c.requires c.blocks-rows.ensures.sound c.pages-pages.ensures.headered.few in
    omega (arith, s.below, few)

pub loop-block-smaller : goal.loop-block-smaller
loop-block-smaller c =
    let s = step c.args.image.now c.requires c.chunk_at-chunk.ensures.tiled c.blocks-rows.ensures.sound c.loop-block.from c.in-Some.block (sym c.in-Some.is ∙ c.next_block.ensures) in
    omega (arith, s.above, s.below)

pub loop-block-preserved : goal.loop-block-preserved
loop-block-preserved c =
    let s = step c.args.image.now c.requires c.chunk_at-chunk.ensures.tiled c.blocks-rows.ensures.sound c.loop-block.from c.in-Some.block (sym c.in-Some.is ∙ c.next_block.ensures) in
    block_put c.loop-block.from _ (decode c.args.image.now) c.in-Some.block _ _ _ s.picked c.in_ok-push_block.ensures c.loop-block.invariant

pub returns : goal.returns
returns c =
    none_left c.loop-block.from (decode c.args.image.now) _ _ (sym c.in_default.is ∙ c.next_block.ensures) c.loop-block.invariant
    ∙ ap (λ (xs : List ℕ). string_bytes c.args.text.now ++ xs) (all_lines (decode c.args.image.now))
