use Rattle.std.proofs.Common.{sym, ◌∙◌}
use Rattle.large_blocks.proofs.Standing.{found_block}
use Rattle.layout_decode.specs.Decode.{page_blocks, table_blocks, is_at_or_after}
use Rattle.layout_decode.proofs.Walk.{find_in, find_behind}
use Rattle.layout_decode.proofs.next_block.Goals as goal

pub returns-in-Some : goal.returns-in-Some
returns-in-Some c =
    let image = c.args.image.now in
    sym (find_in (is_at_or_after c.args.from) (page_blocks image) (table_blocks image.large) c.in-Some.block (sym c.next_in_pages.ensures ∙ c.in-Some.is))

pub returns-in-None : goal.returns-in-None
returns-in-None c =
    let image = c.args.image.now in
    c.next_block.ensures.found
    ∙ sym (find_behind (is_at_or_after c.args.from) (page_blocks image) (table_blocks image.large) (sym c.next_in_pages.ensures ∙ c.in-None.is) ∙ found_block c.args.from image.large.blocks)
