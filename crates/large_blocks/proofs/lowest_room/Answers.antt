use Rattle.std.proofs.Common.{sym, ◌∙◌, get_or}
use Rattle.large_blocks.specs.declared.LargeBlock.{LargeBlock}
use Rattle.large_blocks.proofs.Rooms.{run_is_here, room_is_here, next_page, at_next, last_page, nothing_fits, last_room}
use Rattle.large_blocks.proofs.lowest_room.Goals as goal

nothing : LargeBlock
nothing = record { addr = 0; size = 0 }

pub returns-then-holds-clause-place : goal.returns-then-holds-clause-place
unfolding nothing
returns-then-holds-clause-place c =
    let h = c.loop-index.invariant in
    run_is_here c.args.limits.now c.args.blocks.now c.args.pages c.loop-index.index c.loop-index.addr c.requires.laid h (get_or c.args.blocks.now c.loop-index.index nothing).addr
    (next_page c.args.limits.now c.args.blocks.now nothing c.loop-index.index c.requires.laid c.loop-index-test.true h.page h.rest) (sym c.holds.ensures ∙ c.if-holds.true)

pub returns-then-holds-clause-room : goal.returns-then-holds-clause-room
unfolding nothing
returns-then-holds-clause-room c =
    let h = c.loop-index.invariant in
    room_is_here c.args.limits.now c.args.blocks.now c.args.pages c.loop-index.index c.loop-index.addr c.requires.laid h (get_or c.args.blocks.now c.loop-index.index nothing).addr
    (next_page c.args.limits.now c.args.blocks.now nothing c.loop-index.index c.requires.laid c.loop-index-test.true h.page h.rest) (sym c.holds.ensures ∙ c.if-holds.true)

pub loop-index-preserved : goal.loop-index-preserved
unfolding nothing
loop-index-preserved c =
    at_next c.args.limits.now c.args.blocks.now nothing c.args.pages c.loop-index.index c.loop-index.addr c.div_ceil.result c.requires.laid c.loop-index.invariant c.loop-index-test.true c.div_ceil.ensures
    (sym c.holds.ensures ∙ c.if-holds.false)

pub returns-then-holds-2-clause-place : goal.returns-then-holds-2-clause-place
returns-then-holds-2-clause-place c =
    run_is_here c.args.limits.now c.args.blocks.now c.args.pages c.loop-index.index c.loop-index.addr c.requires.laid c.loop-index.invariant c.area_end.result
    (last_page c.args.limits.now c.args.blocks.now c.args.pages c.loop-index.index c.loop-index.addr c.requires.laid c.loop-index.invariant c.loop-index-test.false c.area_end.result c.area_end.ensures)
    (sym c.holds-2.ensures ∙ c.if-holds-2.true)

pub returns-then-holds-2-clause-room : goal.returns-then-holds-2-clause-room
returns-then-holds-2-clause-room c =
    last_room c.args.limits.now c.args.blocks.now c.args.pages c.loop-index.index c.loop-index.addr c.requires.laid c.loop-index.invariant c.loop-index-test.false
    (room_is_here c.args.limits.now c.args.blocks.now c.args.pages c.loop-index.index c.loop-index.addr c.requires.laid c.loop-index.invariant c.area_end.result
    (last_page c.args.limits.now c.args.blocks.now c.args.pages c.loop-index.index c.loop-index.addr c.requires.laid c.loop-index.invariant c.loop-index-test.false c.area_end.result c.area_end.ensures)
    (sym c.holds-2.ensures ∙ c.if-holds-2.true))

pub returns-else-holds-2-clause-place : goal.returns-else-holds-2-clause-place
returns-else-holds-2-clause-place c =
    nothing_fits c.args.limits.now c.args.blocks.now c.args.pages c.loop-index.index c.loop-index.addr c.requires.laid c.loop-index.invariant c.loop-index-test.false c.area_end.result c.area_end.ensures
    (sym c.holds-2.ensures ∙ c.if-holds-2.false)
