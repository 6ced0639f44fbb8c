use Rattle.std.proofs.Common.{◌∙◌}
use Rattle.move_calls.proofs.Halves.{refused, heap_tried}
use Rattle.move_calls.proofs.found.realloc_inside.Goals as goal

pub stay_or_move-requires-clause-table : goal.stay_or_move-requires-clause-table
stay_or_move-requires-clause-table c =
    let h = heap_tried c.args.c.now c.try_stay.new.c c.args.addr c.args.n c.args.flags c.in-Ok.tried c.in-Ok.ensures in (h.0 ∙ c.requires.table.0, h.1 ∙ c.requires.table.1)

pub stay_or_move-requires-clause-tried : goal.stay_or_move-requires-clause-tried
stay_or_move-requires-clause-tried c = (c.args.c.now, c.requires.serving, c.in-Ok.ensures)

pub returns-in-Ok : goal.returns-in-Ok
returns-in-Ok c = c.stay_or_move.ensures c.args.c.now c.requires.serving c.in-Ok.ensures

pub returns-in-Err : goal.returns-in-Err
returns-in-Err c = refused c.args.c.now c.try_stay.new.c c.args.addr c.args.n c.args.flags c.in-Err.no c.requires.serving c.in-Err.ensures
