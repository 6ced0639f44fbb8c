use Rattle.std.proofs.Common.{true, false}
use Rattle.heap_gate.proofs.Turns.{entered_takes, turned_takes, left_takes, takes_around}
use Rattle.heap_gate.proofs.lock_tests.work.Goals as goal

pub returns-in_default-clause-takes : goal.returns-in_default-clause-takes
returns-in_default-clause-takes c = let b = c.in_default.field-0 in turned_takes c.args.heap.now c.args.c c.enter_now.new.c false c.requires.settled b.what b.word c.in_default.ensures.busy

pub returns-clause-takes : goal.returns-clause-takes
returns-clause-takes c =
    let x = entered_takes c.args.heap.now c.args.c c.enter_now.new.c false c.requires.settled c.in-Ok.ensures.ok in
    let z = left_takes c.args.heap.now c.turns-taken.new.c c.leave.new.c true c.turns-taken.ensures.settled.0 c.leave.ensures in
    takes_around c.args.c c.enter_now.new.c c.turns-taken.new.c c.leave.new.c c.turns-taken.result x c.turns-taken.ensures.takes z
