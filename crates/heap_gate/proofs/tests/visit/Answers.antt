use Rattle.std.proofs.Common.{false, true, refl}
use Rattle.heap_gate.proofs.Counting.{has_entered, has_turned, has_left, goes_on_trans}
use Rattle.heap_gate.proofs.tests.visit.Goals as goal

pub returns-in_default-clause-goes : goal.returns-in_default-clause-goes
returns-in_default-clause-goes g c = let b = c.in_default.field-0 in (has_turned c.args.heap.now c.args.c.now c.enter_now.new.c false c.requires.settled refl b.what b.word c.in_default.ensures.busy).2

pub returns-clause-goes : goal.returns-clause-goes
returns-clause-goes g c =
    let x = has_entered c.args.heap.now c.args.c.now c.enter_now.new.c false c.requires.settled c.in-Ok.ensures.ok in
    let y = has_left c.args.heap.now c.enter_now.new.c c.leave.new.c true x.0 c.leave.ensures in
    goes_on_trans c.args.c.now c.enter_now.new.c c.leave.new.c 1 0 0 0 x.2 y.2
