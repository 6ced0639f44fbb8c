use Rattle.std.proofs.Common.{false, refl, subst}
use Rattle.heap_gate.specs.Calls.{IsRefusedLock}
use Rattle.heap_gate.proofs.Counting.{has_locked, has_missed, has_given, goes_on_trans}
use Rattle.heap_gate.proofs.tests.hold.Goals as goal

pub returns-in-Ok-unlock_gate-clause-goes : goal.returns-in-Ok-unlock_gate-clause-goes
returns-in-Ok-unlock_gate-clause-goes g c =
    let x = has_locked c.args.heap.now c.args.c.now c.lock_gate.new.c false c.requires.settled refl 0 c.requires.free c.in-Ok.ensures.taken in
    let y = has_given c.args.heap.now c.lock_gate.new.c c.unlock_gate.new.c false x.0 refl 0 x.1 c.in-Ok-unlock_gate.ensures.given in
    goes_on_trans c.args.c.now c.lock_gate.new.c c.unlock_gate.new.c 0 1 0 0 x.2 y.2

pub returns-in-Err-Busy-clause-goes : goal.returns-in-Err-Busy-clause-goes
returns-in-Err-Busy-clause-goes g c =
    (has_missed c.args.heap.now c.args.c.now c.lock_gate.new.c false c.requires.settled c.in-Err-Busy.field-0-0 refl
    (subst (IsRefusedLock c.args.c.now c.lock_gate.new.c) c.in-Err-Busy.field-0-is c.in-Err-Busy.ensures.refused)).2
