use Rattle.std.proofs.Common.{subst}
use Rattle.heap_gate.specs.Token.{Token}
use Rattle.heap_gate.specs.Calls.{IsDeeper, IsRefusedLock}
use Rattle.heap_model.specs.declared.LockNo.{LockNo}
use Rattle.heap_model.specs.declared.LockNo.TheVariants as lock_nos
use Rattle.compact_calls.proofs.Calling.{locked_number, refused}
use Rattle.compact_calls.proofs.call.compact_locking.Goals as goal

pub returns-in-Ok-clause-compacted : goal.returns-in-Ok-clause-compacted
returns-in-Ok-clause-compacted c =
    let a = c.args.c.now in let b = c.lock_gate.new.c in
    locked_number a b c.check.ensures.stands c.requires.ready.0 c.requires.ready.1 c.requires.free c.finish.new.c c.finish.result
    (subst (λ (t : Token). IsDeeper t b) c.begin.ensures c.in-Ok.ensures.taken) c.finish.ensures

pub returns-in-Err-Busy-clause-busy : goal.returns-in-Err-Busy-clause-busy
returns-in-Err-Busy-clause-busy c =
    let a = c.args.c.now in let b = c.lock_gate.new.c in
    refused a b c.check.ensures.stands c.requires.ready.0 c.requires.ready.1 c.requires.free c.in-Err-Busy.busy
    (subst (λ (t : Token). IsRefusedLock t b (lock_nos.Busy c.in-Err-Busy.busy)) c.begin.ensures
    (subst (λ (no : LockNo). IsRefusedLock c.begin.new.c b no) c.in-Err-Busy.field-0-is c.in-Err-Busy.ensures.refused))
