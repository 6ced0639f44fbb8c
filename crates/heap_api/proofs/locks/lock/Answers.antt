use Rattle.std.proofs.Common.{subst}
use Rattle.heap_model.specs.declared.LockNo.{LockNo}
use Rattle.heap_now.specs.Locks.{IsNotLocked}
use Rattle.heap_api.proofs.Waiting.{lock_more, locked_at_last, lock_full}
use Rattle.heap_api.proofs.locks.lock.Goals as goal

pub returns-in-Ok-clause-taken : goal.returns-in-Ok-clause-taken
returns-in-Ok-clause-taken g c = locked_at_last c.args.c.now c.loop.c c.lock_now.new.c c.loop.invariant.2 c.in-Ok.ensures.taken

pub returns-in-Err-Depth-clause-refused : goal.returns-in-Err-Depth-clause-refused
returns-in-Err-Depth-clause-refused g c =
    lock_full c.args.c.now c.loop.c c.lock_now.new.c c.loop.invariant.2 (subst (λ (r : LockNo). IsNotLocked c.loop.c c.lock_now.new.c r) c.in-Err-Depth.field-0-is c.in-Err-Depth.ensures.refused)

pub loop-preserved : goal.loop-preserved
loop-preserved g c = (
  tt,
  tt,
  lock_more c.args.c.now c.loop.c c.lock_now.new.c c.in-Err-Busy.field-0-0 c.loop.invariant.2
      (subst (λ (r : LockNo). IsNotLocked c.loop.c c.lock_now.new.c r) c.in-Err-Busy.field-0-is c.in-Err-Busy.ensures.refused),
)
