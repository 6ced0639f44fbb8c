use Rattle.thread_calls.proofs.Served.{serves_lock, serves_full}
use Rattle.thread_calls.proofs.lock_calls.take.Goals as goal

pub returns-in-Ok-clause-served : goal.returns-in-Ok-clause-served
returns-in-Ok-clause-served g c = serves_lock c.args.c.now c.lock.new.c c.in-Ok.ensures.taken

pub returns-in-Err-clause-served : goal.returns-in-Err-clause-served
returns-in-Err-clause-served g c = serves_full c.args.c.now c.lock.new.c c.in-Err.ensures.refused.0 c.in-Err.ensures.refused.1 c.requires.ready
