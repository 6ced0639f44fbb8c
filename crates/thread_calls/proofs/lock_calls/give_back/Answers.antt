use Rattle.thread_calls.proofs.Served.{serves_unlock, serves_not_owner}
use Rattle.thread_calls.proofs.lock_calls.give_back.Goals as goal

pub returns-in-Ok-clause-served : goal.returns-in-Ok-clause-served
returns-in-Ok-clause-served c = serves_unlock c.args.c.now c.unlock_now.new.c c.in-Ok.ensures.given

pub returns-in-Err-clause-served : goal.returns-in-Err-clause-served
returns-in-Err-clause-served c = serves_not_owner c.args.c.now c.unlock_now.new.c c.in-Err.ensures.refused.0 c.in-Err.ensures.refused.1 c.requires.ready
