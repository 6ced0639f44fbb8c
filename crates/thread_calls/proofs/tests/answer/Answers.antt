use Rattle.std.proofs.Common.{◌∷◌, []}
use Rattle.thread_calls.proofs.Callers.{served}
use Rattle.thread_calls.proofs.tests.answer.Goals as goal

pub returns : goal.returns
returns g c = served c.args.heap.now c.args.c.now c.serve.new.c c.args.call (c.serve.result ∷ []) c.requires.caller c.serve.ensures.served
