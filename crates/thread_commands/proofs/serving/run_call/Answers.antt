use Rattle.thread_commands.proofs.Commands.{ran_call}
use Rattle.thread_commands.proofs.serving.run_call.Goals as goal

pub returns-clause-runs : goal.returns-clause-runs
returns-clause-runs g c =
    ran_call c.args.w.now _ c.args.command c.args.call c.serve-reply.result c.requires.call c.serve-reply.ensures.served c.serve-reply.ensures.last c.in_ok-push.ensures.items c.in_ok-note.ensures
