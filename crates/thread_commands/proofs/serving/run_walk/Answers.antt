use Rattle.std.proofs.Common.{refl}
use Rattle.thread_commands.proofs.Commands.{ran_walk}
use Rattle.thread_commands.proofs.serving.run_walk.Goals as goal

pub returns-clause-runs : goal.returns-clause-runs
returns-clause-runs c =
    let x = c.in_ok-walk.ensures.walked in
    ran_walk c.args.w.now (record { caller = c.walk.new.c; names = c.args.w.now.names; replies = c.walk.new.replies; short = c.args.w.now.short }) x.0 x.2 x.1 refl
