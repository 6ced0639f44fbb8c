use Rattle.command_run.specs.Values.{value_at}
use Rattle.command_run.proofs.RunLemmas.{runs_walk}
use Rattle.command_run.proofs.running.run_walk.Goals as goal

pub returns-clause-depth : goal.returns-clause-depth
returns-clause-depth c = c.in_ok-walk.ensures.2.serves.depth

pub returns-clause-runs : goal.returns-clause-runs
returns-clause-runs c =
    let w = c.in_ok-walk.ensures in
    runs_walk c.args.heap.now c.walk.new.self c.args.replies.now.items c.walk.new.replies.items (value_at c.args.values.now) w.0 w.2 w.1
