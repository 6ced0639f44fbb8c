use Rattle.std.proofs.Common.{sym, subst}
use Rattle.std.specs.Prelude.{OnOk}
use Rattle.script_text.specs.Calls.{call_of}
use Rattle.script_text.specs.declared.commands.Command.{Command}
use Rattle.thread_calls.specs.Serving.{IsDepthBehind}
use Rattle.command_run.specs.Running.{RunsOne}
use Rattle.command_run.specs.Values.{value_at}
use Rattle.command_run.proofs.running.run_command.Goals as goal

pub returns-in-Walk-clause-depth : goal.returns-in-Walk-clause-depth
returns-in-Walk-clause-depth c =
    subst (λ (k : Command). OnOk c.run_walk.result (IsDepthBehind (call_of (value_at c.args.values.now) k) c.args.heap.now.depth c.run_walk.new.heap.depth)) (sym c.in-Walk.is) c.run_walk.ensures.depth

pub returns-in-Walk-clause-runs : goal.returns-in-Walk-clause-runs
returns-in-Walk-clause-runs c =
    subst (λ (k : Command). OnOk c.run_walk.result (RunsOne c.args.heap.now c.run_walk.new.heap (value_at c.args.values.now) (value_at c.args.values.now) k c.args.replies.now.items c.run_walk.new.replies.items)) (sym c.in-Walk.is) c.run_walk.ensures.runs

pub run_call-requires : goal.run_call-requires
run_call-requires c = c.in_default.not-Walk
