use Rattle.std.proofs.Common.{List, [], false, get_or, map, take, subst, sym, arith}
use Rattle.heap_model.specs.declared.Reply.{Reply}
use Rattle.script_text.specs.declared.commands.Command.{Command}
use Rattle.script_text.specs.declared.commands.Command.TheVariants as commands
use Rattle.script_text.specs.declared.commands.CommandLine.{CommandLine}
use Rattle.script_text.specs.Scripts.{command_of}
use Rattle.thread_commands.proofs.Threads.{balanced_more, balanced_end, take_mapped, take_all}
use Rattle.command_run.specs.Values.{value_at}
use Rattle.command_run.specs.Running.{Runs}
use Rattle.command_run.proofs.RunLemmas.{runs_none, runs_more}
use Rattle.command_run.proofs.running.run_thread.Goals as goal

pub loop-line-init : goal.loop-line-init
loop-line-init c = record {
  balanced = (0, (let d = c.requires.free in omega (arith, d)), c.requires.balanced);
  runs = subst (λ (rs : List Reply). Runs c.args.heap.now c.args.heap.now (value_at c.args.values.now) (value_at c.args.values.now) [] rs) (sym c.new-replies.ensures.items) (runs_none c.args.heap.now (value_at c.args.values.now));
}

pub loop-line-preserved : goal.loop-line-preserved
loop-line-preserved c =
    let cs = c.args.commands.now in
    let i = c.loop-line.line-index in
    let d : CommandLine = record { line = 0; command = commands.Alloc 0 0 false } in
    let a = c.args.heap.now in
    let b = c.loop-line.heap in
    let e = c.run_command.new.heap in
    let u = value_at c.args.values.now in
    let v = value_at c.loop-line.values in
    let w = value_at c.run_command.new.values in
    let x = c.in_ok-run_command.ensures in
    let inv = c.loop-line.invariant in
    record {
      balanced = balanced_more v cs i d b.depth e.depth c.loop-line-test.true inv.balanced x.depth;
      runs =
          subst (λ (ks : List Command). Runs a e u w ks c.run_command.new.replies.items) (sym (take_mapped cs i d c.loop-line-test.true))
          (runs_more a b e u v w (map command_of (take i cs)) (get_or cs i d).command c.loop-line.replies.items c.run_command.new.replies.items inv.runs x.runs);
    }

pub returns-clause-free : goal.returns-clause-free
returns-clause-free c = balanced_end c.args.commands.now c.loop-line.line-index c.loop-line.heap.depth c.loop-line-test.false c.loop-line.invariant.balanced

pub returns-clause-runs : goal.returns-clause-runs
returns-clause-runs c =
    subst (λ (ks : List CommandLine). Runs c.args.heap.now c.loop-line.heap (value_at c.args.values.now) (value_at c.loop-line.values) (map command_of ks) c.loop-line.replies.items)
    (take_all c.args.commands.now c.loop-line.line-index c.loop-line-test.false) c.loop-line.invariant.runs
