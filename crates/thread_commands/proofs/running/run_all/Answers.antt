use Rattle.std.proofs.Common.{◌∙◌, List, map, take, get_or, subst, sym, refl, arith, false}
use Rattle.script_text.specs.declared.commands.Command.{Command}
use Rattle.script_text.specs.declared.commands.Command.TheVariants as commands
use Rattle.script_text.specs.declared.commands.CommandLine.{CommandLine}
use Rattle.script_text.specs.Calls.{call_of}
use Rattle.script_text.specs.Scripts.{command_of}
use Rattle.name_values.specs.Table.{value_in}
use Rattle.thread_rounds.specs.Threads.{answered}
use Rattle.thread_commands.specs.Working.{Runs}
use Rattle.thread_commands.proofs.Commands.{led_caller}
use Rattle.thread_commands.proofs.Threads.{RunsSoFar, runs_none, runs_more, runs_all, take_mapped, take_all, balanced_more, balanced_end}
use Rattle.thread_commands.proofs.running.run_all.Goals as goal

pub loop-line-init : goal.loop-line-init
loop-line-init g c = record {
  caller = c.requires.free.caller;
  short = refl;
  balanced = (0, (let d = c.requires.free.depth in omega (arith, d)), c.requires.commands);
  so_far = λ earlier k. runs_none c.args.w.now earlier c.requires.free.caller.is_ready c.requires.free.depth c.requires.fresh k;
}

pub loop-line-preserved : goal.loop-line-preserved
loop-line-preserved g c =
    let cs = c.args.commands.now in
    let i = c.loop-line.line-index in
    let d : CommandLine = record { line = 0; command = commands.Alloc 0 0 false } in
    let w0 = c.args.w.now in
    let w1 = c.loop-line.w in
    let w2 = c.run_command.new.w in
    let inv = c.loop-line.invariant in
    let x = c.run_command.ensures in
    let command = (get_or cs i d).command in
    record {
      caller = led_caller c.args.heap.now w1.caller w2.caller (call_of (value_in w1.names.values) command) inv.caller x.led;
      short = x.short ∙ inv.short;
      balanced = balanced_more (value_in w1.names.values) cs i d w1.caller.depth w2.caller.depth c.loop-line-test.true inv.balanced x.led.depth;
      so_far = λ earlier k.
          subst (λ (l : List Command). RunsSoFar w0 w2 earlier l) (sym (take_mapped cs i d c.loop-line-test.true))
          (let so_far = inv.so_far earlier k in
          runs_more w0 w1 w2 earlier (map command_of (take i cs)) command so_far (c.in_ok-run_command.ensures.runs earlier (answered (map command_of (take i cs)) w1.replies.items) so_far.names));
    }

pub returns-clause-depth : goal.returns-clause-depth
returns-clause-depth g c = balanced_end c.args.commands.now c.loop-line.line-index c.loop-line.w.caller.depth c.loop-line-test.false c.loop-line.invariant.balanced

pub returns-clause-runs : goal.returns-clause-runs
returns-clause-runs g c = λ earlier k.
    let cs = c.args.commands.now in
    let i = c.loop-line.line-index in
    subst (λ (l : List CommandLine). Runs c.args.w.now c.loop-line.w earlier (map command_of l)) (take_all cs i c.loop-line-test.false)
    (runs_all c.args.w.now c.loop-line.w earlier (map command_of (take i cs)) (c.loop-line.invariant.so_far earlier k))
