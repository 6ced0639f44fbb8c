use Rattle.std.proofs.Common.{drop, map, take}
use Rattle.script_text.specs.Scripts.{command_of}
use Rattle.thread_commands.proofs.Threads.{IsBalancedFrom}
use Rattle.command_run.specs.Values.{value_at}
use Rattle.command_run.specs.Running.{Runs}
use Rattle.command_run.proofs.running.run_thread.Given as goal

abbrev pub invariant-loop-line : goal.invariant-loop-line
invariant-loop-line l = record {
  balanced : IsBalancedFrom l.heap.depth (drop l.line-index l.commands);
  runs : Runs l.fn.heap l.heap (value_at l.fn.values) (value_at l.values) (map command_of (take l.line-index l.commands)) l.replies.items;
}
