use Rattle.std.proofs.Common.{◌≡◌, List, [], take, drop, map}
use Rattle.script_text.specs.Scripts.{command_of}
use Rattle.script_text.specs.Values.{Answered}
use Rattle.name_values.specs.Table.{Tells}
use Rattle.heap_now.specs.Calls.{IsCallerOf}
use Rattle.thread_commands.proofs.Threads.{RunsSoFar, IsBalancedFrom}
use Rattle.thread_commands.proofs.running.run_all.Given as goal

abbrev pub invariant-loop-line : goal.invariant-loop-line
invariant-loop-line g l = record {
  caller : IsCallerOf l.heap l.w.caller;
  short : l.w.short ≡ l.fn.w.short;
  balanced : IsBalancedFrom l.w.caller.depth (drop l.line-index l.commands);
  so_far : (earlier : List (List (List Answered))) → Tells l.fn.w.names earlier [] → RunsSoFar l.fn.w l.w earlier (map command_of (take l.line-index l.commands));
}
