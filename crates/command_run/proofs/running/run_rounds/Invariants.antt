use Rattle.std.proofs.Common.{◌≡◌, take}
use Rattle.script_text.specs.Scripts.{commands_of}
use Rattle.command_run.specs.Values.{value_at}
use Rattle.command_run.specs.Commands.{unassigned, in_rounds}
use Rattle.command_run.specs.Running.{Runs, Fit}
use Rattle.command_run.proofs.running.run_rounds.Given as goal

abbrev pub invariant-loop-round : goal.invariant-loop-round
invariant-loop-round l = record {
  free : l.heap.depth ≡ 0;
  fit : Fit (take l.round (commands_of l.script)) l.answers;
  runs : Runs l.fn.heap l.heap unassigned (value_at l.values) (in_rounds (take l.round (commands_of l.script))) (in_rounds l.answers);
}
