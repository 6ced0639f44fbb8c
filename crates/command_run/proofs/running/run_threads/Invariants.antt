use Rattle.std.proofs.Common.{◌≡◌, List, [], ◌∷◌, ◌++◌, take}
use Rattle.heap_model.specs.declared.Reply.{Reply}
use Rattle.script_text.specs.Scripts.{round_at}
use Rattle.command_run.specs.Values.{value_at}
use Rattle.command_run.specs.Commands.{round_commands}
use Rattle.command_run.specs.Running.{RoundRuns}
use Rattle.command_run.proofs.running.run_threads.Given as goal

abbrev pub invariant-loop-thread : goal.invariant-loop-thread
invariant-loop-thread l = record {
  free : l.heap.depth ≡ 0;
  runs : (front : List (List (List Reply))) → l.fn.answers ≡ front ++ [] ∷ [] →
      RoundRuns front l.answers l.fn.heap l.heap (value_at l.fn.values) (value_at l.values) (take l.thread (round_commands (round_at l.script l.round)));
}
