use Rattle.std.proofs.Common.{◌≡◌, take}
use Rattle.script_text.specs.Scripts.{round_at}
use Rattle.report_text.specs.Commands.{round_commands}
use Rattle.report_text.specs.Summary.{commands_of_round}
use Rattle.report_text.proofs.tally.count_in_round.Given as goal

abbrev pub invariant-loop-thread : goal.invariant-loop-thread
invariant-loop-thread l = l.sum ≡ commands_of_round (take l.thread (round_commands (round_at l.script l.fn.round)))
