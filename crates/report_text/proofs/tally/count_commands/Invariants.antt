use Rattle.std.proofs.Common.{◌≡◌, take}
use Rattle.script_text.specs.Scripts.{commands_of}
use Rattle.report_text.specs.Summary.{commands_in}
use Rattle.report_text.proofs.tally.count_commands.Given as goal

abbrev pub invariant-loop-round : goal.invariant-loop-round
invariant-loop-round l = l.sum ≡ commands_in (take l.round (commands_of l.script))
