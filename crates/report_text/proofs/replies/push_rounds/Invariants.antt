use Rattle.std.proofs.Common.{◌≡◌, ◌++◌, drop, string_bytes}
use Rattle.script_text.specs.Scripts.{commands_of}
use Rattle.report_text.specs.Report.{script_lines}
use Rattle.report_text.proofs.replies.push_rounds.Given as goal

abbrev pub invariant-loop-round : goal.invariant-loop-round
invariant-loop-round l =
    string_bytes l.text ++ script_lines l.round (drop l.round (commands_of l.script)) (drop l.round l.answers) ≡ string_bytes l.fn.text ++ script_lines 0 (commands_of l.script) l.answers
