use Rattle.std.proofs.Common.{◌≡◌, ◌++◌, [], drop, get_or, string_bytes}
use Rattle.script_text.specs.Scripts.{round_at}
use Rattle.report_text.specs.Report.{round_lines}
use Rattle.report_text.specs.Commands.{round_commands}
use Rattle.report_text.proofs.replies.push_threads.Given as goal

abbrev pub invariant-loop-thread : goal.invariant-loop-thread
invariant-loop-thread l =
    let css = round_commands (round_at l.script l.round) in
    let round = get_or l.answers l.round [] in
    string_bytes l.text ++ round_lines l.round l.thread (drop l.thread css) (drop l.thread round) ≡ string_bytes l.fn.text ++ round_lines l.round 0 css round
