use Rattle.std.proofs.Common.{◌≡◌, ◌++◌, drop, map, string_bytes}
use Rattle.script_text.specs.Scripts.{command_of}
use Rattle.report_text.specs.Report.{thread_lines}
use Rattle.report_text.proofs.replies.push_thread.Given as goal

abbrev pub invariant-loop-reply : goal.invariant-loop-reply
invariant-loop-reply l =
    let cs = map command_of l.commands in
    string_bytes l.text ++ thread_lines l.round l.thread (drop l.k cs) (drop l.reply-index l.replies) ≡ string_bytes l.fn.text ++ thread_lines l.round l.thread cs l.replies
