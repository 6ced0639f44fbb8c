use Rattle.std.proofs.Common.{◌≡◌, ◌++◌, ◌∙◌, List, [], get_or, map, arith, string_bytes, ap}
use Rattle.std.proofs.lemmas.Option.{slice_get-get_or}
use Rattle.heap_model.specs.declared.Reply.{Reply}
use Rattle.script_text.specs.declared.commands.CommandLine.{CommandLine}
use Rattle.script_text.specs.Scripts.{command_of, thread_at}
use Rattle.report_text.specs.Commands.{thread_commands}
use Rattle.report_text.specs.Report.{thread_lines}
use Rattle.report_text.proofs.ReplyLemmas.{thread_put, answered_end}
use Rattle.report_text.proofs.replies.push_threads.Goals as goal

pub loop-thread-preserved : goal.loop-thread-preserved
loop-thread-preserved c =
    let round = get_or c.args.answers.now c.args.round [] in
    let lines : string_bytes c.push_thread.new.text ≡ string_bytes c.loop-thread.text ++ thread_lines c.args.round c.loop-thread.thread (thread_commands (thread_at c.args.script.now c.args.round c.loop-thread.thread)) (get_or round c.loop-thread.thread []) =
    c.in_ok-push_thread.ensures
    ∙ ap (λ (xs : List CommandLine). string_bytes c.loop-thread.text ++ thread_lines c.args.round c.loop-thread.thread (map command_of xs) c.replies-replies.result.now) c.commands-commands.ensures
    ∙ ap (λ (rs : List Reply). string_bytes c.loop-thread.text ++ thread_lines c.args.round c.loop-thread.thread (thread_commands (thread_at c.args.script.now c.args.round c.loop-thread.thread)) rs) c.replies-replies.ensures in
    thread_put c.args.script.now c.args.round c.loop-thread.thread round (get_or round c.loop-thread.thread []) _ _ _
    (omega (arith, c.if-thread-count.false, c.threads-count.ensures))
    (slice_get-get_or round c.loop-thread.thread [] (omega arith))
    lines c.loop-thread.invariant

pub returns : goal.returns
returns c =
    answered_end c.args.round c.loop-thread.thread c.loop-thread.thread _ (get_or c.args.answers.now c.args.round []) _ _ (omega arith) c.loop-thread.invariant
