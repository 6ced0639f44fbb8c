use Rattle.std.proofs.Common.{length, map, sym}
use Rattle.std.proofs.lemmas.Bool.{ltb-false}
use Rattle.std.proofs.lemmas.Option.{slice_get-get_or}
use Rattle.script_text.specs.Scripts.{command_of}
use Rattle.report_text.proofs.ReplyLemmas.{command_got, no_command, reply_put, commands_end}
use Rattle.report_text.proofs.replies.push_thread.Goals as goal

pub returns-in_default : goal.returns-in_default
returns-in_default c =
    commands_end c.args.round c.args.thread c.loop-reply.k c.loop-reply.reply-index (map command_of c.args.commands.now) c.args.replies.now _ _
    (no_command c.args.commands.now c.loop-reply.k (ltb-false c.loop-reply.k (length c.args.commands.now) (sym c.in_default.ensures.lookup.0))) c.loop-reply.invariant

pub loop-reply-preserved : goal.loop-reply-preserved
loop-reply-preserved c =
    reply_put c.args.round c.args.thread c.loop-reply.k c.loop-reply.reply-index c.number_after-k.result (map command_of c.args.commands.now) c.args.replies.now c.in-Some.line.now.command _ _ _ _
    (command_got c.args.commands.now c.loop-reply.k c.in-Some.line.now c.in-Some.ensures.lookup.3.0 c.in-Some.ensures.lookup.1)
    (slice_get-get_or c.args.replies.now c.loop-reply.reply-index _ c.loop-reply-test.true)
    c.number_after-k.ensures c.in_ok-push_line.ensures c.loop-reply.invariant
