use Rattle.std.proofs.Common.{[], get_or, arith}
use Rattle.std.proofs.lemmas.Option.{slice_get-get_or}
use Rattle.report_text.proofs.ReplyLemmas.{round_put, answers_end}
use Rattle.report_text.proofs.replies.push_rounds.Goals as goal

pub loop-round-preserved : goal.loop-round-preserved
loop-round-preserved c =
    let within = c.count-round-end.ensures in
    round_put c.args.script.now c.loop-round.round c.args.answers.now (get_or c.args.answers.now c.loop-round.round []) _ _ _
    (omega (arith, c.if-round-count.false, c.rounds-count.ensures))
    (slice_get-get_or c.args.answers.now c.loop-round.round [] (omega arith))
    c.in_ok-push_threads.ensures c.loop-round.invariant

pub returns : goal.returns
returns c =
    answers_end c.loop-round.round c.loop-round.round _ c.args.answers.now _ _ (omega arith) c.loop-round.invariant
