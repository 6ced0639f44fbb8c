use Rattle.std.proofs.Common.{get_or, ◌∙◌}
use Rattle.std.proofs.lemmas.List.{get_or_default}
use Rattle.report_text.proofs.AnswerLemmas.{thread_read}
use Rattle.report_text.proofs.answers.replies_at.Goals as goal

pub part-requires-clause-up : goal.part-requires-clause-up
part-requires-clause-up c =
    let m = get_or c.args.threads.now c.args.at 0 in
    (thread_read c.args.threads.now c.args.replies.now c.args.at m c.end_of.result c.requires.marks.rise c.requires.within (get_or_default c.args.threads.now c.args.at 0 m c.requires.within) c.end_of.ensures).0

pub part-requires-clause-within : goal.part-requires-clause-within
part-requires-clause-within c =
    let m = get_or c.args.threads.now c.args.at 0 in
    (thread_read c.args.threads.now c.args.replies.now c.args.at m c.end_of.result c.requires.marks.rise c.requires.within (get_or_default c.args.threads.now c.args.at 0 m c.requires.within) c.end_of.ensures).1.0

pub returns : goal.returns
returns c =
    let m = get_or c.args.threads.now c.args.at 0 in
    c.part.ensures ∙ (thread_read c.args.threads.now c.args.replies.now c.args.at m c.end_of.result c.requires.marks.rise c.requires.within (get_or_default c.args.threads.now c.args.at 0 m c.requires.within) c.end_of.ensures).1.1
