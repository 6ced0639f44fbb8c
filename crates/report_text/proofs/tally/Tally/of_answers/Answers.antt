use Rattle.std.proofs.Common.{◌≡◌, List, refl, ◌∙◌}
use Rattle.heap_model.specs.declared.Reply.{Reply}
use Rattle.report_text.specs.Answers.{all_replies}
use Rattle.report_text.specs.Summary.{is_no_fit, is_not_live, is_past}
use Rattle.report_text.specs.Tally.{tally_of_replies, tally_of}
use Rattle.report_text.proofs.AnswerLemmas.{count_all}
use Rattle.report_text.proofs.tally.Tally.of_answers.Goals as goal

counted : (answers : List (List (List Reply))) (all : List Reply) → all ≡ all_replies answers → tally_of_replies all ≡ tally_of answers
counted answers all e = rw (e, count_all is_no_fit answers, count_all is_not_live answers, count_all is_past answers) refl

pub returns : goal.returns
returns c = c.of_replies.ensures ∙ counted c.args.answers.now c.all.result.now c.all.ensures
