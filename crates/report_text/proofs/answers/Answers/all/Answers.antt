use Rattle.std.proofs.Common.{◌∙◌, ap, sym}
use Rattle.report_text.specs.Answers.{all_replies}
use Rattle.report_text.proofs.AnswerLemmas.{flat_replies}
use Rattle.report_text.proofs.answers.Answers.all.Goals as goal

pub returns : goal.returns
returns c =
    c.as_slice.ensures.value ∙ sym (flat_replies c.self.inside.rounds.items c.self.inside.threads.items c.self.inside.replies.items c.self.invariant) ∙ ap all_replies c.self.view_is
