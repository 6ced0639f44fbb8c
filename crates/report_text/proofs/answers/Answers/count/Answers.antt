use Rattle.std.proofs.Common.{length, ap, arith}
use Rattle.script_text.specs.Marks.{cut_at}
use Rattle.report_text.proofs.AnswerLemmas.{cut_many}
use Rattle.report_text.proofs.answers.Answers.count.Goals as goal

pub returns : goal.returns
returns c =
    let same = ap length c.self.view_is in
    omega (arith, c.len.ensures, same, cut_many c.self.inside.rounds.items (cut_at c.self.inside.threads.items c.self.inside.replies.items))
