use Rattle.std.proofs.Common.{ℕ, List, [], ◌∷◌, ◌++◌, ◌∙◌, ap, sym, subst, arith}
use Rattle.heap_model.specs.declared.Reply.{Reply}
use Rattle.report_text.specs.Answers.{answers_by, AreFlat}
use Rattle.report_text.proofs.AnswerLemmas.{round_opened, round_flat}
use Rattle.report_text.proofs.answers.Answers.add_round.Goals as goal

pub returns-clause-added : goal.returns-clause-added
returns-clause-added c =
    let ts = c.self.inside.threads.items in
    let cs = c.self.inside.replies.items in
    ap (λ (rs : List ℕ). answers_by rs ts cs) c.in_ok-push_mark.ensures.added
    ∙ round_opened c.self.inside.rounds.items ts cs c.len-first.result (omega (arith, c.len-first.ensures))
    ∙ ap (λ (answers : List (List (List Reply))). answers ++ [] ∷ []) c.self.view_is

pub invariant_of-self-2 : goal.invariant_of-self-2
invariant_of-self-2 c =
    let ts = c.self.inside.threads.items in
    let cs = c.self.inside.replies.items in
    subst (λ (rs : List ℕ). AreFlat rs ts cs) (sym c.in_ok-push_mark.ensures.added) (round_flat c.self.inside.rounds.items ts cs c.len-first.result (omega (arith, c.len-first.ensures)) c.self.invariant)
