use Rattle.std.proofs.Common.{ℕ, List, [], ◌∷◌, ◌++◌, ◌∙◌, ap, sym, subst, arith}
use Rattle.heap_model.specs.declared.Reply.{Reply}
use Rattle.report_text.specs.Answers.{answers_by, AreFlat}
use Rattle.report_text.proofs.AnswerLemmas.{thread_added, thread_flat, some_rounds}
use Rattle.report_text.proofs.answers.Answers.add_thread.Goals as goal

pub invariant_of-self-2 : goal.invariant_of-self-2
invariant_of-self-2 c =
    let rs = c.self.inside.rounds.items in
    let ts = c.self.inside.threads.items in
    let cs = c.self.inside.replies.items in
    let t = c.len-first.result in
    let marks = c.in_ok-push_mark.ensures.added ∙ ap (λ (xs : List ℕ). xs ++ t ∷ []) c.reserve.ensures.items in
    let flat = thread_flat rs ts cs c.args.replies.items t (omega (arith, c.len-first.ensures)) (some_rounds rs ts cs c.args.self.now c.self.view_is c.requires) c.self.invariant in
    subst (λ (xs : List ℕ). AreFlat rs xs c.put_behind.new.all.items) (sym marks)
    (subst (λ (xs : List Reply). AreFlat rs (ts ++ t ∷ []) xs) (sym c.in_ok-put_behind.ensures.added) flat)

pub returns-clause-added : goal.returns-clause-added
returns-clause-added c = λ front last h.
    let rs = c.self.inside.rounds.items in
    let ts = c.self.inside.threads.items in
    let cs = c.self.inside.replies.items in
    let t = c.len-first.result in
    let marks = c.in_ok-push_mark.ensures.added ∙ ap (λ (xs : List ℕ). xs ++ t ∷ []) c.reserve.ensures.items in
    ap (λ (xs : List ℕ). answers_by rs xs c.put_behind.new.all.items) marks
    ∙ ap (λ (xs : List Reply). answers_by rs (ts ++ t ∷ []) xs) c.in_ok-put_behind.ensures.added
    ∙ thread_added rs ts cs c.args.replies.items t front last (omega (arith, c.len-first.ensures)) c.self.invariant (c.self.view_is ∙ h)
