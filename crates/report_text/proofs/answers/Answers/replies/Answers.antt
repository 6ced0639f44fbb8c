use Rattle.std.proofs.Common.{◌+◌, ◌∙◌, ℕ, List, [], get_or, length, ap, sym, arith}
use Rattle.heap_model.specs.declared.Reply.{Reply}
use Rattle.script_text.specs.Marks.{cut_at}
use Rattle.report_text.proofs.AnswerLemmas.{round_within, thread_found}
use Rattle.report_text.proofs.answers.Answers.replies.Goals as goal

pub index-requires : goal.index-requires
index-requires c =
    let within = round_within c.self.inside.rounds.items c.self.inside.threads.items c.self.inside.replies.items c.args.self.now c.args.round c.self.view_is c.requires.round in
    omega (arith, within)

pub overflow_add-at : goal.overflow_add-at
overflow_add-at c =
    let h = (thread_found c.self.inside.rounds.items c.self.inside.threads.items c.self.inside.replies.items c.args.self.now c.args.round c.args.thread c.index.result.now c.self.invariant c.self.view_is c.requires.round c.index.ensures c.requires.thread).0 in
    omega (arith, h, ap length c.as_slice-threads.ensures.value)

pub replies_at-requires-clause-within : goal.replies_at-requires-clause-within
replies_at-requires-clause-within c =
    let h = (thread_found c.self.inside.rounds.items c.self.inside.threads.items c.self.inside.replies.items c.args.self.now c.args.round c.args.thread c.index.result.now c.self.invariant c.self.view_is c.requires.round c.index.ensures c.requires.thread).0 in
    omega (arith, h, ap length c.as_slice-threads.ensures.value)

pub returns : goal.returns
returns c =
    let at = c.index.result.now + c.args.thread in
    let h = (thread_found c.self.inside.rounds.items c.self.inside.threads.items c.self.inside.replies.items c.args.self.now c.args.round c.args.thread c.index.result.now c.self.invariant c.self.view_is c.requires.round c.index.ensures c.requires.thread).1 in
    c.replies_at.ensures
    ∙ ap (λ (ts : List ℕ). get_or (cut_at ts c.as_slice.result.now) at []) c.as_slice-threads.ensures.value
    ∙ ap (λ (cs : List Reply). get_or (cut_at c.self.inside.threads.items cs) at []) c.as_slice.ensures.value
    ∙ sym h
