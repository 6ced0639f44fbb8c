use Rattle.std.proofs.Common.{ℕ, ◌+◌, List, length, drop, ap, ◌∙◌, arith}
use Rattle.script_text.specs.Marks.{first_mark, own_place}
use Rattle.report_text.proofs.AnswerLemmas.{round_within, round_found}
use Rattle.report_text.proofs.answers.Answers.threads.Goals as goal

pub end_of-end-requires : goal.end_of-end-requires
end_of-end-requires c =
    let within = round_within c.self.inside.rounds.items c.self.inside.threads.items c.self.inside.replies.items c.args.self.now c.args.round c.self.view_is c.requires in
    omega (arith, within, ap length c.as_slice.ensures.value)

pub index-requires : goal.index-requires
index-requires c =
    let within = round_within c.self.inside.rounds.items c.self.inside.threads.items c.self.inside.replies.items c.args.self.now c.args.round c.self.view_is c.requires in
    omega (arith, within)

pub overflow_sub-result : goal.overflow_sub-result
overflow_sub-result c =
    let end = c.end_of-end.ensures
    ∙ ap (λ (ms : List ℕ). first_mark own_place (drop (c.args.round + 1) ms) c.len.result) c.as_slice.ensures.value
    ∙ ap (first_mark own_place (drop (c.args.round + 1) c.self.inside.rounds.items)) (omega (arith, c.len.ensures)) in
    (round_found c.self.inside.rounds.items c.self.inside.threads.items c.self.inside.replies.items c.args.self.now c.args.round c.index.result.now c.end_of-end.result c.self.invariant c.self.view_is c.requires c.index.ensures end).0

pub returns : goal.returns
returns c =
    let end = c.end_of-end.ensures
    ∙ ap (λ (ms : List ℕ). first_mark own_place (drop (c.args.round + 1) ms) c.len.result) c.as_slice.ensures.value
    ∙ ap (first_mark own_place (drop (c.args.round + 1) c.self.inside.rounds.items)) (omega (arith, c.len.ensures)) in
    (round_found c.self.inside.rounds.items c.self.inside.threads.items c.self.inside.replies.items c.args.self.now c.args.round c.index.result.now c.end_of-end.result c.self.invariant c.self.view_is c.requires c.index.ensures end).1
