use Rattle.std.proofs.Common.{◌∙◌, length, subst, arith, List}
use Rattle.script_text.specs.declared.commands.Command.{Command}
use Rattle.script_text.specs.Scripts.{commands_of}
use Rattle.round_runs.specs.Turns.{threads_of, HaveRun}
use Rattle.round_runs.proofs.Callers.{first_abreast, first_told, first_free}
use Rattle.round_runs.proofs.Going.{first_run, balanced_at, few_at, take_all, map_length}
use Rattle.round_runs.proofs.rounds.play_all.Goals as goal

pub loop-round-init : goal.loop-round-init
loop-round-init g c =
    let h = c.args.heap.now in
    let ws = c.args.workers.now in
    let ws' = c.meet_all.new.workers in
    let x = c.meet_all.ensures in (
      first_free h c.requires.made.0 ws ws' c.requires.made.1 x.many x.each x.met,
      x.many,
      λ root made. first_run h.opening root.roll ws' c.new-answers.result c.new-answers.ensures (first_abreast h root ws ws' made x.many x.each x.met) (first_told h root ws ws' made x.many x.each x.met),
    )

pub play_and_note-requires-clause-balanced : goal.play_and_note-requires-clause-balanced
play_and_note-requires-clause-balanced g c = λ _ _.
    balanced_at c.args.script.now.rounds c.loop-round.round (omega (arith, c.loop-round-test.true, c.rounds-round-end.ensures)) c.requires.balanced

pub play_and_note-requires-clause-few : goal.play_and_note-requires-clause-few
play_and_note-requires-clause-few g c = λ _ _.
    let many = c.loop-round.invariant.1 in
    few_at c.args.script.now.rounds c.loop-round.round (length c.loop-round.workers) (omega (arith, c.loop-round-test.true, c.rounds-round-end.ensures)) (omega (arith, many, c.requires.few))

pub loop-round-preserved : goal.loop-round-preserved
loop-round-preserved g c =
    let x = c.loop-round.invariant in
    let y = c.in_ok-play_and_note.ensures in (
      y.free,
      y.many ∙ x.1,
      λ root made. let m = made.all in let n = x.1 in y.run root.roll (omega (arith, m, n)) (x.2 root made),
    )

pub returns-clause-run : goal.returns-clause-run
returns-clause-run g c = λ root made.
    let s = c.args.script.now in
    let e = map_length threads_of s.rounds in
    subst (λ (cs : List (List (List Command))). HaveRun c.args.heap.now.opening root.roll c.loop-round.workers cs c.loop-round.answers)
    (take_all (commands_of s) c.loop-round.round (omega (arith, e, c.loop-round-test.false, c.rounds-round-end.ensures))) (c.loop-round.invariant.2 root made)
