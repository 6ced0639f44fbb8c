use Rattle.std.proofs.Common.{◌≡◌, ◌+◌, ◌++◌, ◌∷◌, [], List, take, subst, sym, ap, ◌∙◌}
use Rattle.heap_model.specs.declared.Reply.{Reply}
use Rattle.script_text.specs.declared.commands.Command.{Command}
use Rattle.script_text.specs.Scripts.{round_at, commands_of}
use Rattle.command_run.specs.Values.{value_at}
use Rattle.command_run.specs.Commands.{unassigned, round_commands, in_threads, in_rounds}
use Rattle.script_laws.specs.Printable.{AreBalanced}
use Rattle.command_run.specs.Running.{Runs, RoundRuns, Fit}
use Rattle.command_run.proofs.RunLemmas.{runs_append}
use Rattle.command_run.proofs.ServedLemmas.{mapped_at}
use Rattle.command_run.proofs.FitLemmas.{take_mapped, fit_round, rounds_more}
use Rattle.command_run.proofs.running.run_rounds.Goals as goal

pub run_threads-requires-clause-balanced : goal.run_threads-requires-clause-balanced
run_threads-requires-clause-balanced c =
    let s = c.args.script.now in
    let low = rw c.rounds-round-end.ensures at c.loop-round-test.true in
    mapped_at AreBalanced round_commands s.rounds c.loop-round.round [] c.requires.balanced low

pub loop-round-preserved : goal.loop-round-preserved
loop-round-preserved c =
    let s = c.args.script.now in
    let i = c.loop-round.round in
    let before = take i (commands_of s) in
    let threads : List (List Command) = round_commands (round_at s i) in
    let answers = c.loop-round.answers in
    let low = rw c.rounds-round-end.ensures at c.loop-round-test.true in
    let more : take (i + 1) (commands_of s) ≡ before ++ threads ∷ [] = take_mapped round_commands s.rounds i [] low in
    let x : RoundRuns answers c.run_threads.new.answers c.loop-round.heap c.run_threads.new.heap (value_at c.loop-round.values) (value_at c.run_threads.new.values) threads =
    c.in_ok-run_threads.ensures.runs answers c.in_ok-add_round.ensures.added in
    record {
      free = c.in_ok-run_threads.ensures.free;
      fit = subst (λ (ts : List (List (List Command))). Fit ts c.run_threads.new.answers) (sym more)
          (subst (λ (bs : List (List (List Reply))). Fit (before ++ threads ∷ []) bs) (sym x.answers_are) (fit_round before answers threads x.last c.loop-round.invariant.fit x.fit));
      runs =
          subst (λ (ks : List Command). Runs c.args.heap.now c.run_threads.new.heap unassigned (value_at c.run_threads.new.values) ks (in_rounds c.run_threads.new.answers)) (sym (ap in_rounds more ∙ rounds_more before threads))
          (subst (λ (ks : List Reply). Runs c.args.heap.now c.run_threads.new.heap unassigned (value_at c.run_threads.new.values) (in_rounds before ++ in_threads threads) ks) (sym (ap in_rounds x.answers_are ∙ rounds_more answers x.last))
          (runs_append c.args.heap.now c.loop-round.heap c.run_threads.new.heap unassigned (value_at c.loop-round.values) (value_at c.run_threads.new.values)
          (in_rounds before) (in_threads threads) (in_rounds answers) (in_threads x.last) c.loop-round.invariant.runs x.runs));
    }
