use Rattle.std.proofs.Common.{ℕ, ◌+◌, List, length, take, ap, sym, ◌∙◌, arith}
use Rattle.report_text.proofs.TallyLemmas.{thread_counted}
use Rattle.report_text.specs.Commands.{round_commands}
use Rattle.report_text.specs.Summary.{commands_of_round}
use Rattle.script_text.specs.declared.commands.CommandLine.{CommandLine}
use Rattle.script_text.specs.Scripts.{round_at}
use Rattle.report_text.proofs.tally.count_in_round.Goals as goal

pub loop-thread-preserved : goal.loop-thread-preserved
loop-thread-preserved c =
    let more = thread_counted (round_at c.args.script.now c.args.round) c.loop-thread.thread (omega arith) in
    c.in_ok-sum.ensures.1
    ∙ (ap (λ (n : ℕ). n + length c.commands.result.now) c.loop-thread.invariant
    ∙ (ap (λ (xs : List CommandLine). commands_of_round (take c.loop-thread.thread (round_commands (round_at c.args.script.now c.args.round))) + length xs) c.commands.ensures
    ∙ sym more))
