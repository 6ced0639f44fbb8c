use Rattle.std.proofs.Common.{ℕ, ◌+◌, take, ap, sym, ◌∙◌, arith}
use Rattle.script_text.specs.Scripts.{commands_of}
use Rattle.report_text.specs.Summary.{commands_in}
use Rattle.report_text.proofs.TallyLemmas.{round_counted}
use Rattle.report_text.proofs.tally.count_commands.Goals as goal

pub loop-round-preserved : goal.loop-round-preserved
loop-round-preserved c =
    let more = round_counted c.args.script.now c.loop-round.round (omega arith) in
    c.in_ok-sum.ensures.1
    ∙ (ap (λ (n : ℕ). n + c.in_ok-count_in_round.field-0) c.loop-round.invariant
    ∙ (ap (λ (n : ℕ). commands_in (take c.loop-round.round (commands_of c.args.script.now)) + n) c.in_ok-count_in_round.ensures
    ∙ sym more))
