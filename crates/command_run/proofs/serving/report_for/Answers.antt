use Rattle.std.proofs.Common.{subst}
use Rattle.heap_model.specs.declared.Limits.{Limits}
use Rattle.command_run.specs.Alone.{IsOutcome}
use Rattle.command_run.proofs.OutcomeLemmas.{reported}
use Rattle.command_run.proofs.serving.report_for.Goals as goal

pub returns : goal.returns
returns c =
    let setting = c.args.setting.now in
    let script = c.args.script.now in
    let outcome = c.in_ok-outcome.outcome in
    let is = subst (λ (l : Limits). IsOutcome l setting.seed script outcome) c.limits.ensures c.in_ok-outcome.ensures in
    reported setting script outcome is c.report.result c.report.ensures
