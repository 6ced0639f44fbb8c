use Rattle.std.proofs.Common.{subst, sym}
use Rattle.std.specs.List.{AllByRecursion}
use Rattle.script_laws.specs.Printable.{AreBalanced}
use Rattle.heap_model.specs.declared.Limits.{Limits}
use Rattle.script_text.specs.Generator.{generated}
use Rattle.script_text.specs.Scripts.{commands_of}
use Rattle.script_text.specs.ThreadLines.{ScriptLines}
use Rattle.report_text.specs.Text.{bytes_of}
use Rattle.command_run.specs.Alone.{IsOutcome, IsSummaryOf}
use Rattle.command_run.proofs.DrawnLemmas.{drawn_balanced}
use Rattle.command_run.proofs.OutcomeLemmas.{summed}
use Rattle.command_run.proofs.serving.summary_for.Goals as goal

pub serve_script-requires-clause-balanced : goal.serve_script-requires-clause-balanced
serve_script-requires-clause-balanced c =
    let setting = c.args.setting.now in
    subst (λ (s : ScriptLines). AllByRecursion AreBalanced (commands_of s)) (sym c.in_ok-script.ensures) (drawn_balanced setting.count setting.seed)

pub returns : goal.returns
returns c =
    let setting = c.args.setting.now in
    let outcome = c.in_ok-outcome.outcome in
    let is = subst (λ (l : Limits). IsOutcome l setting.seed c.in_ok-script.script outcome) c.limits.ensures c.in_ok-outcome.ensures in
    let written = summed setting c.in_ok-script.script outcome is c.summary.result c.summary.ensures in
    rw (← c.in_ok-script.ensures) written
