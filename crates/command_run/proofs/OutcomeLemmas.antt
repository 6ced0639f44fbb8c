-- On what is written of a script that was run.
use Rattle.std.proofs.Common.{◌≡◌, List, Result, Ok, Err, IfOk, ap, ◌∙◌}
use Rattle.heap_model.specs.declared.OutOfMemory.{OutOfMemory}
use Rattle.heap_model.specs.declared.Reply.{Reply}
use Rattle.heap_model.specs.Layout.{PageRange, page_ranges_of}
use Rattle.layout_decode.specs.Decode.{decode}
use Rattle.script_text.specs.Scripts.{commands_of}
use Rattle.script_text.specs.ThreadLines.{ScriptLines}
use Rattle.report_text.specs.declared.Text.{Text}
use Rattle.report_text.specs.Image.{ranges_of}
use Rattle.report_text.specs.Report.{report_of}
use Rattle.report_text.specs.Summary.{summary_of}
use Rattle.report_text.specs.Text.{bytes_of}
use Rattle.command_words.specs.declared.setting.Setting.{Setting}
use Rattle.command_words.specs.Settings.{limits_of}
use Rattle.command_run.specs.declared.serving.Outcome.{Outcome}
use Rattle.command_run.specs.Alone.{IsOutcome, IsReportOf, IsSummaryOf}

module _ (setting : Setting) (script : ScriptLines) (outcome : Outcome) (is : IsOutcome (limits_of setting) setting.seed script outcome) where
  -- the text of a report, where there is one
  pub reported : (r : Result Text OutOfMemory) → IfOk r (λ text. bytes_of text ≡ report_of (commands_of script) outcome.answers (ranges_of outcome.image) (decode outcome.image))
      → IfOk r (λ text. IsReportOf setting script (bytes_of text))
  reported (Err e) h = tt
  reported (Ok text) h = (
    is.served,
    h
        ∙ ap (λ (rs : List (List (List Reply))). report_of (commands_of script) rs (ranges_of outcome.image) (decode outcome.image)) is.answers
        ∙ ap (λ (rs : List PageRange). report_of (commands_of script) is.served.answers rs (decode outcome.image)) is.ranges
        ∙ ap (report_of (commands_of script) is.served.answers (page_ranges_of is.served.state.back.area)) is.blocks,
  )

  -- .. of a summary
  pub summed : (r : Result Text OutOfMemory) → IfOk r (λ text. bytes_of text ≡ summary_of (commands_of script) outcome.answers (decode outcome.image))
      → IfOk r (λ text. IsSummaryOf setting script (bytes_of text))
  summed (Err e) h = tt
  summed (Ok text) h = (
    is.served,
    h
        ∙ ap (λ (rs : List (List (List Reply))). summary_of (commands_of script) rs (decode outcome.image)) is.answers
        ∙ ap (summary_of (commands_of script) is.served.answers) is.blocks,
  )
