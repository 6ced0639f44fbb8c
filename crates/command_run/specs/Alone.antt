-- A script that is run on the heap of one caller, and what is written of it.
use Rattle.std.specs.Prelude.{◌≡◌, ℕ, List}
use Rattle.heap_model.specs.declared.Limits.{Limits}
use Rattle.heap_model.specs.declared.Reply.{Reply}
use Rattle.heap_model.specs.State.{State, live}
use Rattle.heap_model.specs.Layout.{page_ranges_of}
use Rattle.heap_model.specs.Serial.{IsSerial}
use Rattle.layout_decode.specs.Decode.{decode, IsReadable}
use Rattle.script_text.specs.Generator.{generated}
use Rattle.script_text.specs.Scripts.{commands_of}
use Rattle.script_text.specs.ThreadLines.{ScriptLines}
use Rattle.report_text.specs.Image.{ranges_of}
use Rattle.report_text.specs.Report.{report_of}
use Rattle.report_text.specs.Summary.{summary_of}
use Rattle.thread_rounds.specs.Threads.{answered}
use Rattle.command_words.specs.declared.setting.Setting.{Setting}
use Rattle.command_words.specs.Settings.{limits_of}
use Rattle.command_run.specs.declared.serving.Outcome.{Outcome}
use Rattle.command_run.specs.Commands.{unassigned, calls_of, in_rounds}
use Rattle.command_run.specs.Running.{Fit}

-- The replies to a script's commands and the state that they lead to, in a legal history of one caller alone.
pub record ServedAlone (limits : Limits) (seed : ℕ) (script : ScriptLines) : Type 0 where
  pub answers : List (List (List Reply))
  pub state : State
  pub fit : Fit (commands_of script) answers
  pub serial : IsSerial limits seed (calls_of unassigned (answered (in_rounds (commands_of script)) (in_rounds answers))) (in_rounds answers) state

-- It ends in these replies, and in an image of the state.
pub record IsOutcome (limits : Limits) (seed : ℕ) (script : ScriptLines) (outcome : Outcome) : Type 0 where
  pub served : ServedAlone limits seed script
  pub answers : outcome.answers ≡ served.answers
  pub ranges : ranges_of outcome.image ≡ page_ranges_of served.state.back.area
  pub blocks : decode outcome.image ≡ live served.state
  pub readable : IsReadable outcome.image

-- These bytes are the report of a script.
abbrev pub IsReportOf : Setting → ScriptLines → List ℕ → Type 0
IsReportOf setting script written =
    (served : ServedAlone (limits_of setting) setting.seed script)
    × (written ≡ report_of (commands_of script) served.answers (page_ranges_of served.state.back.area) (live served.state))

-- .. the summary of a script
abbrev pub IsSummaryOf : Setting → ScriptLines → List ℕ → Type 0
IsSummaryOf setting script written =
    (served : ServedAlone (limits_of setting) setting.seed script) × (written ≡ summary_of (commands_of script) served.answers (live served.state))

-- .. of the script that a count and a seed give
abbrev pub IsDrawn : Setting → List ℕ → Type 0
IsDrawn setting written = IsSummaryOf setting (generated setting.count setting.seed) written
