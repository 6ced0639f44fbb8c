-- What the program promises of a script's threads on one heap.
use Rattle.std.specs.Prelude.{◌≡◌, ℕ, Bool, true, List, Option, Ok}
use Rattle.std.specs.Io.KnownBytes.{Consumes, Appends, IsAtEnd}
use Rattle.heap_model.specs.declared.Entry.{Entry}
use Rattle.heap_model.specs.declared.Limits.{Limits}
use Rattle.heap_model.specs.declared.Reply.{Reply}
use Rattle.heap_model.specs.State.{State, live}
use Rattle.heap_model.specs.History.{configuration_of}
use Rattle.script_text.specs.Reading.{reading_of}
use Rattle.script_text.specs.Scripts.{commands_of}
use Rattle.script_text.specs.ThreadLines.{ScriptLines}
use Rattle.layout_decode.specs.declared.Image.{Image}
use Rattle.layout_decode.specs.Decode.{decode}
use Rattle.layout_decode.specs.Shows.{Shows}
use Rattle.report_text.specs.Report.{report_of}
use Rattle.report_text.specs.Image.{ranges_of}
use Rattle.thread_rounds.specs.Rounds.{setting_of, IsRun}

-- the state that a history of a run leads to
abbrev pub state_of : Limits → ℕ → List Entry → State
state_of limits seed history = (configuration_of (setting_of limits seed) history).state

-- The headline. The text is a script. Its threads, each with a caller of its own, made the calls of its commands on one heap, all of one round
-- before all of the next, and nothing else stands in the one legal history of that heap. Each call was answered as the plain heap answers there.
-- What is left of the heap shows the state at the end, and decodes to exactly the live blocks. These bytes are the report of the answers and of
-- what is left.
pub record IsHeadline (limits : Limits) (seed : ℕ) (text written : List ℕ) (image : Image) (history : List Entry) : Type 0 where
  pub script : ScriptLines
  pub read : reading_of text ≡ Ok script
  pub answers : List (List (List Reply))
  pub run : IsRun limits seed (commands_of script) answers history
  pub shows : Shows image (setting_of limits seed) (state_of limits seed history)
  pub blocks : decode image ≡ live (state_of limits seed history)
  pub report : written ≡ report_of (commands_of script) answers (ranges_of image) (decode image)

-- At status 0: all that the source had left was read, and what is written is the report, whole and finished.
pub record IsRunReported (limits : Limits) (seed : ℕ) (left now held held_now : Option (List ℕ)) (finished : Bool) (image : Image) (history : List Entry) : Type 0 where
  pub text : List ℕ
  pub read : Consumes left now text
  pub end : IsAtEnd now
  pub written : List ℕ
  pub appends : Appends held held_now written
  pub finished_is : finished ≡ true
  pub headline : IsHeadline limits seed text written image history
