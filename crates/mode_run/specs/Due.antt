-- What is due in mode `run`.
use Rattle.std.specs.Prelude.{◌≡◌, ℕ, Bool, List, Option, Err}
use Rattle.heap_model.specs.declared.Entry.{Entry}
use Rattle.heap_model.specs.declared.Limits.{Limits}
use Rattle.heap_model.specs.Limits.{AreValid}
use Rattle.layout_decode.specs.declared.Image.{Image}
use Rattle.outside_io.specs.Faults.{Rose, Stands}
use Rattle.report_text.specs.Text.{bytes_of}
use Rattle.script_text.specs.Reading.{reading_of}
use Rattle.script_text.specs.declared.faults.ScriptFault.{ScriptFault}
use Rattle.run_ending.specs.declared.ending.Due.{Due}
use Rattle.run_ending.specs.declared.ending.Due.TheVariants as dues
use Rattle.run_ending.specs.Ending.{Reads, ReadsFew, EndsBy, fault_text_of}
use Rattle.thread_rounds.specs.Headline.{IsHeadline}

-- the limits of a heap that has a caller for each thread that a round may have
pub record AreForThreads (l : Limits) : Type 0 where
  pub valid : AreValid l
  pub callers : l.callers ≡ 64

-- These bytes are the report of the text's threads, which ran on one heap: it has this history, and this is what it left.
abbrev pub IsReport : Limits → ℕ → List ℕ → List ℕ → Type 0
IsReport limits seed text written = (image : Image) × (history : List Entry) × IsHeadline limits seed text written image history

-- What is due for the bytes of a source: by a failed read first, then by the text.
abbrev pub IsDueRun : Limits → ℕ → Option (List ℕ) → Option (List ℕ) → ℕ → ℕ → Due → Type 0
IsDueRun limits seed left now faults faults_now dues.Unread = Rose faults faults_now × ReadsFew left now
IsDueRun limits seed left now faults faults_now (dues.Report t) = Stands faults faults_now × (text : List ℕ) × Reads left now text × IsReport limits seed text (bytes_of t)
IsDueRun limits seed left now faults faults_now (dues.Refused f) = Stands faults faults_now × (text : List ℕ) × Reads left now text × (reading_of text ≡ Err f)
IsDueRun limits seed left now faults faults_now _ = ⊥

-- at status 3: the first fault of what was read
pub record IsRefused (left now : Option (List ℕ)) (faults faults_now : ℕ) (written : List ℕ) : Type 0 where
  pub none_failed : Stands faults faults_now
  pub text : List ℕ
  pub read : Reads left now text
  pub fault : ScriptFault
  pub first : reading_of text ≡ Err fault
  pub line : written ≡ fault_text_of fault

-- A run ends with what is due, or wants memory before it is known.
abbrev pub EndsRun : Limits → ℕ → Option (List ℕ) → Option (List ℕ) → ℕ → ℕ → Option (List ℕ) → Option (List ℕ) → ℕ → ℕ → Bool → ℕ → Type 0
EndsRun limits seed left now faults faults_now held held_now failed failed_now finished status =
    EndsBy (IsDueRun limits seed left now faults faults_now) left now faults faults_now held held_now failed failed_now finished status
