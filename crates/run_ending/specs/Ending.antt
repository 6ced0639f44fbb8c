-- What a run has to write, and how it ends.
use Rattle.std.specs.Prelude.{◌≡◌, ◌⊎◌, ℕ, ◌<◌, ◌≤◌, Bool, true, List, ◌++◌, length, codes, decimal, Option}
use Rattle.std.specs.Io.KnownBytes.{Consumes, Appends, Keeps, IsAtEnd}
use Rattle.outside_io.specs.Faults.{Rose, Stands, AppendsPart, ConsumesAtMost}
use Rattle.script_text.specs.Causes.{cause_text}
use Rattle.script_text.specs.declared.faults.ScriptFault.{ScriptFault}
use Rattle.report_text.specs.Text.{bytes_of}
use Rattle.run_ending.specs.declared.ending.Due.{Due}
use Rattle.run_ending.specs.declared.ending.Due.TheVariants as dues

---- What was read

-- At most so many bytes are read: one more than a script may have.
abbrev pub ReadsFew : Option (List ℕ) → Option (List ℕ) → Type 0
ReadsFew left now = ConsumesAtMost 1048577 left now

-- These bytes are all that the source had left, or as many of them as are ever read.
pub record Reads (left now : Option (List ℕ)) (text : List ℕ) : Type 0 where
  pub read : Consumes left now text
  pub most : length text ≤ 1048577
  pub end : length text < 1048577 → IsAtEnd now

---- What is due

abbrev pub fault_text_of : ScriptFault → List ℕ
fault_text_of f = codes "line " ++ decimal f.line ++ codes " " ++ cause_text f.cause ++ codes "\n"

abbrev pub text_due : Due → List ℕ
text_due (dues.Report t) = bytes_of t
text_due (dues.Summary t) = bytes_of t
text_due dues.Usage = codes "usage fault\n"
text_due (dues.Refused f) = fault_text_of f
text_due dues.Unread = codes "read fault\n"

abbrev pub status_due : Due → ℕ
status_due (dues.Report t) = 0
status_due (dues.Summary t) = 0
status_due dues.Usage = 2
status_due (dues.Refused f) = 3
status_due dues.Unread = 4

---- What was written

-- What is due was written and finished, and no write failed. Or a part of it was written: a write failed, or the sink wanted memory and none failed.
abbrev pub Writes : Option (List ℕ) → Option (List ℕ) → ℕ → ℕ → Bool → ℕ → List ℕ → ℕ → Type 0
Writes held now faults faults_now finished due text status =
    ((status ≡ due) × Appends held now text × (finished ≡ true) × Stands faults faults_now)
    ⊎ (((status ≡ 5) × Rose faults faults_now × AppendsPart held now text)
    ⊎ ((status ≡ 6) × AppendsPart held now text × Stands faults faults_now))

-- Memory was wanted before it was known what is due: no read failed by then, and the sink was not asked.
pub record IsCutOff (left now : Option (List ℕ)) (faults faults_now : ℕ) (held held_now : Option (List ℕ)) (failed failed_now status : ℕ) : Type 0 where
  pub memory : status ≡ 6
  pub few : ReadsFew left now
  pub no_read_failed : Stands faults faults_now
  pub unwritten : Keeps held held_now
  pub no_write_failed : Stands failed failed_now

-- A run ends with what is due, by what is said of it; or it wants memory before that is known.
abbrev pub EndsBy : (Due → Type 0) → Option (List ℕ) → Option (List ℕ) → ℕ → ℕ → Option (List ℕ) → Option (List ℕ) → ℕ → ℕ → Bool → ℕ → Type 0
EndsBy IsDue left now faults faults_now held held_now failed failed_now finished status =
    ((due : Due) × IsDue due × Writes held held_now failed failed_now finished (status_due due) (text_due due) status)
    ⊎ IsCutOff left now faults faults_now held held_now failed failed_now status

-- this status, or one of a sink that failed or of no memory
abbrev pub OneOf : ℕ → ℕ → Type 0
OneOf due status = (status ≡ due) ⊎ ((status ≡ 5) ⊎ (status ≡ 6))

-- the statuses that there are
abbrev pub IsStatus : ℕ → Type 0
IsStatus status = (status ≡ 0) ⊎ ((status ≡ 2) ⊎ ((status ≡ 3) ⊎ ((status ≡ 4) ⊎ ((status ≡ 5) ⊎ (status ≡ 6)))))
