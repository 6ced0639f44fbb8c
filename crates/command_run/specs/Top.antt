-- What is due in each mode, and how a run of the program ends.
use Rattle.std.specs.Prelude.{◌≡◌, ◌⊎◌, ℕ, Bool, List, Option}
use Rattle.std.specs.Io.KnownBytes.{Keeps}
use Rattle.outside_io.specs.Faults.{Stands}
use Rattle.command_words.specs.declared.setting.Mode.{Mode}
use Rattle.command_words.specs.declared.setting.Mode.TheVariants.{Run, One, Gen}
use Rattle.command_words.specs.declared.setting.Setting.{Setting}
use Rattle.command_words.specs.Settings.{limits_of}
use Rattle.run_ending.specs.declared.ending.Due.{Due}
use Rattle.run_ending.specs.declared.ending.Due.TheVariants as dues
use Rattle.run_ending.specs.Ending.{EndsBy}
use Rattle.mode_run.specs.Due.{IsDueRun}
use Rattle.command_run.specs.Words.{Sets}
use Rattle.command_run.specs.Due.{IsDueBy}

-- The words are valid, and set this in the mode of threads.
pub record SetsThreads (words : List (List ℕ)) (setting : Setting) : Type 0 where
  pub sets : Sets words setting
  pub threads : setting.mode ≡ Run

-- they are not valid
abbrev pub SetsNothing : List (List ℕ) → Type 0
SetsNothing words = (setting : Setting) → Sets words setting → ⊥

-- what is due in a mode: that of threads has its own crate, and the others have one caller
abbrev pub IsDueInMode : Mode → Setting → (left now : Option (List ℕ)) → (faults faults_now : ℕ) → Due → Type 0
IsDueInMode Run setting left now faults faults_now due = IsDueRun (limits_of setting) setting.seed left now faults faults_now due
IsDueInMode One setting left now faults faults_now due = IsDueBy One setting left now faults faults_now due
IsDueInMode Gen setting left now faults faults_now due = IsDueBy Gen setting left now faults faults_now due

-- What is due: by the words first, which are looked at before anything is read, and then by their mode.
abbrev pub IsDueInAny : List (List ℕ) → (left now : Option (List ℕ)) → (faults faults_now : ℕ) → Due → Type 0
IsDueInAny words left now faults faults_now due =
    (SetsNothing words × Keeps left now × Stands faults faults_now × (due ≡ dues.Usage))
    ⊎ ((setting : Setting) × Sets words setting × IsDueInMode setting.mode setting left now faults faults_now due)

-- A run ends with what is due, or wants memory before it is known.
abbrev pub EndsInAny : List (List ℕ) → Option (List ℕ) → Option (List ℕ) → ℕ → ℕ → Option (List ℕ) → Option (List ℕ) → ℕ → ℕ → Bool → ℕ → Type 0
EndsInAny words left now faults faults_now held held_now failed failed_now finished status =
    EndsBy (IsDueInAny words left now faults faults_now) left now faults faults_now held held_now failed failed_now finished status
