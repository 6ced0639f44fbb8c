-- A run over a source and a sink in memory, which tell their bytes and are new: no call of theirs has failed, and the sink holds nothing.
use Rattle.std.specs.Prelude.{◌≡◌, ◌⊎◌, ℕ, ◌<◌, Bool, true, List, [], take, drop, codes, Some, Err}
use Rattle.script_text.specs.declared.faults.ScriptFault.{ScriptFault}
use Rattle.command_words.specs.declared.setting.Mode.{Mode}
use Rattle.command_words.specs.declared.setting.Mode.TheVariants.{Run, One, Gen}
use Rattle.command_words.specs.declared.setting.Setting.{Setting}
use Rattle.run_ending.specs.declared.ending.Due.{Due}
use Rattle.command_run.specs.Words.{SetsAlone, SetsNothingAlone}
use Rattle.run_ending.specs.Ending.{fault_text_of, text_due, OneOf, IsStatus}
use Rattle.command_run.specs.Alone.{IsDrawn}
use Rattle.command_run.specs.Due.{script_of, IsReport, IsDue, Ends}

-- All of a text was written and finished, and no call of the sink failed.
pub record IsWhole (text held : List ℕ) (failed_writes : ℕ) (finished : Bool) : Type 0 where
  pub held_is : held ≡ text
  pub none_failed : failed_writes ≡ 0
  pub finished_is : finished ≡ true

-- A front of what is due was written, which may be nothing or all of it.
abbrev pub IsFront : List (List ℕ) → (bytes left : List ℕ) → ℕ → List ℕ → Type 0
IsFront words bytes left failed_reads held = (due : Due) × IsDue words (Some bytes) (Some left) 0 failed_reads due × (n : ℕ) × (held ≡ take n (text_due due))

-- all bytes were read and this is their report, or none were read and this is the summary of the script that is drawn
abbrev pub IsTold : Mode → Setting → (bytes left : List ℕ) → List ℕ → Type 0
IsTold Run setting bytes left text = ⊥
IsTold One setting bytes left text = (left ≡ []) × IsReport setting bytes text
IsTold Gen setting bytes left text = (left ≡ bytes) × IsDrawn setting text

-- What each status says of the bytes of the source, those of them that were not read, how many reads failed, the bytes that the sink holds, how many
-- of its calls failed, and whether it is finished.
pub record OverBytes (words : List (List ℕ)) (bytes left : List ℕ) (failed_reads : ℕ) (held : List ℕ) (failed_writes : ℕ) (finished : Bool) (status : ℕ) : Type 0 where
  pub output : status ≡ 0 → (setting : Setting) × SetsAlone words setting × (failed_reads ≡ 0)
      × (text : List ℕ) × IsTold setting.mode setting bytes left text × IsWhole text held failed_writes finished
  -- nothing was read
  pub usage : status ≡ 2 → SetsNothingAlone words × (failed_reads ≡ 0) × (left ≡ bytes) × IsWhole (codes "usage fault\n") held failed_writes finished
  -- all bytes were read, or as many of them as are ever read
  pub refused : status ≡ 3 → (setting : Setting) × SetsAlone words setting × (setting.mode ≡ One) × (failed_reads ≡ 0) × (left ≡ drop 1048577 bytes)
      × (fault : ScriptFault) × (script_of (take 1048577 bytes) ≡ Err fault) × IsWhole (fault_text_of fault) held failed_writes finished
  pub unread : status ≡ 4 → (setting : Setting) × SetsAlone words setting × (setting.mode ≡ One) × (0 < failed_reads)
      × IsWhole (codes "read fault\n") held failed_writes finished
  pub unwritten : status ≡ 5 → (0 < failed_writes) × IsFront words bytes left failed_reads held
  pub memory : status ≡ 6 → (failed_writes ≡ 0) × ((held ≡ []) ⊎ IsFront words bytes left failed_reads held)
  -- there are no others, and a fault has its own status
  pub statuses : IsStatus status
  pub read_failed : (setting : Setting) → SetsAlone words setting → 0 < failed_reads → OneOf 4 status
  pub write_failed : 0 < failed_writes → status ≡ 5

-- each run over such a source and such a sink
abbrev pub RunsOverBytes : Type 0
RunsOverBytes = (words : List (List ℕ)) (bytes left : List ℕ) (failed_reads : ℕ) (held : List ℕ) (failed_writes : ℕ) (finished : Bool) (status : ℕ) →
    Ends words (Some bytes) (Some left) 0 failed_reads (Some []) (Some held) 0 failed_writes finished status →
    OverBytes words bytes left failed_reads held failed_writes finished status
