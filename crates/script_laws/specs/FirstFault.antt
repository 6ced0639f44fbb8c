-- The first fault of lines, told line by line.
use Rattle.std.specs.Prelude.{◌≡◌, ◌≢◌, ◌⊎◌, ℕ, ◌+◌, ◌<◌, ◌≤◌, List, [], ◌∷◌, ◌++◌, length, take, slice_index_or, Option, Some, None, Result, Ok, Err}
use Rattle.script_text.specs.declared.faults.Cause.{Cause}
use Rattle.script_text.specs.declared.faults.Cause.TheVariants as causes
use Rattle.script_text.specs.declared.faults.ScriptFault.{ScriptFault}
use Rattle.script_text.specs.declared.commands.Line.{Line}
use Rattle.script_text.specs.declared.commands.NumberedLine.{NumberedLine}
use Rattle.script_text.specs.Order.{depth, cause_behind}
use Rattle.script_text.specs.Lines.{lines_of}
use Rattle.script_text.specs.Names.{names_in, different}
use Rattle.script_text.specs.Rounds.{rounds_of}
use Rattle.script_text.specs.ThreadLines.{ScriptLines}
use Rattle.script_text.specs.Reading.{said_on}

abbrev pub said_line : ℕ → Result (Option Line) Cause → List NumberedLine
said_line number (Ok (Some line)) = record { number = number; line = line } ∷ []
said_line number (Ok None) = []
said_line number (Err cause) = []

-- what lines say, without those that are skipped; the first line has this number
abbrev pub said_lines : List (List ℕ) → ℕ → List (List ℕ) → List NumberedLine
said_lines names number [] = []
said_lines names number (line ∷ lines) = said_line number (said_on names line) ++ said_lines names (number + 1) lines

-- why what is said may not stand behind these lines
abbrev pub cause_said : List NumberedLine → Result (Option Line) Cause → Option Cause
cause_said before (Err cause) = Some cause
cause_said before (Ok None) = None
cause_said before (Ok (Some line)) = cause_behind before line

-- the cause on the line of this place, from 0, behind all lines before it
abbrev pub cause_on : List (List ℕ) → List (List ℕ) → ℕ → Option Cause
cause_on names lines place = cause_said (said_lines names 1 (take place lines)) (said_on names (slice_index_or lines place []))

-- a cause on a line, or at the end
abbrev pub IsCauseAt : List (List ℕ) → List (List ℕ) → ℕ → Cause → Type 0
IsCauseAt names lines place cause =
    ((place < length lines) × (cause_on names lines place ≡ Some cause))
    ⊎ ((place ≡ length lines) × (cause ≡ causes.Unbalanced) × (depth (said_lines names 1 lines) ≢ 0))

pub record IsFirstFault (names lines : List (List ℕ)) (fault : ScriptFault) : Type 0 where
  pub place : ℕ
  pub number : fault.line ≡ place + 1
  pub earlier : (k : ℕ) → k < place → cause_on names lines k ≡ None
  pub here : IsCauseAt names lines place fault.cause

pub record IsFaultless (names lines : List (List ℕ)) (read : List NumberedLine) : Type 0 where
  pub told : read ≡ said_lines names 1 lines
  pub none : (k : ℕ) → k < length lines → cause_on names lines k ≡ None
  pub ended : depth read ≡ 0

---- Texts

-- the fault of a text: its length, or the first fault of its lines
abbrev pub IsFaultOf : List ℕ → ScriptFault → Type 0
IsFaultOf text fault =
    ((1048576 < length text) × (fault ≡ record { line = 0; cause = causes.TooLong }))
    ⊎ ((length text ≤ 1048576) × IsFirstFault (names_in (lines_of text)) (lines_of text) fault)

-- the script of a text that is not too long and has no fault on any line nor at its end
pub record IsScriptOf (text : List ℕ) (script : ScriptLines) : Type 0 where
  pub short : length text ≤ 1048576
  pub none : (k : ℕ) → k < length (lines_of text) → cause_on (names_in (lines_of text)) (lines_of text) k ≡ None
  pub ended : depth (said_lines (names_in (lines_of text)) 1 (lines_of text)) ≡ 0
  pub names : script.names ≡ different (names_in (lines_of text))
  pub rounds : script.rounds ≡ rounds_of (said_lines (names_in (lines_of text)) 1 (lines_of text))
