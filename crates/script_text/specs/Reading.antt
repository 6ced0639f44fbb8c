-- The script of a text, or its first fault.
use Rattle.std.specs.Prelude.{◌≡◌, ℕ, ◌+◌, ◌==◌, Bool, true, nat_lt, List, [], ◌∷◌, ◌++◌, length, Option, Some, None, Result, Ok, Err, if◌then◌else◌}
use Rattle.script_text.specs.Lines.{lines_of, fields_of, field}
use Rattle.script_text.specs.Words.{and_then, arguments, word_of, line_of}
use Rattle.script_text.specs.Names.{name_on, names_in, number_on, different}
use Rattle.script_text.specs.Order.{depth, cause_behind}
use Rattle.script_text.specs.Rounds.{rounds_of}
use Rattle.script_text.specs.ThreadLines.{ScriptLines}
use Rattle.script_text.specs.declared.faults.Cause.{Cause}
use Rattle.script_text.specs.declared.faults.Cause.TheVariants as causes
use Rattle.script_text.specs.declared.faults.ScriptFault.{ScriptFault}
use Rattle.script_text.specs.declared.faults.ScriptNo.{ScriptNo}
use Rattle.script_text.specs.declared.faults.ScriptNo.TheVariants as refusals
use Rattle.script_text.specs.declared.commands.Line.{Line}
use Rattle.script_text.specs.declared.commands.NumberedLine.{NumberedLine}
use Rattle.script_text.specs.declared.words.Word.{Word}

---- What a line says

-- no field, or a first one that begins with `#`
abbrev pub is_skipped : List ℕ → Bool
is_skipped [] = true
is_skipped (c ∷ cs) = c == 35

abbrev pub some_line : Line → Result (Option Line) Cause
some_line line = Ok (Some line)

abbrev pub said_by : Option Word → (name count : ℕ) → (first second third : List ℕ) → Result (Option Line) Cause
said_by None name count a b c = Err causes.BadLine
said_by (Some word) name count a b c = if count == arguments word + 1 then and_then (line_of name word a b c) some_line else Err causes.BadLine

abbrev pub said_with : (name count : ℕ) → (word first second third : List ℕ) → Result (Option Line) Cause
said_with name count word a b c = if is_skipped word then Ok None else said_by (word_of word) name count a b c

-- What fields say, nothing where their line is skipped. The number is that of the name among them.
abbrev pub said : ℕ → List (List ℕ) → Result (Option Line) Cause
said name fields = said_with name (length fields) (field 0 fields) (field 1 fields) (field 2 fields) (field 3 fields)

-- what a line says in a text with these names
abbrev pub said_on : List (List ℕ) → List ℕ → Result (Option Line) Cause
said_on names line = said (number_on names (name_on (fields_of line))) (fields_of line)

---- Line after line

abbrev pub placed : Option Cause → List NumberedLine → ℕ → Line → Result (List NumberedLine) ScriptFault
placed None before number line = Ok (before ++ record { number = number; line = line } ∷ [])
placed (Some cause) before number line = Err (record { line = number; cause = cause })

-- what is said on a line, put behind the lines before
abbrev pub noted : List NumberedLine → ℕ → Result (Option Line) Cause → Result (List NumberedLine) ScriptFault
noted before number (Err cause) = Err (record { line = number; cause = cause })
noted before number (Ok None) = Ok before
noted before number (Ok (Some line)) = placed (cause_behind before line) before number line

-- the end of a text behind its lines
abbrev pub ended : List NumberedLine → ℕ → Result (List NumberedLine) ScriptFault
ended before number = if depth before == 0 then Ok before else Err (record { line = number; cause = causes.Unbalanced })

abbrev pub and_read : Result (List NumberedLine) ScriptFault → (List NumberedLine → Result (List NumberedLine) ScriptFault) → Result (List NumberedLine) ScriptFault
and_read (Ok before) f = f before
and_read (Err fault) f = Err fault

-- The lines of a text with these names, or the first fault; the first of them has this number and stands behind others.
abbrev pub lines_from : List (List ℕ) → List NumberedLine → ℕ → List (List ℕ) → Result (List NumberedLine) ScriptFault
lines_from names before number [] = ended before number
lines_from names before number (line ∷ lines) =
    and_read (noted before number (said_on names line)) (λ more. lines_from names more (number + 1) lines)

abbrev pub script_of : ℕ → Result (List NumberedLine) ScriptFault → Result ScriptLines ScriptFault
script_of names (Ok lines) = Ok (record { names = names; rounds = rounds_of lines })
script_of names (Err fault) = Err fault

-- the lines of a text that are not skipped, or its first fault
abbrev pub lines_read : List ℕ → Result (List NumberedLine) ScriptFault
lines_read text = lines_from (names_in (lines_of text)) [] 1 (lines_of text)

-- A text's script or its first fault.
unfoldable pub reading_of : List ℕ → Result ScriptLines ScriptFault
reading_of text =
    if nat_lt 1048576 (length text) then Err (record { line = 0; cause = causes.TooLong })
    else script_of (different (names_in (lines_of text))) (lines_read text)

-- A refusal tells the fault, unless memory ran out.
abbrev pub IsRefusedAs : {A : Type 0} → Result A ScriptFault → ScriptNo → Type 0
IsRefusedAs reading (refusals.Fault fault) = reading ≡ Err fault
IsRefusedAs reading refusals.OutOfMemory = Unit {0}

-- a refusal tells the cause on a line, unless memory ran out
abbrev pub IsUnsaid : ℕ → Result (Option Line) Cause → ScriptNo → Type 0
IsUnsaid number on_line (refusals.Fault fault) = (fault.line ≡ number) × (on_line ≡ Err fault.cause)
IsUnsaid number on_line refusals.OutOfMemory = Unit {0}
