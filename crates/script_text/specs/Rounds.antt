-- Lines as rounds, threads and commands.
use Rattle.std.specs.Prelude.{ℕ, List, [], ◌∷◌, map, Option, Some, None, if◌then◌else◌}
use Rattle.std.specs.List.{filter_map}
use Rattle.script_text.specs.Pieces.{cut_before}
use Rattle.script_text.specs.Order.{is_round, is_thread}
use Rattle.script_text.specs.declared.commands.Line.{Line}
use Rattle.script_text.specs.declared.commands.Line.TheVariants as lines
use Rattle.script_text.specs.declared.commands.NumberedLine.{NumberedLine}
use Rattle.script_text.specs.declared.commands.CommandLine.{CommandLine}
use Rattle.script_text.specs.ThreadLines.{ThreadLines}

abbrev pub command_on : ℕ → Line → Option CommandLine
command_on number (lines.Runs command) = Some (record { line = number; command = command })
command_on number _ = None

abbrev pub command_line : NumberedLine → Option CommandLine
command_line l = command_on l.number l.line

abbrev pub first_number : List NumberedLine → ℕ
first_number [] = 0
first_number (l ∷ ls) = l.number

-- a thread: its commands, and the line that it begins with
abbrev pub thread_of : List NumberedLine → ThreadLines
thread_of ls = record { line = first_number ls; commands = filter_map command_line ls }

-- the lines of a round without its `round`
abbrev pub inside_round : List NumberedLine → List NumberedLine
inside_round [] = []
inside_round (l ∷ ls) = if is_round l then ls else l ∷ ls

-- A round's threads begin at its `thread` lines. Commands before the first one are a thread of their own.
abbrev pub threads_of : List NumberedLine → List ThreadLines
threads_of ls = map thread_of (cut_before is_thread (inside_round ls))

-- Rounds begin at `round` lines. What stands before the first one is a round of its own.
abbrev pub rounds_of : List NumberedLine → List (List ThreadLines)
rounds_of ls = map threads_of (cut_before is_round ls)
