-- Rounds whose commands all stand in one list, and their threads in another.
use Rattle.std.specs.Prelude.{ℕ, List, [], ◌∷◌, length}
use Rattle.script_text.specs.declared.commands.CommandLine.{CommandLine}
use Rattle.script_text.specs.declared.rounds.ThreadMark.{ThreadMark}
use Rattle.script_text.specs.Marks.{pieces, own_place, cut_at, AreMarks}
use Rattle.script_text.specs.ThreadLines.{ThreadLines}

-- which command is a thread's first
abbrev pub first_command : ThreadMark → ℕ
first_command m = m.first

abbrev pub marked_thread : ThreadMark → List CommandLine → ThreadLines
marked_thread m commands = record { line = m.line; commands = commands }

abbrev pub threads_by : List ThreadMark → List CommandLine → List ThreadLines
threads_by marks commands = pieces first_command marked_thread marks commands

-- a round's mark tells which thread is its first
abbrev pub rounds_by : List ℕ → List ThreadLines → List (List ThreadLines)
rounds_by marks threads = cut_at marks threads

-- each thread has its part of the commands, and each round its part of the threads
pub record AreFlat (rounds : List ℕ) (threads : List ThreadMark) (commands : List CommandLine) : Type 0 where
  pub of_threads : AreMarks first_command threads (length commands)
  pub of_rounds : AreMarks own_place rounds (length threads)

---- The last round

-- rounds, and a first one with no thread where there is none
abbrev pub some_round : List (List ThreadLines) → List (List ThreadLines)
some_round [] = [] ∷ []
some_round (round ∷ rounds) = round ∷ rounds

abbrev pub last_round : List (List ThreadLines) → List ThreadLines
last_round [] = []
last_round (round ∷ []) = round
last_round (round ∷ next ∷ rounds) = last_round (next ∷ rounds)
