-- What a script tells.
use Rattle.std.specs.Prelude.{ℕ, max, ◌≤◌, List, [], ◌∷◌, length, map, fold, slice_get, slice_index_or, Option, None}
use Rattle.std.specs.Option.{option_map, option_or}
use Rattle.script_text.specs.declared.commands.Command.{Command}
use Rattle.script_text.specs.declared.commands.CommandLine.{CommandLine}
use Rattle.script_text.specs.ThreadLines.{ThreadLines, ScriptLines}

abbrev pub command_of : CommandLine → Command
command_of c = c.command

-- the rounds, each a list of threads, each a list of commands
abbrev pub commands_of : ScriptLines → List (List (List Command))
commands_of s = map (λ round. map (λ thread. map command_of thread.commands) round) s.rounds

abbrev pub no_thread : ThreadLines
no_thread = record { line = 0; commands = [] }

abbrev pub round_at : ScriptLines → ℕ → List ThreadLines
round_at s round = slice_index_or s.rounds round []

abbrev pub thread_at : ScriptLines → ℕ → ℕ → ThreadLines
thread_at s round thread = slice_index_or (round_at s round) thread no_thread

-- command number k of a thread, if it has so many
abbrev pub command_at : ScriptLines → ℕ → ℕ → ℕ → Option Command
command_at s round thread k = option_map command_of (slice_get (thread_at s round thread).commands k)

abbrev pub line_of_thread : ThreadLines → ℕ
line_of_thread t = t.line

-- the line of a round's second thread
abbrev pub second_thread : List ThreadLines → Option ℕ
second_thread threads = option_map line_of_thread (slice_get threads 1)

-- the line of the first second thread of a round
abbrev pub first_second : List (List ThreadLines) → Option ℕ
first_second [] = None
first_second (round ∷ rounds) = option_or (second_thread round) (first_second rounds)

-- the most threads of a round
abbrev pub most_threads : List (List ThreadLines) → ℕ
most_threads rounds = fold (λ most round. max most (length round)) 0 rounds

-- a text of at most 1,048,576 bytes has no more rounds, and no more threads in any of them
pub record AreFew (rounds : List (List ThreadLines)) : Type 0 where
  pub in_text : length rounds ≤ 1048576
  pub in_round : (round : ℕ) → length (slice_index_or rounds round []) ≤ 1048576
