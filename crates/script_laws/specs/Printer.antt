-- The text of a script: its rounds, their threads and their commands, each on a line of its own.
use Rattle.std.specs.Prelude.{ℕ, true, false, List, [], ◌∷◌, ◌++◌, map, flat_map, codes, decimal}
use Rattle.script_text.specs.declared.commands.Target.{Target}
use Rattle.script_text.specs.declared.commands.Target.TheVariants as targets
use Rattle.script_text.specs.declared.commands.Command.{Command}
use Rattle.script_text.specs.declared.commands.Command.TheVariants as commands
use Rattle.script_text.specs.declared.commands.Line.{Line}
use Rattle.script_text.specs.declared.commands.Line.TheVariants as lines

---- Lines

abbrev pub target_text : (names : ℕ → List ℕ) → Target → List ℕ
target_text names (targets.Name name) = names name
target_text names (targets.Addr address) = codes "@" ++ decimal address

abbrev pub line_word : Line → List ℕ
line_word lines.Round = codes "round"
line_word lines.Thread = codes "thread"
line_word (lines.Runs commands.Lock) = codes "lock"
line_word (lines.Runs commands.Unlock) = codes "unlock"
line_word (lines.Runs commands.Walk) = codes "walk"
line_word (lines.Runs commands.Compact) = codes "compact"
line_word (lines.Runs (commands.Alloc name n false)) = codes "alloc"
line_word (lines.Runs (commands.Alloc name n true)) = codes "zalloc"
line_word (lines.Runs (commands.Realloc target n false)) = codes "realloc"
line_word (lines.Runs (commands.Realloc target n true)) = codes "inplace"
line_word (lines.Runs (commands.Free target)) = codes "free"
line_word (lines.Runs (commands.Size target)) = codes "size"
line_word (lines.Runs (commands.Get target index)) = codes "get"
line_word (lines.Runs (commands.Put target index value)) = codes "put"

-- the fields behind the word of a line
abbrev pub line_arguments : (names : ℕ → List ℕ) → Line → List (List ℕ)
line_arguments names (lines.Runs (commands.Alloc name n zero)) = names name ∷ decimal n ∷ []
line_arguments names (lines.Runs (commands.Realloc target n in_place)) = target_text names target ∷ decimal n ∷ []
line_arguments names (lines.Runs (commands.Free target)) = target_text names target ∷ []
line_arguments names (lines.Runs (commands.Size target)) = target_text names target ∷ []
line_arguments names (lines.Runs (commands.Get target index)) = target_text names target ∷ decimal index ∷ []
line_arguments names (lines.Runs (commands.Put target index value)) = target_text names target ∷ decimal index ∷ decimal value ∷ []
line_arguments names _ = []

abbrev pub spaced : List ℕ → List ℕ
spaced field = codes " " ++ field

-- a line without its line feed
abbrev pub line_text : (names : ℕ → List ℕ) → Line → List ℕ
line_text names line = line_word line ++ flat_map spaced (line_arguments names line)

abbrev pub ended_line : (names : ℕ → List ℕ) → Line → List ℕ
ended_line names line = line_text names line ++ codes "\n"

---- Scripts

abbrev pub thread_lines : List Command → List Line
thread_lines commands = lines.Thread ∷ map lines.Runs commands

abbrev pub round_lines : List (List Command) → List Line
round_lines threads = lines.Round ∷ flat_map thread_lines threads

-- a script's text, where each number of a name has its name
abbrev pub printed : (names : ℕ → List ℕ) → List (List (List Command)) → List ℕ
printed names rounds = flat_map (ended_line names) (flat_map round_lines rounds)
