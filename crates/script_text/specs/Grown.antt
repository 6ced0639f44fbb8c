-- Rounds with one line more.
use Rattle.std.specs.Prelude.{ℕ, List, [], ◌∷◌, ◌++◌}
use Rattle.script_text.specs.declared.commands.Line.{Line}
use Rattle.script_text.specs.declared.commands.Line.TheVariants as lines
use Rattle.script_text.specs.declared.commands.CommandLine.{CommandLine}
use Rattle.script_text.specs.ThreadLines.{ThreadLines}

-- the last of a list is changed; an empty list has one from then on
abbrev pub change_last : {X : Type 0} → (X → X) → X → List X → List X
change_last f first [] = first ∷ []
change_last f first (x ∷ []) = f x ∷ []
change_last f first (x ∷ y ∷ ys) = x ∷ change_last f first (y ∷ ys)

abbrev pub thread_with : CommandLine → ThreadLines → ThreadLines
thread_with c t = record { line = t.line; commands = t.commands ++ c ∷ [] }

-- a thread that begins with a command
abbrev pub thread_from : CommandLine → ThreadLines
thread_from c = record { line = c.line; commands = c ∷ [] }

-- the threads of a round, with one line more that does not begin a round
abbrev pub round_with : ℕ → Line → List ThreadLines → List ThreadLines
round_with number lines.Round threads = threads
round_with number lines.Thread threads = threads ++ record { line = number; commands = [] } ∷ []
round_with number (lines.Runs command) threads =
    change_last (thread_with (record { line = number; command = command })) (thread_from (record { line = number; command = command })) threads

abbrev pub rounds_with : ℕ → Line → List (List ThreadLines) → List (List ThreadLines)
rounds_with number lines.Round rounds = rounds ++ [] ∷ []
rounds_with number line rounds = change_last (round_with number line) (round_with number line []) rounds
