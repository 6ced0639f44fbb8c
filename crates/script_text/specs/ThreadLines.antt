-- What contracts see of a script.
use Rattle.std.specs.Prelude.{ℕ, List}
use Rattle.script_text.specs.declared.commands.CommandLine.{CommandLine}

-- a thread: the number of the line that it begins with, and its commands with the numbers of theirs
pub record ThreadLines : Type 0 where
  pub line : ℕ
  pub commands : List CommandLine

-- a script: how many names it has, and its rounds, each a list of threads
pub record ScriptLines : Type 0 where
  pub names : ℕ
  pub rounds : List (List ThreadLines)
