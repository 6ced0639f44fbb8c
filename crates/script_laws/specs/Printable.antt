-- The scripts that can be printed.
use Rattle.std.specs.Prelude.{◌≡◌, ℕ, ◌+◌, ◌-◌, ◌^◌, ◌<◌, ◌≤◌, max, true, List, [], ◌∷◌, length, flat_map, count_by, Ok}
use Rattle.std.specs.List.{AllByRecursion}
use Rattle.script_text.specs.declared.commands.Target.{Target}
use Rattle.script_text.specs.declared.commands.Target.TheVariants as targets
use Rattle.script_text.specs.declared.commands.Command.{Command}
use Rattle.script_text.specs.declared.commands.Command.TheVariants as commands
use Rattle.script_text.specs.declared.commands.Line.TheVariants as lines
use Rattle.script_text.specs.Lines.{lines_of}
use Rattle.script_text.specs.Words.{is_name}
use Rattle.script_text.specs.Names.{names_in, number_of_name}
use Rattle.script_text.specs.Order.{says_walk}
use Rattle.script_text.specs.Reading.{reading_of}
use Rattle.script_text.specs.Scripts.{commands_of}
use Rattle.script_text.specs.ThreadLines.{ScriptLines}
use Rattle.script_laws.specs.Printer.{printed}

---- Commands

abbrev pub name_in_target : Target → List ℕ
name_in_target (targets.Name name) = name ∷ []
name_in_target (targets.Addr address) = []

-- the number of a command's name, if it has one
abbrev pub name_in : Command → List ℕ
name_in (commands.Alloc name n zero) = name ∷ []
name_in (commands.Realloc target n in_place) = name_in_target target
name_in (commands.Free target) = name_in_target target
name_in (commands.Size target) = name_in_target target
name_in (commands.Get target index) = name_in_target target
name_in (commands.Put target index value) = name_in_target target
name_in _ = []

abbrev pub Is64Bits : ℕ → Type 0
Is64Bits n = n < 2 ^ 64

-- each address, size, index and value has 64 bits
abbrev pub TargetFits : Target → Type 0
TargetFits (targets.Name name) = Unit {0}
TargetFits (targets.Addr address) = Is64Bits address

abbrev pub Fits : Command → Type 0
Fits (commands.Alloc name n zero) = Is64Bits n
Fits (commands.Realloc target n in_place) = TargetFits target × Is64Bits n
Fits (commands.Free target) = TargetFits target
Fits (commands.Size target) = TargetFits target
Fits (commands.Get target index) = TargetFits target × Is64Bits index
Fits (commands.Put target index value) = TargetFits target × Is64Bits index × Is64Bits value
Fits _ = Unit {0}

---- Names

-- so many numbers have names of the language, each another one
pub record AreNames (names : ℕ → List ℕ) (count : ℕ) : Type 0 where
  pub valid : (k : ℕ) → k < count → is_name (names k) ≡ true
  pub different : (j k : ℕ) → j < count → k < count → names j ≡ names k → j ≡ k

-- Numbers in the order in which they first stand: each one stood before, or is the next one. `next` of them stood before
-- these, and `last` behind them.
abbrev pub AreInOrder : (next last : ℕ) → List ℕ → Type 0
AreInOrder next last [] = next ≡ last
AreInOrder next last (k ∷ ks) = (k ≤ next) × AreInOrder (max next (k + 1)) last ks

---- Threads and rounds

-- from a depth, no `unlock` at depth 0, and depth 0 at the end
abbrev pub IsBalanced : ℕ → List Command → Type 0
IsBalanced depth [] = depth ≡ 0
IsBalanced depth (commands.Lock ∷ rest) = IsBalanced (depth + 1) rest
IsBalanced depth (commands.Unlock ∷ rest) = (0 < depth) × IsBalanced (depth - 1) rest
IsBalanced depth (_ ∷ rest) = IsBalanced depth rest

abbrev pub HasFewThreads : List (List Command) → Type 0
HasFewThreads threads = length threads ≤ 64

abbrev pub AreBalanced : List (List Command) → Type 0
AreBalanced threads = AllByRecursion (IsBalanced 0) threads

-- the commands of threads, one thread after another
abbrev pub thread_commands : List (List Command) → List Command
thread_commands threads = flat_map (λ commands. commands) threads

-- the commands of rounds, one round after another
abbrev pub round_commands : List (List (List Command)) → List Command
round_commands rounds = flat_map thread_commands rounds

abbrev pub walks_in : List Command → ℕ
walks_in commands = count_by (λ command. says_walk (lines.Runs command)) commands

-- rounds of threads of commands, as the language has them, with so many names
pub record IsScript (names : ℕ → List ℕ) (count : ℕ) (rounds : List (List (List Command))) : Type 0 where
  pub named : AreNames names count
  pub order : AreInOrder 0 count (flat_map name_in (round_commands rounds))
  pub numbers : AllByRecursion Fits (round_commands rounds)
  pub locks : AllByRecursion AreBalanced rounds
  pub threads : AllByRecursion HasFewThreads rounds
  pub walks : walks_in (round_commands rounds) ≤ 16

-- a text is read as a script with so many names and these commands
pub record IsReadAs (text : List ℕ) (count : ℕ) (rounds : List (List (List Command))) : Type 0 where
  pub script : ScriptLines
  pub read : reading_of text ≡ Ok script
  pub names : script.names ≡ count
  pub commands : commands_of script ≡ rounds

-- Names of a text, each with its number there. With them its script can be printed, and what is printed is read as that
-- script, unless it is too long.
pub record HasOwnNames (text : List ℕ) (script : ScriptLines) : Type 0 where
  pub names : ℕ → List ℕ
  pub own : (k : ℕ) → k < script.names → number_of_name (names_in (lines_of text)) (names k) ≡ k
  pub printable : IsScript names script.names (commands_of script)
  pub again : length (printed names (commands_of script)) ≤ 1048576 → IsReadAs (printed names (commands_of script)) script.names (commands_of script)
