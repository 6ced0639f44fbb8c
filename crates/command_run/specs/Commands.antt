-- The calls that commands make, by the values of their names. An address is the value of a name; one that was never assigned has the
-- value 0. An allocation assigns its name its address, or 0 where it is refused; a reallocation assigns a name where it succeeds.
use Rattle.std.specs.Prelude.{ℕ, List, [], ◌∷◌, ◌++◌, map}
use Rattle.heap_model.specs.declared.Call.{Call}
use Rattle.heap_model.specs.declared.Reply.{Reply}
use Rattle.heap_model.specs.declared.Reply.TheVariants as replies
use Rattle.heap_model.specs.State.{updated}
use Rattle.script_text.specs.declared.commands.Target.{Target}
use Rattle.script_text.specs.declared.commands.Target.TheVariants as targets
use Rattle.script_text.specs.declared.commands.Command.{Command}
use Rattle.script_text.specs.declared.commands.CommandLine.{CommandLine}
use Rattle.script_text.specs.ThreadLines.{ThreadLines}
use Rattle.script_text.specs.Calls.{call_of}
use Rattle.script_text.specs.Scripts.{command_of}
use Rattle.script_text.specs.Values.{Answered}
use Rattle.script_text.specs.declared.commands.Command.TheVariants as commands

-- no name was assigned yet
abbrev pub unassigned : ℕ → ℕ
unassigned name = 0

-- what an allocation assigns to its name: the address, or 0 where it is refused
abbrev pub assigned_placed : (ℕ → ℕ) → ℕ → Reply → ℕ → ℕ
assigned_placed values name (replies.Address a) = updated values name a
assigned_placed values name _ = updated values name 0

-- what a reallocation assigns: the address to a name, where it succeeds
abbrev pub assigned_moved : (ℕ → ℕ) → Target → Reply → ℕ → ℕ
assigned_moved values (targets.Name name) (replies.Address a) = updated values name a
assigned_moved values target _ = values

-- the values behind a command and its reply
abbrev pub assigned : (ℕ → ℕ) → Command → Reply → ℕ → ℕ
assigned values (commands.Alloc name n zero) r = assigned_placed values name r
assigned values (commands.Realloc target n in_place) r = assigned_moved values target r
assigned values _ r = values

-- the calls of these commands, each with its last reply
abbrev pub calls_of : (ℕ → ℕ) → List Answered → List Call
calls_of values [] = []
calls_of values (a ∷ rest) = call_of values a.command ∷ calls_of (assigned values a.command a.reply) rest

abbrev pub values_after : (ℕ → ℕ) → List Answered → ℕ → ℕ
values_after values [] = values
values_after values (a ∷ rest) = values_after (assigned values a.command a.reply) rest

-- what stands in threads, and in rounds of threads, one after another
abbrev pub in_threads : {A : Type 0} → List (List A) → List A
in_threads [] = []
in_threads (t ∷ ts) = t ++ in_threads ts

abbrev pub in_rounds : {A : Type 0} → List (List (List A)) → List A
in_rounds [] = []
in_rounds (r ∷ rs) = in_threads r ++ in_rounds rs

-- the commands of a thread, and of the threads of a round
abbrev pub thread_commands : List CommandLine → List Command
thread_commands cs = map command_of cs

abbrev pub round_commands : List ThreadLines → List (List Command)
round_commands threads = map (λ t. map command_of t.commands) threads
