-- The values of names that commands are run with are those of the script language.
use Rattle.std.specs.Prelude.{◌≡◌, ℕ, ◌≤◌, List, [], ◌∷◌, ◌++◌, length}
use Rattle.std.specs.List.{AllByRecursion}
use Rattle.heap_model.specs.declared.Reply.{Reply}
use Rattle.script_text.specs.declared.commands.Command.{Command}
use Rattle.script_text.specs.Values.{Answered, value_at}
use Rattle.thread_commands.specs.Working.{Fills}
use Rattle.thread_rounds.specs.Rounds.{answered_threads}
use Rattle.thread_rounds.specs.Threads.{answered}
use Rattle.command_run.specs.Commands.{unassigned, values_after, in_rounds}
use Rattle.command_run.specs.Running.{Fit}

-- commands with the last reply of each
abbrev pub answered_rounds : List (List (List Command)) → List (List (List Reply)) → List (List (List Answered))
answered_rounds (threads ∷ rounds) (answers ∷ others) = answered_threads threads answers ∷ answered_rounds rounds others
answered_rounds rounds others = []

-- no round has a second thread
abbrev pub AreSingle : List (List (List Command)) → Type 0
AreSingle rounds = AllByRecursion (λ threads. length threads ≤ 1) rounds

-- Behind these rounds, and behind these commands of a thread of the next round, each name has the value that the language gives it there.
abbrev pub NamesHaveTheirValues : Type 0
NamesHaveTheirValues = (rounds : List (List (List Command))) (answers : List (List (List Reply))) (own : List Command) (replies : List Reply) (name : ℕ) →
    AreSingle rounds → Fit rounds answers → Fills own replies →
    values_after unassigned (answered (in_rounds rounds ++ own) (in_rounds answers ++ replies)) name ≡ value_at (answered_rounds rounds answers) (answered own replies) name
