-- Commands run one after another on a heap of one caller.
use Rattle.std.specs.Prelude.{◌≡◌, ℕ, List, [], ◌∷◌, ◌++◌}
use Rattle.heap_model.specs.declared.Act.{Act}
use Rattle.heap_model.specs.declared.Call.{Call}
use Rattle.heap_model.specs.declared.Reply.{Reply}
use Rattle.heap_model.specs.Moments.{Moment, moments_by}
use Rattle.heap_model.specs.Served.{GetsReply, IsServed, by_depth, depth_after}
use Rattle.script_text.specs.declared.commands.Command.{Command}
use Rattle.thread_calls.specs.Serving.{EndsOnce}
use Rattle.thread_commands.specs.Working.{Fills}
use Rattle.thread_rounds.specs.Threads.{answered}
use Rattle.one_heap.specs.Lone.{LoneHeap, setting_of, behind}
use Rattle.command_run.specs.Commands.{calls_of, values_after, in_threads}

-- All that is asked, one behind the other, as one says how a call gets its reply, and how often the caller has the heap lock behind it.
abbrev pub AreServedTo : (Call → Reply → List Moment → Type 0) → ℕ → List Call → List Reply → List Moment → ℕ → Type 0
AreServedTo One depth [] rs xs end = (rs ≡ []) × (xs ≡ []) × (end ≡ depth)
AreServedTo One depth (call ∷ calls) rs xs end =
    (its : List Reply) × (others : List Reply) × (made : List Moment) × (later : List Moment)
    × (rs ≡ its ++ others) × (xs ≡ made ++ later)
    × IsServed One (by_depth depth call) call its made
    × AreServedTo One (depth_after depth call its) calls others later end

-- The caller of the old heap has done more: its acts are the calls of these commands, one after another, which got these replies.
pub record Runs (old new : LoneHeap) (values later : ℕ → ℕ) (cs : List Command) (rs : List Reply) : Type 0 where
  pub added : List Act
  pub opening : new.opening ≡ old.opening
  pub acts : new.acts ≡ old.acts ++ added
  pub fills : Fills cs rs
  pub served : AreServedTo (GetsReply (setting_of old) 0) old.depth (calls_of values (answered cs rs)) rs (moments_by (setting_of old) (behind old) added) new.depth
  pub values_are : later ≡ values_after values (answered cs rs)

-- One command was run, and its replies stand behind those before it.
pub record RunsOne (old new : LoneHeap) (values later : ℕ → ℕ) (command : Command) (before replies : List Reply) : Type 0 where
  pub its : List Reply
  pub added : replies ≡ before ++ its
  pub ends : EndsOnce its
  pub runs : Runs old new values later (command ∷ []) its

-- answers of the rounds and threads of a script: in each thread those of its commands
abbrev pub FitThreads : List (List Command) → List (List Reply) → Type 0
FitThreads [] [] = Unit {0}
FitThreads (cs ∷ threads) (rs ∷ answers) = Fills cs rs × FitThreads threads answers
FitThreads threads answers = ⊥

abbrev pub Fit : List (List (List Command)) → List (List (List Reply)) → Type 0
Fit [] [] = Unit {0}
Fit (threads ∷ rounds) (answers ∷ others) = FitThreads threads answers × Fit rounds others
Fit rounds others = ⊥

-- The threads of a round were run, and their answers stand as the last round.
pub record RoundRuns (front answers : List (List (List Reply))) (old new : LoneHeap) (values later : ℕ → ℕ) (threads : List (List Command)) : Type 0 where
  pub last : List (List Reply)
  pub answers_are : answers ≡ front ++ last ∷ []
  pub fit : FitThreads threads last
  pub runs : Runs old new values later (in_threads threads) (in_threads last)
