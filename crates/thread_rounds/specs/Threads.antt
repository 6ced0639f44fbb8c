-- A thread of a script: its commands one behind the other, each by the calls of the thread's caller.
use Rattle.std.specs.Prelude.{◌≡◌, ℕ, List, [], ◌∷◌, ◌++◌, if◌then◌else◌}
use Rattle.heap_model.specs.declared.Call.{Call}
use Rattle.heap_model.specs.declared.Reply.{Reply}
use Rattle.heap_model.specs.State.{Setting}
use Rattle.heap_model.specs.Moments.{Moment}
use Rattle.heap_model.specs.Served.{IsTried, IsServed, by_depth, depth_after}
use Rattle.script_text.specs.declared.commands.Command.{Command}
use Rattle.script_text.specs.Values.{Answered, value_at}
use Rattle.script_text.specs.Calls.{call_of}
use Rattle.report_text.specs.Report.{is_seen}

-- Commands, each with its last reply. A block that a walk has seen is not the walk's last reply.
abbrev pub answered : List Command → List Reply → List Answered
answered cs [] = []
answered [] (r ∷ rs) = []
answered (c ∷ cs) (r ∷ rs) = if is_seen r then answered (c ∷ cs) rs else record { command = c; reply = r } ∷ answered cs rs

-- the call of a command, behind these rounds and behind these commands of its own thread
abbrev pub asked_at : List (List (List Answered)) → List Answered → Command → Call
asked_at earlier own command = call_of (value_at earlier own) command

-- each call of c is tried until it is not busy
abbrev pub Tries : Setting → ℕ → Call → Reply → List Moment → Type 0
Tries s c call reply xs = IsTried s c call reply xs

-- Caller c runs a thread: behind rounds, behind its own commands so far, and where it was given the heap lock so often and has not given it
-- back. Each command has its replies and the moments of its calls, one command behind the other, and c has no other moment. A command
-- that takes no step is answered by the depth.
abbrev pub IsThread : Setting → ℕ → List (List (List Answered)) → List Answered → ℕ → List Command → List Reply → List Moment → Type 0
IsThread s c earlier own depth [] rs xs = (rs ≡ []) × (xs ≡ [])
IsThread s c earlier own depth (command ∷ rest) rs xs =
    (its : List Reply) × (others : List Reply) × (made : List Moment) × (later : List Moment)
    × (rs ≡ its ++ others) × (xs ≡ made ++ later)
    × IsServed (Tries s c) (by_depth depth (asked_at earlier own command)) (asked_at earlier own command) its made
    × IsThread s c earlier (own ++ answered (command ∷ []) its) (depth_after depth (asked_at earlier own command) its) rest others later
