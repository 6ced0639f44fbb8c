-- Worked runs: a lock that is held over several lines while another thread waits, and a name that two threads of a round assign.
use Rattle.std.specs.Prelude.{ℕ, List, [], ◌∷◌, ◌++◌, false}
use Rattle.heap_model.specs.declared.Act.{Act}
use Rattle.heap_model.specs.declared.Act.TheVariants as acts
use Rattle.heap_model.specs.declared.Call.TheVariants as calls
use Rattle.heap_model.specs.declared.Entry.{Entry}
use Rattle.heap_model.specs.declared.Flags.{Flags}
use Rattle.heap_model.specs.declared.Kind.TheVariants as kinds
use Rattle.heap_model.specs.declared.Layer.TheVariants as layers
use Rattle.heap_model.specs.declared.Limits.{Limits}
use Rattle.heap_model.specs.declared.Reply.{Reply}
use Rattle.heap_model.specs.declared.Reply.TheVariants as replies
use Rattle.heap_model.specs.declared.What.TheVariants as whats
use Rattle.script_text.specs.declared.commands.Command.{Command}
use Rattle.script_text.specs.declared.commands.Command.TheVariants as commands
use Rattle.script_text.specs.declared.commands.Target.TheVariants as targets

abbrev pub one_segment : Limits
one_segment = record { segments = 1; large_pages = 0; slots = 4; callers = 64 }

abbrev pub by : ℕ → Act → Entry
by caller act = record { caller = caller; act = act }

abbrev pub plain : Flags
plain = record { zero = false; in_place = false }

---- One thread holds the lock, another waits

-- the second `lock` and the first `unlock` take no step
abbrev pub locking : List Command
locking = commands.Lock ∷ commands.Lock ∷ commands.Walk ∷ commands.Unlock ∷ commands.Unlock ∷ []

abbrev pub waiting : List Command
waiting = commands.Size (targets.Addr 8192) ∷ []

abbrev pub waits_script : List (List (List Command))
waits_script = (locking ∷ waiting ∷ []) ∷ []

abbrev pub waits_answers : List (List (List Reply))
waits_answers = ((replies.Done ∷ replies.Done ∷ replies.Walked 0 ∷ replies.Done ∷ replies.Done ∷ []) ∷ (replies.NotLive ∷ []) ∷ []) ∷ []

-- the second caller is busy once, and then sees that nothing lives
abbrev pub waits_history : List Entry
waits_history =
    by 0 (acts.Begin calls.Lock) ∷ by 0 acts.Lock
    ∷ by 1 (acts.Begin (calls.Size 8192)) ∷ by 1 (acts.Blocked whats.Gate 65536)
    ∷ by 0 (acts.Begin (calls.WalkNext 0)) ∷ by 0 (acts.TakeLock whats.Back) ∷ by 1 acts.Leave ∷ by 0 (acts.GiveLock whats.Back)
    ∷ by 0 (acts.Begin calls.Unlock) ∷ by 0 acts.Unlock
    ∷ by 1 (acts.Begin (calls.Size 8192)) ∷ by 1 acts.Enter ∷ by 1 (acts.NotLive 8192) ∷ by 1 acts.Leave ∷ []

---- Two threads assign one name

-- the name has the number 0 in each command
abbrev pub names_script : List (List (List Command))
names_script =
    ((commands.Alloc 0 131073 false ∷ []) ∷ (commands.Alloc 0 140000 false ∷ []) ∷ [])
    ∷ ((commands.Size (targets.Name 0) ∷ []) ∷ []) ∷ []

-- the size is that of the block of the second thread
abbrev pub names_answers : List (List (List Reply))
names_answers =
    ((replies.Address 8192 ∷ []) ∷ (replies.Address 143360 ∷ []) ∷ [])
    ∷ ((replies.Number 140000 ∷ []) ∷ []) ∷ []

-- the second caller finds the lock of the back end with the first one, and tries again
abbrev pub first_round : List Entry
first_round =
    by 1 (acts.Begin (calls.Alloc 140000 plain)) ∷ by 0 (acts.Begin (calls.Alloc 131073 plain)) ∷ by 1 acts.Enter ∷ by 0 acts.Enter
    ∷ by 0 (acts.TakeLock whats.Back) ∷ by 0 (acts.Reserve 0) ∷ by 0 (acts.Span 2 33 kinds.Back 0 0) ∷ by 0 (acts.Place 8192 8448 layers.Back)
    ∷ by 1 (acts.Blocked whats.Back 1) ∷ by 0 (acts.Give 8192 131073) ∷ by 1 acts.Leave
    ∷ by 0 (acts.GiveLock whats.Back) ∷ by 0 acts.Leave
    ∷ by 1 (acts.Begin (calls.Alloc 140000 plain)) ∷ by 1 acts.Enter ∷ by 1 (acts.TakeLock whats.Back)
    ∷ by 1 (acts.Span 35 35 kinds.Back 0 0) ∷ by 1 (acts.Place 143360 8960 layers.Back) ∷ by 1 (acts.Give 143360 140000)
    ∷ by 1 (acts.GiveLock whats.Back) ∷ by 1 acts.Leave ∷ []

abbrev pub second_round : List Entry
second_round = by 0 (acts.Begin (calls.Size 143360)) ∷ by 0 acts.Enter ∷ by 0 (acts.Sized 143360 140000) ∷ by 0 acts.Leave ∷ []

abbrev pub names_history : List Entry
names_history = first_round ++ second_round
