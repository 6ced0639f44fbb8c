-- The values of names: what each stands for at each command of a script.
use Rattle.std.specs.Prelude.{ℕ, ◌==◌, List, [], ◌∷◌, Option, Some, None, if◌then◌else◌}
use Rattle.std.specs.Option.{unwrap_or, option_or}
use Rattle.heap_model.specs.declared.Reply.{Reply}
use Rattle.heap_model.specs.declared.Reply.TheVariants as replies
use Rattle.script_text.specs.declared.commands.Target.{Target}
use Rattle.script_text.specs.declared.commands.Target.TheVariants as targets
use Rattle.script_text.specs.declared.commands.Command.{Command}
use Rattle.script_text.specs.declared.commands.Command.TheVariants as commands

-- a command of a thread, with what it was answered
pub record Answered : Type 0 where
  pub command : Command
  pub reply : Reply

-- what an `alloc` or a `zalloc` assigns: the address, or 0 where it is refused
abbrev pub placed_at : Reply → ℕ
placed_at (replies.Address address) = address
placed_at _ = 0

-- what a `realloc` or an `inplace` assigns: the address, and nothing where it is refused
abbrev pub moved_to : Target → ℕ → Reply → Option ℕ
moved_to (targets.Name other) name (replies.Address address) = if other == name then Some address else None
moved_to _ name _ = None

-- what a command with this reply assigns to a name
abbrev pub assigned : Command → Reply → ℕ → Option ℕ
assigned (commands.Alloc other n zero) reply name = if other == name then Some (placed_at reply) else None
assigned (commands.Realloc target n in_place) reply name = moved_to target name reply
assigned _ reply name = None

-- the last assignment of a name among answered commands
abbrev pub last_assigned : List Answered → ℕ → Option ℕ
last_assigned [] name = None
last_assigned (a ∷ rest) name = option_or (last_assigned rest name) (assigned a.command a.reply name)

-- of the threads of a round, the last assignment of the highest one that assigned the name
abbrev pub last_of_round : List (List Answered) → ℕ → Option ℕ
last_of_round [] name = None
last_of_round (thread ∷ threads) name = option_or (last_of_round threads name) (last_assigned thread name)

-- the last assignment among whole rounds
abbrev pub last_of_rounds : List (List (List Answered)) → ℕ → Option ℕ
last_of_rounds [] name = None
last_of_rounds (round ∷ rounds) name = option_or (last_of_rounds rounds name) (last_of_round round name)

-- The value of a name at a command: behind these rounds, and behind these commands of its own thread in its round. A name
-- that was never assigned has the value 0.
abbrev pub value_at : (rounds : List (List (List Answered))) → (own : List Answered) → ℕ → ℕ
value_at rounds own name = unwrap_or (option_or (last_assigned own name) (last_of_rounds rounds name)) 0

-- the address that a target stands for
abbrev pub address_at : (rounds : List (List (List Answered))) → (own : List Answered) → Target → ℕ
address_at rounds own (targets.Name name) = value_at rounds own name
address_at rounds own (targets.Addr address) = address
