-- The script that a count and a seed give: one round of one thread, whose commands are drawn one after another.
use Rattle.std.specs.Prelude.{ℕ, zero, suc, ◌+◌, ◌*◌, ◌/◌, ◌%◌, ◌==◌, Bool, true, false, nat_lt, List, [], ◌∷◌, ◌++◌, map, fold, codes, decimal, if◌then◌else◌}
use Rattle.rand_pcg.specs.Lcg.{Lcg, started, increment_of, advance}
use Rattle.rand_pcg.specs.Pcg.{multiplier_64, pcg32}
use Rattle.script_text.specs.declared.commands.Target.{Target}
use Rattle.script_text.specs.declared.commands.Target.TheVariants as targets
use Rattle.script_text.specs.declared.commands.Command.{Command}
use Rattle.script_text.specs.declared.commands.Command.TheVariants as commands
use Rattle.script_text.specs.declared.commands.CommandLine.{CommandLine}
use Rattle.script_text.specs.Names.{different, number_of_name}
use Rattle.script_text.specs.ThreadLines.{ScriptLines}

---- Draws

-- PCG32 of this seed, on stream 54, behind so many of its words
unfoldable pub generator : ℕ → ℕ → Lcg
generator seed k = advance 64 multiplier_64 k (started 64 multiplier_64 seed (increment_of 64 54))

-- its word k, from 0
abbrev pub draw : ℕ → ℕ → ℕ
draw seed k = (pcg32 (generator seed k)).0

-- each command has two draws; the first one tells its name and what is done with it
abbrev pub name_draw : ℕ → ℕ → ℕ
name_draw seed k = draw seed (2 * k)

-- the second one tells its size or its value
abbrev pub value_draw : ℕ → ℕ → ℕ
value_draw seed k = draw seed (2 * k + 1)

---- What draws ask

abbrev pub size_by : (choice rest : ℕ) → ℕ
size_by choice rest =
    if nat_lt choice 12 then 1 + rest % 512
    else if nat_lt choice 14 then 1 + rest % 16384
    else if choice == 14 then 1 + rest % 131072
    else 131073 + rest % 389120

-- of 16 sizes 12 are at most 512 bytes, 2 at most 16,384, one at most 131,072, and one goes to the back end
abbrev pub size_of : ℕ → ℕ
size_of b = size_by (b % 16) (b / 16)

abbrev pub on_held : (choice name b : ℕ) → Command
on_held choice name b =
    if nat_lt choice 2 then commands.Free (targets.Name name)
    else if choice == 2 then commands.Realloc (targets.Name name) (size_of b) false
    else commands.Put (targets.Name name) 0 b

-- a name that is not held is allocated; one that is held is freed by every second draw, and else resized or written
abbrev pub command_on : (held : Bool) → (choice name b : ℕ) → Command
command_on held choice name b = if held then on_held choice name b else commands.Alloc name (size_of b) false

-- one of 256 names, by its number
abbrev pub name_of : ℕ → ℕ
name_of a = a % 256

abbrev pub choice_of : ℕ → ℕ
choice_of a = a / 256 % 4

---- The commands

abbrev pub held_behind : ℕ → Bool → Command → Bool
held_behind name held (commands.Alloc other n zeroed) = if other == name then true else held
held_behind name held (commands.Free (targets.Name other)) = if other == name then false else held
held_behind name held _ = held

-- A name is held from the command that allocates it to the one that frees it, whatever these are answered.
abbrev pub is_held : List Command → ℕ → Bool
is_held before name = fold (held_behind name) false before

-- a command behind others, by its two draws
abbrev pub drawn_behind : List Command → (a b : ℕ) → Command
drawn_behind before a b = command_on (is_held before (name_of a)) (choice_of a) (name_of a) b

-- the first commands, in which a name stands by its number of 0 to 255
abbrev pub drawn : ℕ → ℕ → List Command
drawn seed zero = []
drawn seed (suc k) = drawn seed k ++ drawn_behind (drawn seed k) (name_draw seed k) (value_draw seed k) ∷ []

---- The script

abbrev pub name_text : ℕ → List ℕ
name_text name = codes "n" ++ decimal name

-- the names of the first commands: `n` with a number behind it
abbrev pub names_drawn : ℕ → ℕ → List (List ℕ)
names_drawn seed zero = []
names_drawn seed (suc k) = names_drawn seed k ++ name_text (name_of (name_draw seed k)) ∷ []

abbrev pub numbered_target : List (List ℕ) → Target → Target
numbered_target names (targets.Name name) = targets.Name (number_of_name names (name_text name))
numbered_target names (targets.Addr address) = targets.Addr address

-- a command whose name has the number that the language gives it among these names
abbrev pub numbered : List (List ℕ) → Command → Command
numbered names (commands.Alloc name n zeroed) = commands.Alloc (number_of_name names (name_text name)) n zeroed
numbered names (commands.Realloc target n in_place) = commands.Realloc (numbered_target names target) n in_place
numbered names (commands.Free target) = commands.Free (numbered_target names target)
numbered names (commands.Size target) = commands.Size (numbered_target names target)
numbered names (commands.Get target index) = commands.Get (numbered_target names target) index
numbered names (commands.Put target index value) = commands.Put (numbered_target names target) index value
numbered names command = command

-- a command that stands in no text, so in no line of one
abbrev pub without_line : Command → CommandLine
without_line command = record { line = 0; command = command }

abbrev pub command_lines : List (List ℕ) → List Command → List CommandLine
command_lines names all = map (λ command. without_line (numbered names command)) all

-- one round of one thread of these commands
abbrev pub one_thread : ℕ → List CommandLine → ScriptLines
one_thread names all = record { names = names; rounds = (record { line = 0; commands = all } ∷ []) ∷ [] }

unfoldable pub generated : ℕ → ℕ → ScriptLines
generated count seed = one_thread (different (names_drawn seed count)) (command_lines (names_drawn seed count) (drawn seed count))
