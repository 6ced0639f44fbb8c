-- The commands of a script that is drawn leave the heap lock alone.
use Rattle.std.proofs.Common.{ℕ, zero, suc, ◌==◌, Bool, true, false, List, [], ◌∷◌, ◌++◌, map, refl}
use Rattle.std.specs.Prelude.{nat_lt, if◌then◌else◌}
use Rattle.std.specs.List.{AllByRecursion}
use Rattle.script_text.specs.declared.commands.Command.{Command}
use Rattle.script_text.specs.declared.commands.Command.TheVariants as commands
use Rattle.script_text.specs.declared.commands.CommandLine.{CommandLine}
use Rattle.script_text.specs.declared.commands.Target.TheVariants as targets
use Rattle.script_text.specs.Generator.{name_draw, value_draw, size_of, command_on, is_held, name_of, choice_of, drawn, numbered, without_line, command_lines, names_drawn, generated}
use Rattle.script_text.specs.Scripts.{command_of, commands_of}
use Rattle.script_laws.specs.Printable.{IsBalanced, AreBalanced}

-- a command that neither takes the heap lock nor gives it back
abbrev IsPlain : Command → Type 0
IsPlain commands.Lock = ⊥
IsPlain commands.Unlock = ⊥
IsPlain _ = Unit {0}

plain_balanced : (cs : List Command) → AllByRecursion IsPlain cs → IsBalanced 0 cs
plain_balanced [] all = refl
plain_balanced (commands.Alloc name n zeroed ∷ cs) all = plain_balanced cs all.1
plain_balanced (commands.Realloc target n in_place ∷ cs) all = plain_balanced cs all.1
plain_balanced (commands.Free target ∷ cs) all = plain_balanced cs all.1
plain_balanced (commands.Size target ∷ cs) all = plain_balanced cs all.1
plain_balanced (commands.Get target index ∷ cs) all = plain_balanced cs all.1
plain_balanced (commands.Put target index value ∷ cs) all = plain_balanced cs all.1
plain_balanced (commands.Lock ∷ cs) all = absurd all.0
plain_balanced (commands.Unlock ∷ cs) all = absurd all.0
plain_balanced (commands.Walk ∷ cs) all = plain_balanced cs all.1
plain_balanced (commands.Compact ∷ cs) all = plain_balanced cs all.1

module _ (names : List (List ℕ)) where
  -- a command is plain, whatever number its name has
  abbrev IsRun : Command → Type 0
  IsRun c = IsPlain (numbered names c)

  chosen : (name b : ℕ) (frees moves : Bool)
      → IsRun (if frees then commands.Free (targets.Name name) else if moves then commands.Realloc (targets.Name name) (size_of b) false else commands.Put (targets.Name name) 0 b)
  chosen name b true moves = tt
  chosen name b false true = tt
  chosen name b false false = tt

  each : (held : Bool) (choice name b : ℕ) → IsRun (command_on held choice name b)
  each true choice name b = chosen name b (nat_lt choice 2) (choice == 2)
  each false choice name b = tt

  one_more : (cs : List Command) (c : Command) → AllByRecursion IsRun cs → IsRun c → AllByRecursion IsRun (cs ++ c ∷ [])
  one_more [] c all last = (last, tt)
  one_more (x ∷ xs) c all last = (all.0, one_more xs c all.1 last)

  all_run : (seed count : ℕ) → AllByRecursion IsRun (drawn seed count)
  all_run seed zero = tt
  all_run seed (suc k) =
      let a = name_draw seed k in
      let b = value_draw seed k in
      one_more (drawn seed k) (command_on (is_held (drawn seed k) (name_of a)) (choice_of a) (name_of a) b) (all_run seed k)
      (each (is_held (drawn seed k) (name_of a)) (choice_of a) (name_of a) b)

-- what holds of each element, of what it is mapped to
mapped : {A B : Type 0} (P : B → Type 0) (f : A → B) (xs : List A) → AllByRecursion (λ x. P (f x)) xs → AllByRecursion P (map f xs)
mapped P f [] all = tt
mapped P f (x ∷ xs) all = (all.0, mapped P f xs all.1)

pub drawn_balanced : (count seed : ℕ) → AllByRecursion AreBalanced (commands_of (generated count seed))
unfolding generated
drawn_balanced count seed =
    let names = names_drawn seed count in
    let lines = command_lines names (drawn seed count) in
    let all : AllByRecursion IsPlain (map command_of lines) =
    mapped IsPlain command_of lines (mapped (λ (l : CommandLine). IsPlain (command_of l)) (λ c. without_line (numbered names c)) (drawn seed count) (all_run names seed count)) in
    ((plain_balanced (map command_of lines) all, tt), tt)
