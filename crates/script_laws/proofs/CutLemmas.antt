-- The rounds of lines that may stand.
use Rattle.std.proofs.Common.{◌≡◌, ℕ, Bool, cond, List, [], ◌∷◌, ◌++◌, map, flat_map, refl, ap, ap₂, sym, ◌∙◌, inl, inr, one-add}
use Rattle.std.specs.List.{AllByRecursion, before_first, filter_map}
use Rattle.std.proofs.lemmas.Bool.{cases_Bool}
use Rattle.std.proofs.lemmas.List.{map-append}
use Rattle.std.proofs.lemmas.List.Elements.{filter_map-append}
use Rattle.script_text.specs.declared.commands.Command.{Command}
use Rattle.script_text.specs.declared.commands.Line.{Line}
use Rattle.script_text.specs.declared.commands.Line.TheVariants as lines
use Rattle.script_text.specs.declared.commands.NumberedLine.{NumberedLine}
use Rattle.script_text.specs.Pieces.{cut_before, marked_pieces}
use Rattle.script_text.specs.Order.{is_round, is_thread}
use Rattle.script_text.specs.Rounds.{command_line, thread_of, inside_round, threads_of, rounds_of}
use Rattle.script_text.specs.Scripts.{command_of}
use Rattle.script_laws.specs.Printable.{Fits, name_in, thread_commands, round_commands}
use Rattle.script_laws.proofs.LineLemmas.{names_on, LineFits}
use Rattle.script_laws.proofs.RoundLemmas.{round_back, thread_back}
use Rattle.script_laws.proofs.WalkLemmas.{plain_line}

---- Cuts, step by step

abbrev pub till : {X : Type 0} → (X → Bool) → List X → List X
till p [] = []
till p (x ∷ xs) = cond (p x) [] (x ∷ till p xs)

abbrev pub marked : {X : Type 0} → (X → Bool) → List X → List (List X)
marked p [] = []
marked p (x ∷ xs) = cond (p x) ((x ∷ till p xs) ∷ marked p xs) (marked p xs)

abbrev pub cut : {X : Type 0} → (X → Bool) → List X → List (List X)
cut p [] = []
cut p (x ∷ xs) = (x ∷ till p xs) ∷ marked p xs

till_is : {X : Type 0} (p : X → Bool) (xs : List X) → before_first p xs ≡ till p xs
till_is p [] = refl
till_is p (x ∷ xs) = elim (cases_Bool (p x)) [
  | inl a ↦ rw a refl
  | inr a ↦ rw (a, one-add) (ap (λ zs. x ∷ zs) (till_is p xs))
]

marked_is : {X : Type 0} (p : X → Bool) (xs : List X) → marked_pieces p xs ≡ marked p xs
marked_is p [] = refl
marked_is p (x ∷ xs) = ap₂ (λ ys zs. cond (p x) ((x ∷ ys) ∷ zs) zs) (till_is p xs) (marked_is p xs)

cut_is : {X : Type 0} (p : X → Bool) (xs : List X) → cut_before p xs ≡ cut p xs
cut_is p [] = refl
cut_is p (x ∷ xs) = ap₂ (λ ys zs. (x ∷ ys) ∷ zs) (till_is p xs) (marked_is p xs)

-- the pieces of a list are the list
whole_from : {X : Type 0} (p : X → Bool) (xs : List X) → till p xs ++ flat_map (λ ys. ys) (marked p xs) ≡ xs
whole_from p [] = refl
whole_from p (x ∷ xs) = elim (cases_Bool (p x)) [
  | inl a ↦ rw a (ap (λ zs. x ∷ zs) (whole_from p xs))
  | inr a ↦ rw a (ap (λ zs. x ∷ zs) (whole_from p xs))
]

whole : {X : Type 0} (p : X → Bool) (xs : List X) → flat_map (λ ys. ys) (cut p xs) ≡ xs
whole p [] = refl
whole p (x ∷ xs) = ap (λ zs. x ∷ zs) (whole_from p xs)

---- The commands of lines

abbrev pub in_lines : List NumberedLine → List Command
in_lines ls = map command_of (filter_map command_line ls)

in_append : (xs ys : List NumberedLine) → in_lines (xs ++ ys) ≡ in_lines xs ++ in_lines ys
in_append xs ys = ap (map command_of) (filter_map-append command_line xs ys) ∙ map-append command_of (filter_map command_line xs) (filter_map command_line ys)

-- the threads of a round's lines, each a list of commands
abbrev pub in_threads : List NumberedLine → List (List Command)
in_threads ls = map in_lines (cut is_thread (inside_round ls))

map_twice : {A B C : Type 0} (f : A → B) (g : B → C) (xs : List A) → map g (map f xs) ≡ map (λ x. g (f x)) xs
map_twice f g [] = refl
map_twice f g (x ∷ xs) = ap (λ zs. g (f x) ∷ zs) (map_twice f g xs)

round_is : (ls : List NumberedLine) → round_back (threads_of ls) ≡ in_threads ls
round_is ls = map_twice thread_of thread_back (cut_before is_thread (inside_round ls)) ∙ ap (map in_lines) (cut_is is_thread (inside_round ls))

rounds_are : (pieces : List (List NumberedLine)) → map round_back (map threads_of pieces) ≡ map in_threads pieces
rounds_are [] = refl
rounds_are (x ∷ xs) = ap₂ (λ y ys. y ∷ ys) (round_is x) (rounds_are xs)

pub rounds_in_lines : (ls : List NumberedLine) → map round_back (rounds_of ls) ≡ map in_threads (cut is_round ls)
rounds_in_lines ls = rounds_are (cut_before is_round ls) ∙ ap (map in_threads) (cut_is is_round ls)

threads_whole : (pieces : List (List NumberedLine)) → thread_commands (map in_lines pieces) ≡ in_lines (flat_map (λ ys. ys) pieces)
threads_whole [] = refl
threads_whole (x ∷ xs) = ap (λ zs. in_lines x ++ zs) (threads_whole xs) ∙ sym (in_append x (flat_map (λ ys. ys) xs))

no_command : (n : ℕ) (l : Line) (ls : List NumberedLine) → in_lines (inside_round (record { number = n; line = l } ∷ ls)) ≡ in_lines (record { number = n; line = l } ∷ ls)
no_command n lines.Round ls = refl
no_command n lines.Thread ls = refl
no_command n (lines.Runs c) ls = refl

inside_same : (ls : List NumberedLine) → in_lines (inside_round ls) ≡ in_lines ls
inside_same [] = refl
inside_same (x ∷ xs) = no_command x.number x.line xs

round_whole : (ls : List NumberedLine) → thread_commands (in_threads ls) ≡ in_lines ls
round_whole ls = threads_whole (cut is_thread (inside_round ls)) ∙ ap in_lines (whole is_thread (inside_round ls)) ∙ inside_same ls

rounds_whole : (pieces : List (List NumberedLine)) → round_commands (map in_threads pieces) ≡ in_lines (flat_map (λ ys. ys) pieces)
rounds_whole [] = refl
rounds_whole (x ∷ xs) = ap₂ (λ ys zs. ys ++ zs) (round_whole x) (rounds_whole xs) ∙ sym (in_append x (flat_map (λ ys. ys) xs))

pub commands_whole : (ls : List NumberedLine) → round_commands (map in_threads (cut is_round ls)) ≡ in_lines ls
commands_whole ls = rounds_whole (cut is_round ls) ∙ ap in_lines (whole is_round ls)

names_more : (n : ℕ) (l : Line) (ls : List NumberedLine) → flat_map name_in (in_lines ls) ≡ flat_map names_on (map plain_line ls) →
    flat_map name_in (in_lines (record { number = n; line = l } ∷ ls)) ≡ names_on l ++ flat_map names_on (map plain_line ls)
names_more n lines.Round ls e = e
names_more n lines.Thread ls e = e
names_more n (lines.Runs c) ls e = ap (λ zs. name_in c ++ zs) e

pub names_whole : (ls : List NumberedLine) → flat_map name_in (in_lines ls) ≡ flat_map names_on (map plain_line ls)
names_whole [] = refl
names_whole (x ∷ xs) = names_more x.number x.line xs (names_whole xs)

fits_more : (n : ℕ) (l : Line) (ls : List NumberedLine) → LineFits l → AllByRecursion Fits (in_lines ls) → AllByRecursion Fits (in_lines (record { number = n; line = l } ∷ ls))
fits_more n lines.Round ls h e = e
fits_more n lines.Thread ls h e = e
fits_more n (lines.Runs c) ls h e = (h, e)

pub fits_whole : (ls : List NumberedLine) → AllByRecursion LineFits (map plain_line ls) → AllByRecursion Fits (in_lines ls)
fits_whole [] h = tt
fits_whole (x ∷ xs) h = fits_more x.number x.line xs h.0 (fits_whole xs h.1)
