-- The rounds of lines, line by line.
use Rattle.std.proofs.Common.{◌≡◌, ℕ, zero, suc, ◌<◌, ◌≤◌, Bool, cond, List, [], ◌∷◌, ◌++◌, length, map, get_or, refl, ap, ◌∙◌, arith, inl, inr, one-add, append_assoc, append-nil}
use Rattle.std.specs.List.{before_first}
use Rattle.std.proofs.lemmas.Bool.{cases_Bool}
use Rattle.std.proofs.lemmas.List.{map-append, length-map}
use Rattle.std.proofs.lemmas.List.Elements.{filter_map-append}
use Rattle.script_text.specs.Pieces.{marked_pieces, cut_before}
use Rattle.script_text.specs.Order.{is_round, is_thread}
use Rattle.script_text.specs.Rounds.{command_line, thread_of, inside_round, threads_of, rounds_of}
use Rattle.script_text.specs.Grown.{change_last, thread_with, round_with, rounds_with}
use Rattle.script_text.specs.declared.commands.Command.{Command}
use Rattle.script_text.specs.declared.commands.Line.{Line}
use Rattle.script_text.specs.declared.commands.Line.TheVariants as lines
use Rattle.script_text.specs.declared.commands.NumberedLine.{NumberedLine}

---- Pieces

abbrev HaveItems : {X : Type 0} → List (List X) → Type 0
HaveItems [] = Unit {0}
HaveItems (q ∷ qs) = (0 < length q) × HaveItems qs

marked_have_items : {X : Type 0} (p : X → Bool) (xs : List X) → HaveItems (marked_pieces p xs)
marked_have_items p [] = tt
marked_have_items p (x ∷ xs) = elim (cases_Bool (p x)) [
  | inl h ↦ rw h (omega arith, marked_have_items p xs)
  | inr h ↦ rw h (marked_have_items p xs)
]

pieces_have_items : {X : Type 0} (p : X → Bool) (xs : List X) → HaveItems (cut_before p xs)
pieces_have_items p [] = tt
pieces_have_items p (x ∷ xs) = (omega arith, marked_have_items p xs)

-- the pieces of a list behind the front of the first one
abbrev pieces_behind : {X : Type 0} → (X → Bool) → List X → List X → List (List X)
pieces_behind p front xs = (front ++ before_first p xs) ∷ marked_pieces p xs

piece_more : {X : Type 0} (p : X → Bool) (front xs : List X) (y : X) →
    pieces_behind p front (xs ++ y ∷ []) ≡ cond (p y) (pieces_behind p front xs ++ (y ∷ []) ∷ []) (change_last (λ q. q ++ y ∷ []) (y ∷ []) (pieces_behind p front xs))
piece_more p front [] y = elim (cases_Bool (p y)) [
  | inl h ↦ rw h refl
  | inr h ↦ rw (h, append-nil front) refl
]
piece_more p front (x ∷ xs) y = elim (cases_Bool (p x)) [
  | inl h ↦
      let e = piece_more p (x ∷ []) xs y in
      rw (h, e) (elim (cases_Bool (p y)) [
        | inl k ↦ rw k refl
        | inr k ↦ rw k refl
      ])
  | inr h ↦
      let e = piece_more p (front ++ x ∷ []) xs y in
      let a = append_assoc front (x ∷ []) (before_first p (xs ++ y ∷ [])) in
      let b = append_assoc front (x ∷ []) (before_first p xs) in
      let f = rw (a, b) at e in
      rw (h, one-add, one-add) f
]

pub cut_more : {X : Type 0} (p : X → Bool) (xs : List X) (y : X) → cut_before p (xs ++ y ∷ []) ≡ cond (p y) (cut_before p xs ++ (y ∷ []) ∷ []) (change_last (λ q. q ++ y ∷ []) (y ∷ []) (cut_before p xs))
cut_more p [] y = elim (cases_Bool (p y)) [
  | inl h ↦ rw h refl
  | inr h ↦ rw h refl
]
cut_more p (x ∷ xs) y = piece_more p (x ∷ []) xs y

map_changed : {X Y : Type 0} (f : List X → Y) (g : List X → List X) (first : List X) (h : Y → Y) (b : Y) (qs : List (List X)) → HaveItems qs →
    ((q : List X) → 0 < length q → f (g q) ≡ h (f q)) → f first ≡ b → map f (change_last g first qs) ≡ change_last h b (map f qs)
map_changed f g first h b [] some each e = ap (λ y. y ∷ []) e
map_changed f g first h b (q ∷ []) some each e = ap (λ y. y ∷ []) (each q some.0)
map_changed f g first h b (q ∷ r ∷ qs) some each e = ap (λ ys. f q ∷ ys) (map_changed f g first h b (r ∷ qs) some.1 each e)

---- Threads and rounds

thread_more : (q : List NumberedLine) (n : ℕ) (c : Command) → 0 < length q → thread_of (q ++ record { number = n; line = lines.Runs c } ∷ []) ≡ thread_with (record { line = n; command = c }) (thread_of q)
thread_more [] n c some = absurd (omega (arith, some))
thread_more (z ∷ zs) n c some = ap (λ cs. record { line = z.number; commands = cs }) (filter_map-append command_line (z ∷ zs) (record { number = n; line = lines.Runs c } ∷ []))

inside_more : (q : List NumberedLine) (l : NumberedLine) → 0 < length q → inside_round (q ++ l ∷ []) ≡ inside_round q ++ l ∷ []
inside_more [] l some = absurd (omega (arith, some))
inside_more (z ∷ zs) l some = elim (cases_Bool (is_round z)) [
  | inl h ↦ rw h refl
  | inr h ↦ rw h refl
]

round_thread : (q : List NumberedLine) (n : ℕ) → 0 < length q → threads_of (q ++ record { number = n; line = lines.Thread } ∷ []) ≡ round_with n lines.Thread (threads_of q)
round_thread q n some =
    let l : NumberedLine = record { number = n; line = lines.Thread } in
    ap (λ ls. map thread_of (cut_before is_thread ls)) (inside_more q l some)
    ∙ ap (map thread_of) (cut_more is_thread (inside_round q) l)
    ∙ map-append thread_of (cut_before is_thread (inside_round q)) ((l ∷ []) ∷ [])

round_command : (q : List NumberedLine) (n : ℕ) (c : Command) → 0 < length q → threads_of (q ++ record { number = n; line = lines.Runs c } ∷ []) ≡ round_with n (lines.Runs c) (threads_of q)
round_command q n c some =
    let l : NumberedLine = record { number = n; line = lines.Runs c } in
    ap (λ ls. map thread_of (cut_before is_thread ls)) (inside_more q l some)
    ∙ ap (map thread_of) (cut_more is_thread (inside_round q) l)
    ∙ map_changed thread_of (λ r. r ++ l ∷ []) (l ∷ []) _ _ (cut_before is_thread (inside_round q)) (pieces_have_items is_thread (inside_round q)) (λ r s. thread_more r n c s) refl

-- the rounds of lines with one line more
pub rounds_more : (before : List NumberedLine) (n : ℕ) (l : Line) → rounds_of (before ++ record { number = n; line = l } ∷ []) ≡ rounds_with n l (rounds_of before)
rounds_more before n lines.Round =
    ap (map threads_of) (cut_more is_round before (record { number = n; line = lines.Round })) ∙ map-append threads_of (cut_before is_round before) ((record { number = n; line = lines.Round } ∷ []) ∷ [])
rounds_more before n lines.Thread =
    let l : NumberedLine = record { number = n; line = lines.Thread } in
    ap (map threads_of) (cut_more is_round before l)
    ∙ map_changed threads_of (λ r. r ++ l ∷ []) (l ∷ []) _ _ (cut_before is_round before) (pieces_have_items is_round before) (λ r s. round_thread r n s) refl
rounds_more before n (lines.Runs c) =
    let l : NumberedLine = record { number = n; line = lines.Runs c } in
    ap (map threads_of) (cut_more is_round before l)
    ∙ map_changed threads_of (λ r. r ++ l ∷ []) (l ∷ []) _ _ (cut_before is_round before) (pieces_have_items is_round before) (λ r s. round_command r n c s) refl

---- Few threads

marked_few : {X : Type 0} (p : X → Bool) (xs : List X) → length (marked_pieces p xs) ≤ length xs
marked_few p [] = omega arith
marked_few p (x ∷ xs) = elim (cases_Bool (p x)) [
  | inl h ↦ rw h (omega (arith, marked_few p xs))
  | inr h ↦ rw h (omega (arith, marked_few p xs))
]

pub pieces_few : {X : Type 0} (p : X → Bool) (xs : List X) → length (cut_before p xs) ≤ length xs
pieces_few p [] = omega arith
pieces_few p (x ∷ xs) = omega (arith, marked_few p xs)

front_few : {X : Type 0} (p : X → Bool) (xs : List X) → length (before_first p xs) ≤ length xs
front_few p [] = omega arith
front_few p (x ∷ xs) = elim (cases_Bool (p x)) [
  | inl h ↦ rw h (omega arith)
  | inr h ↦ rw (h, one-add) (omega (arith, front_few p xs))
]

at_head : {X : Type 0} (n : ℕ) (front : List X) (others : List (List X)) (j : ℕ) → length front ≤ n → ((k : ℕ) → length (get_or others k []) ≤ n) → length (get_or (front ∷ others) j []) ≤ n
at_head n front others zero a b = a
at_head n front others (suc j) a b = b j

piece_few : {X : Type 0} (p : X → Bool) (xs : List X) (i : ℕ) → length (get_or (marked_pieces p xs) i []) ≤ length xs
piece_few p [] i = omega arith
piece_few p (x ∷ xs) i = elim (cases_Bool (p x)) [
  | inl h ↦ rw h (at_head (length (x ∷ xs)) (x ∷ before_first p xs) (marked_pieces p xs) i (omega (arith, front_few p xs)) (λ k. omega (arith, piece_few p xs k)))
  | inr h ↦ rw h (omega (arith, piece_few p xs i))
]

any_piece_few : {X : Type 0} (p : X → Bool) (xs : List X) (i : ℕ) → length (get_or (cut_before p xs) i []) ≤ length xs
any_piece_few p [] i = omega arith
any_piece_few p (x ∷ xs) i = at_head (length (x ∷ xs)) (x ∷ before_first p xs) (marked_pieces p xs) i (omega (arith, front_few p xs)) (λ k. omega (arith, piece_few p xs k))

inside_few : (q : List NumberedLine) → length (inside_round q) ≤ length q
inside_few [] = omega arith
inside_few (z ∷ zs) = elim (cases_Bool (is_round z)) [
  | inl h ↦ rw h (omega arith)
  | inr h ↦ rw h (omega arith)
]

threads_few : (q : List NumberedLine) → length (threads_of q) ≤ length q
threads_few q = rw (length-map (cut_before is_thread (inside_round q)) thread_of) (omega (arith, pieces_few is_thread (inside_round q), inside_few q))

get_mapped : (qs : List (List NumberedLine)) (i : ℕ) → length (get_or (map threads_of qs) i []) ≤ length (get_or qs i [])
get_mapped [] i = omega arith
get_mapped (q ∷ qs) zero = threads_few q
get_mapped (q ∷ qs) (suc i) = get_mapped qs i

-- a round has no more threads than there are lines
pub round_few : (before : List NumberedLine) (i : ℕ) → length (get_or (rounds_of before) i []) ≤ length before
round_few before i = omega (arith, get_mapped (cut_before is_round before) i, any_piece_few is_round before i)

pub rounds_few : (before : List NumberedLine) → length (rounds_of before) ≤ length before
rounds_few before = rw (length-map (cut_before is_round before) threads_of) (pieces_few is_round before)

-- one round of one thread
pub one_few : {X : Type 0} (x : X) (n i : ℕ) → 0 < n → length (get_or ((x ∷ []) ∷ []) i []) ≤ n
one_few x n zero l = omega (arith, l)
one_few x n (suc i) l = omega arith
