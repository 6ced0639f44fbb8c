-- Printed rounds are cut as they were.
use Rattle.std.proofs.Common.{◌≡◌, ℕ, ◌+◌, Bool, true, false, List, [], ◌∷◌, ◌++◌, length, map, flat_map, refl, ap, ap₂, ◌∙◌, arith, inl, inr, one-add}
use Rattle.std.specs.List.{list_any, before_first, filter_map}
use Rattle.std.proofs.lemmas.Bool.{cases_Bool}
use Rattle.std.proofs.lemmas.List.Folds.{list_any-append}
use Rattle.script_text.specs.declared.commands.Command.{Command}
use Rattle.script_text.specs.declared.commands.Line.{Line}
use Rattle.script_text.specs.declared.commands.Line.TheVariants as lines
use Rattle.script_text.specs.declared.commands.NumberedLine.{NumberedLine}
use Rattle.script_text.specs.Pieces.{cut_before, marked_pieces}
use Rattle.script_text.specs.Order.{is_round, is_thread, says_round, says_thread}
use Rattle.script_text.specs.Rounds.{command_line, thread_of, threads_of, rounds_of}
use Rattle.script_text.specs.Scripts.{command_of}
use Rattle.script_text.specs.ThreadLines.{ThreadLines}
use Rattle.script_laws.specs.Printer.{thread_lines, round_lines}
use Rattle.script_laws.proofs.StandLemmas.{numbered}

---- Cuts

abbrev IsMarked : {X : Type 0} → (X → Bool) → List X → Type 0
IsMarked p [] = Unit {0}
IsMarked p (x ∷ xs) = p x ≡ true

before_marked : {X : Type 0} (p : X → Bool) (xs ys : List X) → list_any p xs ≡ false → IsMarked p ys → before_first p (xs ++ ys) ≡ xs
before_marked p [] [] h m = refl
before_marked p [] (y ∷ ys) h m = rw m refl
before_marked p (x ∷ xs) ys h m = elim (cases_Bool (p x)) [
  | inl a ↦ let z = rw a at h in absurd (let e : ⊥ = cc in e)
  | inr a ↦
      let k : list_any p xs ≡ false = rw a at h in
      rw (a, one-add) (ap (λ zs. x ∷ zs) (before_marked p xs ys k m))
]

pieces_behind : {X : Type 0} (p : X → Bool) (xs ys : List X) → list_any p xs ≡ false → marked_pieces p (xs ++ ys) ≡ marked_pieces p ys
pieces_behind p [] ys h = refl
pieces_behind p (x ∷ xs) ys h = elim (cases_Bool (p x)) [
  | inl a ↦ let z = rw a at h in absurd (let e : ⊥ = cc in e)
  | inr a ↦
      let k : list_any p xs ≡ false = rw a at h in
      rw a (pieces_behind p xs ys k)
]

-- a mark, what stands behind it, and the next one
piece_more : {X : Type 0} (p : X → Bool) (x : X) (xs ys : List X) → p x ≡ true → list_any p xs ≡ false → IsMarked p ys → marked_pieces p (x ∷ xs ++ ys) ≡ (x ∷ xs) ∷ marked_pieces p ys
piece_more p x xs ys a h m = rw (a, before_marked p xs ys h m, pieces_behind p xs ys h) refl

cut_marked : {X : Type 0} (p : X → Bool) (xs : List X) → IsMarked p xs → cut_before p xs ≡ marked_pieces p xs
cut_marked p [] m = refl
cut_marked p (x ∷ xs) m = rw m refl

---- Numbered lines

numbered_append : (n : ℕ) (xs ys : List Line) → numbered n (xs ++ ys) ≡ numbered n xs ++ numbered (n + length xs) ys
numbered_append n [] ys = let e : n ≡ n + 0 = omega arith in ap (λ k. numbered k ys) e
numbered_append n (x ∷ xs) ys =
    let e : n + 1 + length xs ≡ n + length (x ∷ xs) = omega arith in
    ap (λ zs. record { number = n; line = x } ∷ zs) (numbered_append (n + 1) xs ys ∙ ap (λ k. numbered (n + 1) xs ++ numbered k ys) e)

any_numbered : (p : Line → Bool) (n : ℕ) (ls : List Line) → list_any p ls ≡ false → list_any (λ (l : NumberedLine). p l.line) (numbered n ls) ≡ false
any_numbered p n [] h = refl
any_numbered p n (l ∷ ls) h = elim (cases_Bool (p l)) [
  | inl a ↦ let z = rw a at h in absurd (let e : ⊥ = cc in e)
  | inr a ↦
      let k : list_any p ls ≡ false = rw a at h in
      rw a (any_numbered p (n + 1) ls k)
]

no_thread_line : (cs : List Command) → list_any says_thread (map lines.Runs cs) ≡ false
no_thread_line [] = refl
no_thread_line (c ∷ cs) = no_thread_line cs

no_round_command : (cs : List Command) → list_any says_round (map lines.Runs cs) ≡ false
no_round_command [] = refl
no_round_command (c ∷ cs) = no_round_command cs

no_round_line : (ts : List (List Command)) → list_any says_round (flat_map thread_lines ts) ≡ false
no_round_line [] = refl
no_round_line (t ∷ ts) = rw (list_any-append says_round (map lines.Runs t) (flat_map thread_lines ts), no_round_command t) (no_round_line ts)

marked_thread : (n : ℕ) (ts : List (List Command)) → IsMarked is_thread (numbered n (flat_map thread_lines ts))
marked_thread n [] = tt
marked_thread n (t ∷ ts) = refl

marked_round : (n : ℕ) (rs : List (List (List Command))) → IsMarked is_round (numbered n (flat_map round_lines rs))
marked_round n [] = tt
marked_round n (r ∷ rs) = refl

---- Commands

commands_back : (n : ℕ) (cs : List Command) → map command_of (filter_map command_line (numbered n (map lines.Runs cs))) ≡ cs
commands_back n [] = refl
commands_back n (c ∷ cs) = ap (λ zs. c ∷ zs) (commands_back (n + 1) cs)

abbrev pub thread_back : ThreadLines → List Command
thread_back thread = map command_of thread.commands

threads_back : (n : ℕ) (ts : List (List Command)) → map thread_back (map thread_of (marked_pieces is_thread (numbered n (flat_map thread_lines ts)))) ≡ ts
threads_back n [] = refl
threads_back n (t ∷ ts) =
    let C = numbered (n + 1) (map lines.Runs t) in
    let D = numbered (n + 1 + length (map lines.Runs t)) (flat_map thread_lines ts) in
    ap (λ zs. map thread_back (map thread_of (marked_pieces is_thread (record { number = n; line = lines.Thread } ∷ zs)))) (numbered_append (n + 1) (map lines.Runs t) (flat_map thread_lines ts))
    ∙ ap (λ zs. map thread_back (map thread_of zs)) (piece_more is_thread (record { number = n; line = lines.Thread }) C D refl (any_numbered says_thread (n + 1) (map lines.Runs t) (no_thread_line t)) (marked_thread (n + 1 + length (map lines.Runs t)) ts))
    ∙ ap₂ (λ c cs. c ∷ cs) (commands_back (n + 1) t) (threads_back (n + 1 + length (map lines.Runs t)) ts)

abbrev pub round_back : List ThreadLines → List (List Command)
round_back round = map thread_back round

rounds_in_pieces : (n : ℕ) (rs : List (List (List Command))) → map round_back (map threads_of (marked_pieces is_round (numbered n (flat_map round_lines rs)))) ≡ rs
rounds_in_pieces n [] = refl
rounds_in_pieces n (r ∷ rs) =
    let A = numbered (n + 1) (flat_map thread_lines r) in
    let B = numbered (n + 1 + length (flat_map thread_lines r)) (flat_map round_lines rs) in
    ap (λ zs. map round_back (map threads_of (marked_pieces is_round (record { number = n; line = lines.Round } ∷ zs)))) (numbered_append (n + 1) (flat_map thread_lines r) (flat_map round_lines rs))
    ∙ ap (λ zs. map round_back (map threads_of zs)) (piece_more is_round (record { number = n; line = lines.Round }) A B refl (any_numbered says_round (n + 1) (flat_map thread_lines r) (no_round_line r)) (marked_round (n + 1 + length (flat_map thread_lines r)) rs))
    ∙ ap₂ (λ c cs. c ∷ cs) (ap (λ zs. map thread_back (map thread_of zs)) (cut_marked is_thread A (marked_thread (n + 1) r)) ∙ threads_back (n + 1) r) (rounds_in_pieces (n + 1 + length (flat_map thread_lines r)) rs)

pub rounds_back : (n : ℕ) (rs : List (List (List Command))) → map round_back (rounds_of (numbered n (flat_map round_lines rs))) ≡ rs
rounds_back n rs = ap (λ zs. map round_back (map threads_of zs)) (cut_marked is_round (numbered n (flat_map round_lines rs)) (marked_round n rs)) ∙ rounds_in_pieces n rs
