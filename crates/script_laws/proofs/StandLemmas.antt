-- Printed lines may stand where they stand.
use Rattle.std.proofs.Common.{◌≡◌, ℕ, ◌+◌, ◌≤◌, true, false, cond, eqb, leb, List, [], ◌∷◌, ◌++◌, length, map, flat_map, Some, None, Ok, refl, ap, sym, ◌∙◌, subst, arith, append_assoc, append-nil}
use Rattle.std.specs.List.{AllByRecursion}
use Rattle.std.proofs.lemmas.Bool.{eq-eqb, ne_eqb, lt-leb}
use Rattle.std.proofs.lemmas.List.Sums.{sum_by-append}
use Rattle.script_text.specs.declared.commands.Command.{Command}
use Rattle.script_text.specs.declared.commands.Command.TheVariants as commands
use Rattle.script_text.specs.declared.commands.Line.{Line}
use Rattle.script_text.specs.declared.commands.Line.TheVariants as lines
use Rattle.script_text.specs.declared.commands.NumberedLine.{NumberedLine}
use Rattle.script_text.specs.declared.counts.Counts.{Counts}
use Rattle.script_text.specs.Counted.{counted}
use Rattle.script_text.specs.Order.{depth, cause_at, cause_behind, says_walk, AreCounted}
use Rattle.script_text.specs.Reading.{said_on, noted, placed, and_read, lines_from}
use Rattle.script_text.proofs.OrderLemmas.{depth_is, same_cause, counted_push}
use Rattle.script_laws.specs.Printer.{line_text, thread_lines, round_lines}
use Rattle.script_laws.specs.Printable.{IsBalanced, AreBalanced, HasFewThreads, thread_commands, round_commands, walks_in}

abbrev pub numbered : ℕ → List Line → List NumberedLine
numbered n [] = []
numbered n (l ∷ ls) = record { number = n; line = l } ∷ numbered (n + 1) ls

-- behind these counts no line has a cause, and the last thread ends at depth 0
abbrev pub Stand : Counts → List Line → Type 0
Stand k [] = k.depth ≡ 0
Stand k (l ∷ ls) = (cause_at k.depth k.threads k.walks l ≡ None) × Stand (counted k l) ls

abbrev pub IsSaid : (ℕ → List ℕ) → List (List ℕ) → Line → Type 0
IsSaid f all l = said_on all (line_text f l) ≡ Ok (Some l)

pub lines_are_read : (f : ℕ → List ℕ) (all : List (List ℕ)) (k : Counts) (before : List NumberedLine) (n : ℕ) (ls : List Line) → AreCounted k before → Stand k ls → AllByRecursion (IsSaid f all) ls →
    lines_from all before n (map (line_text f) ls) ≡ Ok (before ++ numbered n ls)
lines_are_read f all k before n [] c s a =
    let e : depth before ≡ 0 = depth_is k before c ∙ s in
    let b = eq-eqb (depth before) 0 e in
    rw b (ap Ok (sym (append-nil before)))
lines_are_read f all k before n (l ∷ ls) c s a =
    let z : cause_behind before l ≡ None = sym (same_cause k before l c) ∙ s.0 in
    ap (λ r. and_read (noted before n r) (λ more. lines_from all more (n + 1) (map (line_text f) ls))) a.0
    ∙ ap (λ o. and_read (placed o before n l) (λ more. lines_from all more (n + 1) (map (line_text f) ls))) z
    ∙ lines_are_read f all (counted k l) (before ++ record { number = n; line = l } ∷ []) (n + 1) ls (counted_push k before n l c s.0) s.1 a.1
    ∙ ap Ok (append_assoc before (record { number = n; line = l } ∷ []) (numbered (n + 1) ls))

---- Threads and rounds

walks_append : (xs ys : List Command) → walks_in (xs ++ ys) ≡ walks_in xs + walks_in ys
walks_append xs ys = sum_by-append (λ c. cond (says_walk (lines.Runs c)) 1 0) xs ys

pub walks_more : (c : Command) (cs : List Command) → walks_in (c ∷ cs) ≡ cond (says_walk (lines.Runs c)) 1 0 + walks_in cs
walks_more c cs = omega (arith, walks_append (c ∷ []) cs)

commands_stand : (cs : List Command) (k : Counts) (rest : List Line) → IsBalanced k.depth cs → 1 ≤ k.threads → k.walks + walks_in cs ≤ 16 →
    ((j : Counts) → j.depth ≡ 0 → j.threads ≡ k.threads → j.walks ≡ k.walks + walks_in cs → Stand j rest) → Stand k (map lines.Runs cs ++ rest)
commands_stand [] k rest b t w next = next k b refl (omega arith)
commands_stand (commands.Lock ∷ cs) k rest b t w next =
    let m = walks_more commands.Lock cs in
    (refl, commands_stand cs (counted k (lines.Runs commands.Lock)) rest b (omega arith) (omega arith) (λ j d u v. next j d (omega arith) (omega arith)))
commands_stand (commands.Unlock ∷ cs) k rest b t w next =
    let m = walks_more commands.Unlock cs in
    let a : eqb k.depth 0 ≡ false = ne_eqb k.depth 0 (λ e. omega (arith, b.0)) in
    (rw a refl, commands_stand cs (counted k (lines.Runs commands.Unlock)) rest b.1 (omega arith) (omega arith) (λ j d u v. next j d (omega arith) (omega arith)))
commands_stand (commands.Walk ∷ cs) k rest b t w next =
    let m = walks_more commands.Walk cs in
    let a : leb 16 k.walks ≡ false = lt-leb 16 k.walks (omega arith) in
    (rw a refl, commands_stand cs (counted k (lines.Runs commands.Walk)) rest b (omega arith) (omega arith) (λ j d u v. next j d (omega arith) (omega arith)))
commands_stand (c ∷ cs) k rest b t w next =
    let m = walks_more c cs in
    (refl, commands_stand cs (counted k (lines.Runs c)) rest b (omega arith) (omega arith) (λ j d u v. next j d (omega arith) (omega arith)))

threads_stand : (ts : List (List Command)) (k : Counts) (rest : List Line) → k.depth ≡ 0 → AreBalanced ts → k.threads + length ts ≤ 64 → k.walks + walks_in (thread_commands ts) ≤ 16 →
    ((j : Counts) → j.depth ≡ 0 → j.walks ≡ k.walks + walks_in (thread_commands ts) → Stand j rest) → Stand k (flat_map thread_lines ts ++ rest)
threads_stand [] k rest d b t w next = next k d (omega arith)
threads_stand (c ∷ cs) k rest d b t w next =
    let e : eqb k.depth 0 ≡ true = eq-eqb k.depth 0 d in
    let g : leb 64 k.threads ≡ false = lt-leb 64 k.threads (omega arith) in
    let a = walks_append c (thread_commands cs) in
    let P : List Line → Type 0 = λ ls. Stand (counted k lines.Thread) ls in (
      rw (e, g) refl,
      subst P (sym (append_assoc (map lines.Runs c) (flat_map thread_lines cs) rest)) (commands_stand c (counted k lines.Thread) (flat_map thread_lines cs ++ rest) b.0 (omega arith) (omega arith)
          (λ j f u v. threads_stand cs j rest f b.1 (omega arith) (omega arith) (λ i h x. next i h (omega arith)))),
    )

rounds_stand : (rs : List (List (List Command))) (k : Counts) → k.depth ≡ 0 → AllByRecursion AreBalanced rs → AllByRecursion HasFewThreads rs → k.walks + walks_in (round_commands rs) ≤ 16 → Stand k (flat_map round_lines rs)
rounds_stand [] k d b t w = d
rounds_stand (r ∷ rs) k d b t w =
    let e : eqb k.depth 0 ≡ true = eq-eqb k.depth 0 d in
    let a = walks_append (thread_commands r) (round_commands rs) in (
      rw e refl,
      threads_stand r (counted k lines.Round) (flat_map round_lines rs) refl b.0 (omega (arith, t.0)) (omega arith) (λ j f v. rounds_stand rs j f b.1 t.1 (omega arith)),
    )

abbrev pub no_counts : Counts
no_counts = record { depth = 0; threads = 0; walks = 0 }

pub printed_stand : (rs : List (List (List Command))) → AllByRecursion AreBalanced rs → AllByRecursion HasFewThreads rs → walks_in (round_commands rs) ≤ 16 → Stand no_counts (flat_map round_lines rs)
printed_stand rs b t w = rounds_stand rs no_counts refl b t (omega arith)

pub counted_from_none : AreCounted no_counts []
counted_from_none = record { depth = refl; threads = refl; walks = refl }
