-- Rounds whose commands stand in one list, with one line more, and what is read of them.
use Rattle.std.proofs.Common.{◌≡◌, ℕ, zero, suc, ◌+◌, ◌-◌, ◌<◌, ◌≤◌, List, [], ◌∷◌, ◌++◌, length, take, drop, get_or, eqb, refl, ap, sym, ◌∙◌, subst, arith, inl, inr, length-append, length-drop}
use Rattle.std.proofs.lemmas.Bool.{cases_Bool, eqb-true, eqb-false, eq-eqb, ne_eqb}
use Rattle.std.proofs.lemmas.List.{take_rest, get_or_default}
use Rattle.script_text.specs.declared.commands.Command.{Command}
use Rattle.script_text.specs.declared.commands.CommandLine.{CommandLine}
use Rattle.script_text.specs.declared.commands.Line.TheVariants as lines
use Rattle.script_text.specs.declared.rounds.ThreadMark.{ThreadMark}
use Rattle.script_text.specs.Grown.{change_last, thread_with, thread_from, round_with, rounds_with}
use Rattle.script_text.specs.Marks.{first_mark, own_place, own_piece, Rise}
use Rattle.script_text.specs.Flat.{first_command, marked_thread, threads_by, rounds_by, AreFlat, some_round, last_round}
use Rattle.script_text.specs.Scripts.{no_thread}
use Rattle.script_text.specs.ThreadLines.{ThreadLines}
use Rattle.script_text.proofs.MarkLemmas.{marks_push, marks_on, pieces_length, pieces_mark, pieces_items, pieces_changed, piece_at, rise_at, cut_length, cut_item}

pub threads_length : (ts : List ThreadMark) (cs : List CommandLine) → length (threads_by ts cs) ≡ length ts
threads_length ts cs = pieces_length first_command marked_thread ts cs

pub rounds_length : (rs : List ℕ) (ts : List ThreadLines) → length (rounds_by rs ts) ≡ length rs
rounds_length rs ts = pieces_length own_place own_piece rs ts

---- A round more

pub round_opened : (rs : List ℕ) (ts : List ThreadMark) (cs : List CommandLine) (r : ℕ) → r ≡ length ts → rounds_by (rs ++ r ∷ []) (threads_by ts cs) ≡ rounds_by rs (threads_by ts cs) ++ [] ∷ []
round_opened rs ts cs r e = pieces_mark own_place own_piece rs r (threads_by ts cs) (e ∙ sym (threads_length ts cs))

pub round_flat : (rs : List ℕ) (ts : List ThreadMark) (cs : List CommandLine) (r : ℕ) → r ≡ length ts → AreFlat rs ts cs → AreFlat (rs ++ r ∷ []) ts cs
round_flat rs ts cs r e a = record { of_threads = a.of_threads; of_rounds = marks_push own_place rs r (length ts) e a.of_rounds }

---- A thread more

pub thread_opened : (rs : List ℕ) (ts : List ThreadMark) (cs : List CommandLine) (t : ThreadMark) → t.first ≡ length cs → 0 < length rs → AreFlat rs ts cs →
    rounds_by rs (threads_by (ts ++ t ∷ []) cs) ≡ change_last (round_with t.line lines.Thread) [] (rounds_by rs (threads_by ts cs))
thread_opened rs ts cs t e l a =
    let rise = subst (λ n. Rise own_place 0 rs n) (sym (threads_length ts cs)) a.of_rounds.rise in
    ap (rounds_by rs) (pieces_mark first_command marked_thread ts t cs e)
    ∙ pieces_items own_place own_piece 0 rs (threads_by ts cs) (marked_thread t [] ∷ []) (round_with t.line lines.Thread) [] (λ m q. refl) rise l

pub thread_flat : (rs : List ℕ) (ts : List ThreadMark) (cs : List CommandLine) (t : ThreadMark) → t.first ≡ length cs → 0 < length rs → AreFlat rs ts cs → AreFlat rs (ts ++ t ∷ []) cs
thread_flat rs ts cs t e l a = record {
  of_threads = marks_push first_command ts t (length cs) e a.of_threads;
  of_rounds = marks_on own_place rs (length ts) (length (ts ++ t ∷ [])) l (omega (arith, length-append ts (t ∷ []))) a.of_rounds;
}

---- A command more

-- a last round that has a thread begins before the end
begun : (low : ℕ) (rs : List ℕ) (ts : List ThreadLines) → Rise own_place low rs (length ts) → 0 < length (last_round (rounds_by rs ts)) → (0 < length ts) × Rise own_place low rs (length ts - 1)
begun low [] ts r l = absurd (omega (arith, l))
begun low (m ∷ []) ts r l =
    let n : length (take (length ts - m) (drop m ts)) ≡ length ts - m = ap length (take_rest ts m) ∙ length-drop m ts in
    let a = r.0 in
    let some : 0 < length ts - m = omega (arith, l, n) in
    (omega arith, (r.0, omega arith))
begun low (m ∷ k ∷ ks) ts r l = let h = begun m (k ∷ ks) ts r.1 l in (h.0, (r.0, h.1))

pub some_threads : (rs : List ℕ) (ts : List ThreadMark) (cs : List CommandLine) → AreFlat rs ts cs → 0 < length (last_round (rounds_by rs (threads_by ts cs))) → 0 < length ts
some_threads rs ts cs a l =
    let rise = subst (λ n. Rise own_place 0 rs n) (sym (threads_length ts cs)) a.of_rounds.rise in
    let h = begun 0 rs (threads_by ts cs) rise l in
    subst (λ n. 0 < n) (threads_length ts cs) h.0

some_rounds : (rs : List ℕ) (ts : List ThreadLines) → 0 < length (last_round (rounds_by rs ts)) → 0 < length rs
some_rounds [] ts l = absurd (omega (arith, l))
some_rounds (r ∷ rs) ts l = omega arith

pub command_pushed : (rs : List ℕ) (ts : List ThreadMark) (cs : List CommandLine) (c : CommandLine) → AreFlat rs ts cs → 0 < length (last_round (rounds_by rs (threads_by ts cs))) →
    rounds_by rs (threads_by ts (cs ++ c ∷ [])) ≡ change_last (change_last (thread_with c) (thread_from c)) [] (rounds_by rs (threads_by ts cs))
command_pushed rs ts cs c a l =
    let rise = subst (λ n. Rise own_place 0 rs n) (sym (threads_length ts cs)) a.of_rounds.rise in
    let h = begun 0 rs (threads_by ts cs) rise l in
    let short : length (threads_by ts cs) - 1 < length (threads_by ts cs) = let k = h.0 in omega arith in
    ap (rounds_by rs) (pieces_items first_command marked_thread 0 ts cs (c ∷ []) (thread_with c) (thread_from c) (λ m q. refl) a.of_threads.rise (some_threads rs ts cs a l))
    ∙ pieces_changed own_place own_piece 0 rs (length (threads_by ts cs) - 1) (threads_by ts cs) (thread_with c) (thread_from c) (change_last (thread_with c) (thread_from c)) [] (λ m q s. refl) h.1 short (some_rounds rs (threads_by ts cs) l)

pub command_flat : (rs : List ℕ) (ts : List ThreadMark) (cs : List CommandLine) (c : CommandLine) → 0 < length ts → AreFlat rs ts cs → AreFlat rs ts (cs ++ c ∷ [])
command_flat rs ts cs c l a = record {
  of_threads = marks_on first_command ts (length cs) (length (cs ++ c ∷ [])) l (omega (arith, length-append cs (c ∷ []))) a.of_threads;
  of_rounds = a.of_rounds;
}

---- Rounds of lines

pub first_round : (rounds : List (List ThreadLines)) → length rounds ≡ 0 → rounds ++ [] ∷ [] ≡ some_round rounds
first_round [] e = refl
first_round (r ∷ rs) e = absurd (omega (arith, e))

pub same_round : (rounds : List (List ThreadLines)) → 0 < length rounds → rounds ≡ some_round rounds
same_round [] l = absurd (omega (arith, l))
same_round (r ∷ rs) l = refl

pub has_round : (rounds : List (List ThreadLines)) → 0 < length (some_round rounds)
has_round [] = omega arith
has_round (r ∷ rs) = omega arith

changed_first : {X : Type 0} (f : X → X) (d e : X) (x : X) (xs : List X) → change_last f d (x ∷ xs) ≡ change_last f e (x ∷ xs)
changed_first f d e x [] = refl
changed_first f d e x (y ∷ ys) = ap (λ zs. x ∷ zs) (changed_first f d e y ys)

pub thread_line : (rounds : List (List ThreadLines)) (n : ℕ) → change_last (round_with n lines.Thread) [] (some_round rounds) ≡ rounds_with n lines.Thread rounds
thread_line [] n = refl
thread_line (r ∷ rs) n = changed_first (round_with n lines.Thread) [] (round_with n lines.Thread []) r rs

pub command_added : (rounds : List (List ThreadLines)) (n : ℕ) (c : Command) → change_last (round_with n (lines.Runs c)) [] (some_round rounds) ≡ rounds_with n (lines.Runs c) rounds
command_added [] n c = refl
command_added (r ∷ rs) n c = changed_first (round_with n (lines.Runs c)) [] (round_with n (lines.Runs c) []) r rs

-- a command in a thread that begins with it
pub first_command_in : (c : CommandLine) (rounds : List (List ThreadLines)) → length (last_round rounds) ≡ 0 → 0 < length rounds →
    change_last (change_last (thread_with c) (thread_from c)) [] (change_last (round_with c.line lines.Thread) [] rounds) ≡ change_last (round_with c.line (lines.Runs c.command)) [] rounds
first_command_in c [] e l = absurd (omega (arith, l))
first_command_in c ([] ∷ []) e l = refl
first_command_in c ((t ∷ ts) ∷ []) e l = absurd (omega (arith, e))
first_command_in c (r ∷ s ∷ []) e l = ap (λ rs. r ∷ rs) (first_command_in c (s ∷ []) e (omega arith))
first_command_in c (r ∷ s ∷ q ∷ qs) e l = ap (λ rs. r ∷ rs) (first_command_in c (s ∷ q ∷ qs) e (omega arith))

thread_there : (n : ℕ) (round : List ThreadLines) → 0 < length (round_with n lines.Thread round)
thread_there n round = omega (arith, length-append round (record { line = n; commands = [] } ∷ []))

pub has_thread : (n : ℕ) (rounds : List (List ThreadLines)) → 0 < length rounds → 0 < length (last_round (change_last (round_with n lines.Thread) [] rounds))
has_thread n [] l = absurd (omega (arith, l))
has_thread n (r ∷ []) l = thread_there n r
has_thread n (r ∷ s ∷ []) l = thread_there n s
has_thread n (r ∷ s ∷ q ∷ qs) l = has_thread n (s ∷ q ∷ qs) (omega arith)

---- What is read

-- a round that there is, by its number
pub round_within : (rs : List ℕ) (ts : List ThreadLines) (rounds : List (List ThreadLines)) (i : ℕ) → rounds_by rs ts ≡ rounds → i < length rounds → i < length rs
round_within rs ts rounds i e l = let same = ap length e in omega (arith, same, rounds_length rs ts, l)

pub rounds_rise : (rs : List ℕ) (ts : List ThreadMark) (cs : List CommandLine) → AreFlat rs ts cs → Rise own_place 0 rs (length (threads_by ts cs))
rounds_rise rs ts cs a = subst (λ n. Rise own_place 0 rs n) (sym (threads_length ts cs)) a.of_rounds.rise

-- a mark at the end
pub at_end : (m n k : ℕ) → m ≤ n → k ≡ n - m → eqb m n ≡ eqb k 0
at_end m n k l e = elim (cases_Bool (eqb m n)) [
  | inl h ↦ let q = eqb-true m n h in let z : k ≡ 0 = omega arith in h ∙ sym (eq-eqb k 0 z)
  | inr h ↦ let q = eqb-false m n h in h ∙ sym (ne_eqb k 0 (λ z. q (let y : m ≡ n = omega arith in y)))
]

-- the last round has no thread where its mark is the end
pub lacking : (rs : List ℕ) (ts : List ThreadLines) (low i m : ℕ) → Rise own_place low rs (length ts) → 0 < length rs → i ≡ length rs - 1 → m ≡ get_or rs i m → length (last_round (rounds_by rs ts)) ≡ length ts - m
lacking [] ts low i m r l e g = absurd (omega (arith, l))
lacking (k ∷ []) ts low zero m r l e g = ap length (take_rest ts k) ∙ length-drop k ts ∙ ap (λ n. length ts - n) (sym g)
lacking (k ∷ []) ts low (suc i) m r l e g = absurd (omega (arith, e))
lacking (k ∷ q ∷ qs) ts low zero m r l e g = absurd (omega (arith, e))
lacking (k ∷ q ∷ qs) ts low (suc i) m r l e g = lacking (q ∷ qs) ts k i m r.1 (omega arith) (omega (arith, e)) g

-- how many threads a round has
pub round_found : (rs : List ℕ) (ts : List ThreadMark) (cs : List CommandLine) (rounds : List (List ThreadLines)) (i m end : ℕ) → AreFlat rs ts cs → rounds_by rs (threads_by ts cs) ≡ rounds → i < length rounds → m ≡ get_or rs i m →
    end ≡ first_mark own_place (drop (i + 1) rs) (length ts) → (m ≤ end) × (end - m ≡ length (get_or rounds i []))
round_found rs ts cs rounds i m end a v l e f =
    let within = round_within rs (threads_by ts cs) rounds i v l in
    let there = f ∙ ap (first_mark own_place (drop (i + 1) rs)) (sym (threads_length ts cs)) in
    let h = cut_length rs (threads_by ts cs) i m end (rounds_rise rs ts cs a) within e there in
    (h.0, sym h.1 ∙ ap (λ (all : List (List ThreadLines)). length (get_or all i [])) v)

-- which thread a thread of a round is among those of all rounds
pub thread_found : (rs : List ℕ) (ts : List ThreadMark) (cs : List CommandLine) (rounds : List (List ThreadLines)) (i j m : ℕ) → AreFlat rs ts cs → rounds_by rs (threads_by ts cs) ≡ rounds → i < length rounds → m ≡ get_or rs i m →
    j < length (get_or rounds i []) → (m + j < length ts) × (get_or (get_or rounds i []) j no_thread ≡ get_or (threads_by ts cs) (m + j) no_thread)
thread_found rs ts cs rounds i j m a v l e b =
    let within = round_within rs (threads_by ts cs) rounds i v l in
    let there = subst (λ (all : List (List ThreadLines)). j < length (get_or all i [])) (sym v) b in
    let h = cut_item rs (threads_by ts cs) i j m no_thread (rounds_rise rs ts cs a) within e there in
    (subst (λ n. m + j < n) (threads_length ts cs) h.0, ap (λ (all : List (List ThreadLines)). get_or (get_or all i []) j no_thread) (sym v) ∙ h.1)

pub mark_read : (ts : List ThreadMark) (cs : List CommandLine) (i : ℕ) (m : ThreadMark) (d : ThreadLines) → i < length ts → m ≡ get_or ts i m →
    get_or (threads_by ts cs) i d ≡ marked_thread m (take (first_mark first_command (drop (i + 1) ts) (length cs) - m.first) (drop m.first cs))
mark_read ts cs i m d l e = piece_at first_command marked_thread ts cs i m d l e

-- the line of a thread, whatever stands for a mark that is not there
pub line_read : (ts : List ThreadMark) (cs : List CommandLine) (i : ℕ) (d : ThreadMark) → i < length ts → (get_or ts i d).line ≡ (get_or (threads_by ts cs) i no_thread).line
line_read ts cs i d l = sym (ap (λ (t : ThreadLines). t.line) (mark_read ts cs i (get_or ts i d) no_thread l (get_or_default ts i d (get_or ts i d) l)))

pub mark_up : (ts : List ThreadMark) (cs : List CommandLine) (i : ℕ) (m : ThreadMark) (end : ℕ) → Rise first_command 0 ts (length cs) → i < length ts → m ≡ get_or ts i m → end ≡ first_mark first_command (drop (i + 1) ts) (length cs) →
    (m.first ≤ end) × (end ≤ length cs)
mark_up ts cs i m end r l e f =
    let up = rise_at first_command 0 ts (length cs) i m r l e in
    (subst (λ n. m.first ≤ n) (sym f) up.0, subst (λ n. n ≤ length cs) (sym f) up.1)
