-- Answers whose replies stand in one list.
use Rattle.std.proofs.Common.{◌≡◌, ℕ, ◌+◌, ◌-◌, ◌<◌, ◌≤◌, Bool, cond, List, [], ◌∷◌, ◌++◌, length, take, drop, get_or, refl, ap, sym, ◌∙◌, subst, arith, length-append}
use Rattle.std.specs.List.{sum_by, count_by}
use Rattle.std.proofs.lemmas.List.Concat.{flat_map-append}
use Rattle.std.proofs.lemmas.List.Sums.{sum_by-append, sum_by-cons}
use Rattle.heap_model.specs.declared.Reply.{Reply}
use Rattle.script_text.specs.Grown.{change_last}
use Rattle.script_text.specs.Marks.{first_mark, own_place, own_piece, cut_at, Rise}
use Rattle.script_text.proofs.MarkLemmas.{marks_push, marks_on, pieces_length, pieces_mark, pieces_items, pieces_whole, rise_at, cut_read, cut_length, cut_item}
use Rattle.report_text.specs.Answers.{answers_by, AreFlat, round_replies, all_replies}
use Rattle.report_text.specs.Summary.{replies_that}

pub cut_many : {X : Type 0} (ms : List ℕ) (xs : List X) → length (cut_at ms xs) ≡ length ms
cut_many ms xs = pieces_length own_place own_piece ms xs

rounds_rise : (rs ts : List ℕ) (cs : List Reply) → AreFlat rs ts cs → Rise own_place 0 rs (length (cut_at ts cs))
rounds_rise rs ts cs a = subst (λ n. Rise own_place 0 rs n) (sym (cut_many ts cs)) a.of_rounds.rise

---- A round more

pub round_opened : (rs ts : List ℕ) (cs : List Reply) (r : ℕ) → r ≡ length ts → answers_by (rs ++ r ∷ []) ts cs ≡ answers_by rs ts cs ++ [] ∷ []
round_opened rs ts cs r e = pieces_mark own_place own_piece rs r (cut_at ts cs) (e ∙ sym (cut_many ts cs))

pub round_flat : (rs ts : List ℕ) (cs : List Reply) (r : ℕ) → r ≡ length ts → AreFlat rs ts cs → AreFlat (rs ++ r ∷ []) ts cs
round_flat rs ts cs r e a = record { of_threads = a.of_threads; of_rounds = marks_push own_place rs r (length ts) e a.of_rounds }

---- A thread more

last_of_more : {X : Type 0} (f : X → X) (d x : X) (xs : List X) → change_last f d (xs ++ x ∷ []) ≡ xs ++ f x ∷ []
last_of_more f d x [] = refl
last_of_more f d x (y ∷ []) = refl
last_of_more f d x (y ∷ z ∷ zs) = ap (λ ys. y ∷ ys) (last_of_more f d x (z ∷ zs))

-- the marks of one thread more, and its items behind those of the others
cut_more : {X : Type 0} (ms : List ℕ) (m : ℕ) (xs ys : List X) → Rise own_place 0 ms (length xs) → m ≡ length xs → Rise own_place 0 (ms ++ m ∷ []) (length xs) →
    cut_at (ms ++ m ∷ []) (xs ++ ys) ≡ cut_at ms xs ++ ys ∷ []
cut_more ms m xs ys r e s =
    let some : 0 < length (ms ++ m ∷ []) = omega (arith, length-append ms (m ∷ [])) in
    pieces_items own_place own_piece 0 (ms ++ m ∷ []) xs ys (λ q. q ++ ys) [] (λ k q. refl) s some
    ∙ ap (change_last (λ q. q ++ ys) []) (pieces_mark own_place own_piece ms m xs e)
    ∙ last_of_more (λ q. q ++ ys) [] [] (cut_at ms xs)

pub thread_flat : (rs ts : List ℕ) (cs more : List Reply) (t : ℕ) → t ≡ length cs → 0 < length rs → AreFlat rs ts cs → AreFlat rs (ts ++ t ∷ []) (cs ++ more)
thread_flat rs ts cs more t e l a = record {
  of_threads = marks_on own_place (ts ++ t ∷ []) (length cs) (length (cs ++ more)) (omega (arith, length-append ts (t ∷ []))) (omega (arith, length-append cs more)) (marks_push own_place ts t (length cs) e a.of_threads);
  of_rounds = marks_on own_place rs (length ts) (length (ts ++ t ∷ [])) l (omega (arith, length-append ts (t ∷ []))) a.of_rounds;
}

-- a thread is added to the last round
pub thread_added : (rs ts : List ℕ) (cs more : List Reply) (t : ℕ) (front : List (List (List Reply))) (last : List (List Reply)) → t ≡ length cs → AreFlat rs ts cs → answers_by rs ts cs ≡ front ++ last ∷ [] →
    answers_by rs (ts ++ t ∷ []) (cs ++ more) ≡ front ++ (last ++ more ∷ []) ∷ []
thread_added rs ts cs more t front last e a v =
    let some : 0 < length rs = omega (arith, ap length v, length-append front (last ∷ []), cut_many rs (cut_at ts cs)) in
    let marks = marks_push own_place ts t (length cs) e a.of_threads in
    ap (cut_at rs) (cut_more ts t cs more a.of_threads.rise e marks.rise)
    ∙ pieces_items own_place own_piece 0 rs (cut_at ts cs) (more ∷ []) (λ q. q ++ more ∷ []) [] (λ k q. refl) (rounds_rise rs ts cs a) some
    ∙ ap (change_last (λ q. q ++ more ∷ []) []) v
    ∙ last_of_more (λ q. q ++ more ∷ []) [] last front

pub some_rounds : (rs ts : List ℕ) (cs : List Reply) (answers : List (List (List Reply))) → answers_by rs ts cs ≡ answers → 0 < length answers → 0 < length rs
some_rounds rs ts cs answers v l = omega (arith, ap length v, cut_many rs (cut_at ts cs), l)

---- What is read

pub round_within : (rs ts : List ℕ) (cs : List Reply) (answers : List (List (List Reply))) (i : ℕ) → answers_by rs ts cs ≡ answers → i < length answers → i < length rs
round_within rs ts cs answers i v l = let same = ap length v in omega (arith, same, cut_many rs (cut_at ts cs), l)

-- how many threads a round has
pub round_found : (rs ts : List ℕ) (cs : List Reply) (answers : List (List (List Reply))) (i m end : ℕ) → AreFlat rs ts cs → answers_by rs ts cs ≡ answers → i < length answers → m ≡ get_or rs i m →
    end ≡ first_mark own_place (drop (i + 1) rs) (length ts) → (m ≤ end) × (end - m ≡ length (get_or answers i []))
round_found rs ts cs answers i m end a v l e f =
    let within = round_within rs ts cs answers i v l in
    let there = f ∙ ap (first_mark own_place (drop (i + 1) rs)) (sym (cut_many ts cs)) in
    let h = cut_length rs (cut_at ts cs) i m end (rounds_rise rs ts cs a) within e there in
    (h.0, sym h.1 ∙ ap (λ (all : List (List (List Reply))). length (get_or all i [])) v)

-- which thread a thread of a round is among those of all rounds
pub thread_found : (rs ts : List ℕ) (cs : List Reply) (answers : List (List (List Reply))) (i j m : ℕ) → AreFlat rs ts cs → answers_by rs ts cs ≡ answers → i < length answers → m ≡ get_or rs i m →
    j < length (get_or answers i []) → (m + j < length ts) × (get_or (get_or answers i []) j [] ≡ get_or (cut_at ts cs) (m + j) [])
thread_found rs ts cs answers i j m a v l e b =
    let within = round_within rs ts cs answers i v l in
    let there = subst (λ (all : List (List (List Reply))). j < length (get_or all i [])) (sym v) b in
    let h = cut_item rs (cut_at ts cs) i j m [] (rounds_rise rs ts cs a) within e there in
    (subst (λ n. m + j < n) (cut_many ts cs) h.0, ap (λ (all : List (List (List Reply))). get_or (get_or all i []) j []) (sym v) ∙ h.1)

pub thread_read : (ts : List ℕ) (cs : List Reply) (i m end : ℕ) → Rise own_place 0 ts (length cs) → i < length ts → m ≡ get_or ts i m → end ≡ first_mark own_place (drop (i + 1) ts) (length cs) →
    (m ≤ end) × ((end ≤ length cs) × (take (end - m) (drop m cs) ≡ get_or (cut_at ts cs) i []))
thread_read ts cs i m end r l e f =
    let up = rise_at own_place 0 ts (length cs) i m r l e in
    (subst (λ n. m ≤ n) (sym f) up.0, (subst (λ n. n ≤ length cs) (sym f) up.1, ap (λ n. take (n - m) (drop m cs)) f ∙ sym (cut_read ts cs i m l e)))

---- All replies

whole_threads : (ts : List ℕ) (cs : List Reply) → Rise own_place 0 ts (length cs) → round_replies (cut_at ts cs) ≡ drop (first_mark own_place ts (length cs)) cs
whole_threads ts cs r = pieces_whole own_place own_piece (λ q. q) round_replies refl (λ xs ys. refl) refl (λ m q ys. refl) 0 ts cs r

whole_rounds : (rs : List ℕ) (ts : List (List Reply)) → Rise own_place 0 rs (length ts) → all_replies (cut_at rs ts) ≡ round_replies (drop (first_mark own_place rs (length ts)) ts)
whole_rounds rs ts r = pieces_whole own_place own_piece round_replies all_replies refl (λ xs ys. flat_map-append (λ q. q) xs ys) refl (λ m q ys. refl) 0 rs ts r

pub flat_replies : (rs ts : List ℕ) (cs : List Reply) → AreFlat rs ts cs → all_replies (answers_by rs ts cs) ≡ cs
flat_replies rs ts cs a =
    let same = cut_many ts cs in
    whole_rounds rs (cut_at ts cs) (rounds_rise rs ts cs a)
    ∙ ap (λ n. round_replies (drop n (cut_at ts cs))) (ap (first_mark own_place rs) same ∙ a.of_rounds.begins)
    ∙ whole_threads ts cs a.of_threads.rise
    ∙ ap (λ n. drop n cs) a.of_threads.begins

---- Counts

count_both : (p : Reply → Bool) (xs ys : List Reply) → count_by p (xs ++ ys) ≡ count_by p xs + count_by p ys
count_both p xs ys = sum_by-append (λ x. cond (p x) 1 0) xs ys

count_threads : (p : Reply → Bool) (threads : List (List Reply)) → sum_by (count_by p) threads ≡ count_by p (round_replies threads)
count_threads p [] = refl
count_threads p (t ∷ ts) =
    sum_by-cons (count_by p) t ts
    ∙ ap (λ n. count_by p t + n) (count_threads p ts)
    ∙ sym (count_both p t (round_replies ts))

-- how many of all replies pass
pub count_all : (p : Reply → Bool) (answers : List (List (List Reply))) → replies_that p answers ≡ count_by p (all_replies answers)
count_all p [] = refl
count_all p (r ∷ rs) =
    sum_by-cons (λ round. sum_by (count_by p) round) r rs
    ∙ ap (λ n. sum_by (count_by p) r + n) (count_all p rs)
    ∙ ap (λ n. n + count_by p (all_replies rs)) (count_threads p r)
    ∙ sym (count_both p (round_replies r) (all_replies rs))
