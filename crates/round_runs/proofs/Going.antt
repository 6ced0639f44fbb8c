-- Rounds, one behind the other, as workers have run them.
use Rattle.std.proofs.Common.{◌≡◌, ℕ, zero, suc, ◌+◌, ◌<◌, ◌≤◌, List, [], ◌∷◌, ◌++◌, map, length, take, get_or, refl, sym, ap, ◌∙◌, subst, append_assoc, arith}
use Rattle.std.specs.Prelude.{flat_map, max, fold}
use Rattle.std.specs.List.{AllByRecursion}
use Rattle.std.proofs.lemmas.List.{append-nil}
use mathlib.Core.List.{IsPrefix}
use Rattle.heap_model.specs.declared.Entry.{Entry}
use Rattle.heap_model.specs.declared.Opening.{Opening}
use Rattle.heap_model.specs.declared.Reply.{Reply}
use Rattle.heap_model.specs.History.{own}
use Rattle.heap_model.specs.Served.{in_line}
use Rattle.claim_rule.specs.declared.views.Assignment.{Assignment}
use Rattle.script_text.specs.declared.commands.Command.{Command}
use Rattle.script_text.specs.Scripts.{most_threads}
use Rattle.script_text.specs.ThreadLines.{ThreadLines}
use Rattle.script_text.specs.Values.{Answered}
use Rattle.script_laws.specs.Printable.{AreBalanced}
use Rattle.name_values.specs.Table.{Tells}
use Rattle.heap_gate.specs.Token.{HeapToken, Token}
use Rattle.heap_now.specs.Callers.{IsFreeCaller}
use Rattle.thread_rounds.specs.Rounds.{answered_threads}
use Rattle.thread_rounds.specs.Threads.{answered}
use Rattle.thread_commands.specs.declared.workers.Worker.{Worker}
use Rattle.round_runs.specs.Crews.{AreFree, IsAbreast, AreAbreast, AreTold}
use Rattle.round_runs.specs.Turns.{threads_of, replies_of, news_of, HasDone, Plays, Learns, IsDone, AreDone, answered_rounds, HaveRun}
use Rattle.round_runs.proofs.Names.{given_length, told_own, round_told}

---- One round more

pub line-append : {A : Type 0} (xs ys : List (List A)) → in_line (xs ++ ys) ≡ in_line xs ++ in_line ys
line-append [] ys = refl
line-append (x ∷ xs) ys = ap (λ l. x ++ l) (line-append xs ys) ∙ sym (append_assoc x (in_line xs) (in_line ys))

pub line_more : {A : Type 0} (xs : List (List A)) (y : List A) → in_line (xs ++ y ∷ []) ≡ in_line xs ++ y
line_more xs y = line-append xs (y ∷ []) ∙ ap (λ l. in_line xs ++ l) (append-nil y)

module _ (o : Opening) (roll : List Assignment) (threads : List (List Command)) (given : List (List Reply)) (es : List Entry) where
  done_more : (history : List Entry) (earlier : List (List (List Answered))) (script : List (List (List Command))) (answers : List (List (List Reply))) (parts : List (List Entry))
      → AreDone o roll history earlier script answers parts
      → IsDone o roll (history ++ in_line parts) (earlier ++ answered_rounds script answers) threads given es
      → AreDone o roll history earlier (script ++ threads ∷ []) (answers ++ given ∷ []) (parts ++ es ∷ [])
  done_more history earlier [] [] [] a d =
      (subst (λ (x : List Entry × List (List (List Answered))). IsDone o roll x.0 x.1 threads given es) (λ i. (append-nil history i, append-nil earlier i)) d, tt)
  done_more history earlier [] [] (p ∷ ps) a d = absurd a
  done_more history earlier [] (x ∷ xs) ps a d = absurd a
  done_more history earlier (s ∷ ss) [] ps a d = absurd a
  done_more history earlier (s ∷ ss) (x ∷ xs) [] a d = absurd a
  done_more history earlier (s ∷ ss) (x ∷ xs) (p ∷ ps) a d = (
    a.0,
    done_more (history ++ p) (earlier ++ answered_threads s x ∷ []) ss xs ps a.1
        (subst (λ (z : List Entry × List (List (List Answered))). IsDone o roll z.0 z.1 threads given es)
        (λ i. (sym (append_assoc history p (in_line ps)) i, sym (append_assoc earlier (answered_threads s x ∷ []) (answered_rounds ss xs)) i)) d),
  )

  answered_more : (history : List Entry) (earlier : List (List (List Answered))) (script : List (List (List Command))) (answers : List (List (List Reply))) (parts : List (List Entry))
      → AreDone o roll history earlier script answers parts
      → answered_rounds (script ++ threads ∷ []) (answers ++ given ∷ []) ≡ answered_rounds script answers ++ answered_threads threads given ∷ []
  answered_more history earlier [] [] [] a = refl
  answered_more history earlier [] [] (p ∷ ps) a = absurd a
  answered_more history earlier [] (x ∷ xs) ps a = absurd a
  answered_more history earlier (s ∷ ss) [] ps a = absurd a
  answered_more history earlier (s ∷ ss) (x ∷ xs) [] a = absurd a
  answered_more history earlier (s ∷ ss) (x ∷ xs) (p ∷ ps) a =
      ap (λ l. answered_threads s x ∷ l) (answered_more (history ++ p) (earlier ++ answered_threads s x ∷ []) ss xs ps a.1)

-- a reply of worker t is one of thread t, and there are none of others
get_given : (threads : List (List Command)) (ws : List Worker) (t : ℕ) (d : Worker) → t < length ws → length threads ≤ length ws
    → (P : List Command → List Reply → Type 0) → ((rs : List Reply) → P [] rs → P [] [])
    → P (get_or threads t []) (get_or ws t d).replies.items → P (get_or threads t []) (get_or (map replies_of (take (length threads) ws)) t [])
get_given [] ws t d l m P none p = none (get_or ws t d).replies.items p
get_given (c ∷ cs) [] t d l m P none p = absurd (omega arith)
get_given (c ∷ cs) (w ∷ ws) zero d l m P none p = p
get_given (c ∷ cs) (w ∷ ws) (suc t) d l m P none p = get_given cs ws t d (omega arith) (omega arith) P none p

no_commands : (o : Opening) (roll : List Assignment) (history es : List Entry) (t : ℕ) (earlier : List (List (List Answered))) (rs : List Reply) → HasDone o roll history es t earlier [] rs → HasDone o roll history es t earlier [] []
no_commands o roll history es t earlier rs d = record { known = d.known; begins = d.begins; thread = λ s q. (refl, (d.thread s q).1) }

some_worker : (ws : List Worker) (t : ℕ) → t < length ws → Worker
some_worker [] t l = absurd (omega arith)
some_worker (w ∷ ws) t l = w

module _ (o : Opening) (roll : List Assignment) (ws ws' ws'' : List Worker) (script : List (List (List Command))) (answers : List (List (List Reply))) (threads : List (List Command))
    (all : length roll ≡ length ws) (many : length ws' ≡ length ws) (many' : length ws'' ≡ length ws') (few : length threads ≤ length ws)
    (r : HaveRun o roll ws script answers) (p : Plays o roll ws ws' (answered_rounds script answers) threads (in_line r.rounds))
    (learn : (t : ℕ) (d : Worker) → t < length ws' → Learns (flat_map news_of ws') t (get_or ws' t d) (get_or ws'' t d)) where
  abbrev answers' : List (List Reply)
  answers' = map replies_of (take (length threads) ws')

  few' : length threads ≤ length ws'
  few' = omega (arith, few, many)

  done : IsDone o roll (in_line r.rounds) (answered_rounds script answers) threads answers' p.added
  done = record {
    as_many = given_length (length threads) ws' few';
    few = omega (arith, few, all);
    each = λ t l.
        let d = some_worker ws' t (omega (arith, l, all, many)) in
        get_given threads ws' t d (omega (arith, l, all, many)) few' (λ cs rs. HasDone o roll (in_line r.rounds) p.added t (answered_rounds script answers) cs rs)
        (no_commands o roll (in_line r.rounds) p.added t (answered_rounds script answers))
        (p.each t d (omega (arith, l, all)));
  }

  still : (history : List Entry) (t : ℕ) (a b : Worker) → b.caller ≡ a.caller → IsAbreast roll history t a → IsAbreast roll history t b
  still history t a b e x = record {
    number = ap (λ (c : Token). c.number) e ∙ x.number;
    knows = subst (λ (c : Token). IsPrefix roll c.roll) (sym e) x.knows;
    seen = subst (λ (c : Token). IsPrefix history c.seen) (sym e) x.seen;
    own = ap (λ (c : Token). own t c.seen) e ∙ x.own;
  }

  names' : (t : ℕ) (d : Worker) → t < length ws' → Tells (get_or ws' t d).names (answered_rounds script answers) (answered (get_or threads t []) (get_or ws' t d).replies.items)
  names' t d l = p.names t d (omega (arith, l, many))

  pub run_more : HaveRun o roll ws'' (script ++ threads ∷ []) (answers ++ answers' ∷ [])
  run_more = record {
    rounds = r.rounds ++ p.added ∷ [];
    abreast = λ t d l.
        let i : t < length ws' = omega (arith, l, many') in
        subst (λ (es : List Entry). IsAbreast roll es t (get_or ws'' t d)) (sym (line_more r.rounds p.added))
        (still (in_line r.rounds ++ p.added) t (get_or ws' t d) (get_or ws'' t d) (learn t d i).caller (p.abreast t d i));
    are_done = done_more o roll threads answers' p.added [] [] script answers r.rounds r.are_done done;
    told = λ t d l.
        let i : t < length ws' = omega (arith, l, many') in
        subst (λ (e : List (List (List Answered))). Tells (get_or ws'' t d).names e []) (sym (answered_more o roll threads answers' p.added [] [] script answers r.rounds r.are_done))
        ((learn t d i).names (answered_rounds script answers) (answered_threads threads answers') (round_told threads ws' (answered_rounds script answers) few' names') (told_own threads ws' (answered_rounds script answers) few' names' t d i));
    none = λ z.
        let none : length ws ≡ 0 = omega (arith, z, many, many') in
        line_more r.rounds p.added ∙ (ap (λ (es : List Entry). in_line r.rounds ++ es) (p.none none) ∙ (append-nil (in_line r.rounds) ∙ r.none none));
  }

---- The rounds of a script

-- before the first round
pub first_run : (o : Opening) (roll : List Assignment) (ws : List Worker) (answers : List (List (List Reply))) → answers ≡ [] → AreAbreast roll [] ws → AreTold [] [] ws → HaveRun o roll ws [] answers
first_run o roll ws answers none a k = subst (HaveRun o roll ws []) (sym none) (record { rounds = []; abreast = a; are_done = tt; told = k; none = λ z. refl })

pub free_still : (h : HeapToken) (ws ws' : List Worker) → length ws' ≡ length ws → ((t : ℕ) (d : Worker) → t < length ws → (get_or ws' t d).caller ≡ (get_or ws t d).caller) → AreFree h ws → AreFree h ws'
free_still h ws ws' many same free t d l =
    let i : t < length ws = omega (arith, l, many) in
    subst (λ (c : Token). IsFreeCaller h c) (sym (same t d i)) (free t d i)

pub take_round : (rounds : List (List ThreadLines)) (i : ℕ) → i < length rounds → take (i + 1) (map threads_of rounds) ≡ take i (map threads_of rounds) ++ threads_of (get_or rounds i []) ∷ []
take_round [] i l = absurd (omega arith)
take_round (x ∷ xs) zero l = refl
take_round (x ∷ xs) (suc i) l = let e : suc i + 1 ≡ suc (i + 1) = omega arith in rw e (ap (λ ys. threads_of x ∷ ys) (take_round xs i (omega arith)))

pub take_all : {A : Type 0} (xs : List A) (i : ℕ) → length xs ≤ i → take i xs ≡ xs
take_all [] zero l = refl
take_all [] (suc i) l = refl
take_all (x ∷ xs) zero l = absurd (omega arith)
take_all (x ∷ xs) (suc i) l = ap (λ ys. x ∷ ys) (take_all xs i (omega arith))

pub map_length : {A B : Type 0} (f : A → B) (xs : List A) → length (map f xs) ≡ length xs
map_length f [] = refl
map_length f (x ∷ xs) = ap suc (map_length f xs)

pub balanced_at : (rounds : List (List ThreadLines)) (i : ℕ) → i < length rounds → AllByRecursion AreBalanced (map threads_of rounds) → AreBalanced (threads_of (get_or rounds i []))
balanced_at [] i l a = absurd (omega arith)
balanced_at (x ∷ xs) zero l a = a.0
balanced_at (x ∷ xs) (suc i) l a = balanced_at xs i (omega arith) a.1

most_grows : (rounds : List (List ThreadLines)) (most : ℕ) → most ≤ fold (λ m round. max m (length round)) most rounds
most_grows [] most = omega arith
most_grows (x ∷ xs) most = let a = most_grows xs (max most (length x)) in omega (arith, a)

most_at : (rounds : List (List ThreadLines)) (most i : ℕ) → i < length rounds → length (get_or rounds i []) ≤ fold (λ m round. max m (length round)) most rounds
most_at [] most i l = absurd (omega arith)
most_at (x ∷ xs) most zero l = let a = most_grows xs (max most (length x)) in omega (arith, a)
most_at (x ∷ xs) most (suc i) l = most_at xs (max most (length x)) i (omega arith)

pub few_at : (rounds : List (List ThreadLines)) (i n : ℕ) → i < length rounds → most_threads rounds ≤ n → length (get_or rounds i []) ≤ n
few_at rounds i n l m = let a = most_at rounds 0 i l in omega (arith, a, m)

---- A vector that was lent as a slice

pub written : {A : Type 0} (n : ℕ) (xs zs : List A) → n ≡ length xs → take n (xs ++ zs) ≡ xs
written n xs zs e = ap (λ (i : ℕ). take i (xs ++ zs)) e ∙ front xs zs
  where
    front : {A : Type 0} (xs zs : List A) → take (length xs) (xs ++ zs) ≡ xs
    front [] zs = refl
    front (x ∷ xs) zs = ap (λ l. x ∷ l) (front xs zs)
