-- What the threads of a round were answered and assigned, taken together.
use Rattle.std.proofs.Common.{◌≡◌, ℕ, zero, suc, ◌<◌, ◌≤◌, List, [], ◌∷◌, map, length, take, get_or, Option, None, refl, ap, ◌∙◌, subst, arith}
use Rattle.std.specs.Prelude.{flat_map}
use Rattle.std.specs.Option.{option_or}
use Rattle.heap_model.specs.declared.Reply.{Reply}
use Rattle.script_text.specs.declared.commands.Command.{Command}
use Rattle.script_text.specs.Values.{Answered, last_assigned, last_of_round}
use Rattle.name_values.specs.Table.{Tells, TellsRound, last_in}
use Rattle.name_values.proofs.Tables.{last_in-append}
use Rattle.thread_rounds.specs.Rounds.{answered_threads}
use Rattle.thread_rounds.specs.Threads.{answered}
use Rattle.thread_commands.specs.declared.workers.Worker.{Worker}
use Rattle.round_runs.specs.Turns.{replies_of, news_of}

---- What was answered

none_answered : (rs : List Reply) → answered [] rs ≡ []
none_answered [] = refl
none_answered (r ∷ rs) = refl

pub given_length : (k : ℕ) (ws : List Worker) → k ≤ length ws → length (map replies_of (take k ws)) ≡ k
given_length zero ws l = refl
given_length (suc k) [] l = absurd (omega arith)
given_length (suc k) (w ∷ ws) l = ap suc (given_length k ws (omega arith))

pub answered_length : (threads : List (List Command)) (answers : List (List Reply)) → length answers ≡ length threads → length (answered_threads threads answers) ≡ length threads
answered_length [] answers e = refl
answered_length (c ∷ cs) [] e = absurd (omega (arith, e))
answered_length (c ∷ cs) (r ∷ rs) e = ap suc (answered_length cs rs (omega (arith, e)))

-- what worker t was answered is what thread t was
pub answered_worker : (threads : List (List Command)) (ws : List Worker) (t : ℕ) (d : Worker) → t < length ws → length threads ≤ length ws
    → answered (get_or threads t []) (get_or ws t d).replies.items ≡ get_or (answered_threads threads (map replies_of (take (length threads) ws))) t []
answered_worker [] ws t d l m = none_answered (get_or ws t d).replies.items
answered_worker (c ∷ cs) [] t d l m = absurd (omega arith)
answered_worker (c ∷ cs) (w ∷ ws) zero d l m = refl
answered_worker (c ∷ cs) (w ∷ ws) (suc t) d l m = answered_worker cs ws t d (omega arith) (omega arith)

---- What was assigned

-- no worker assigned the name
none_assigned : (ws : List Worker) (name : ℕ) → ((t : ℕ) (d : Worker) → t < length ws → last_in (get_or ws t d).names.news name ≡ None) → last_in (flat_map news_of ws) name ≡ None
none_assigned [] name none = refl
none_assigned (w ∷ ws) name none =
    last_in-append (news_of w) (flat_map news_of ws) name
    ∙ (ap (λ (o : Option ℕ). option_or o (last_in (news_of w) name)) (none_assigned ws name (λ t d l. none (suc t) d (omega arith)))
    ∙ none 0 w (omega arith))

-- the last assignment of the highest worker that assigned the name
pub assigned_all : (ws : List Worker) (round : List (List Answered)) (name : ℕ) → length round ≤ length ws
    → ((t : ℕ) (d : Worker) → t < length ws → last_in (get_or ws t d).names.news name ≡ last_assigned (get_or round t []) name)
    → last_in (flat_map news_of ws) name ≡ last_of_round round name
assigned_all ws [] name few each = none_assigned ws name each
assigned_all [] (r ∷ rs) name few each = absurd (omega arith)
assigned_all (w ∷ ws) (r ∷ rs) name few each =
    last_in-append (news_of w) (flat_map news_of ws) name
    ∙ (ap (λ (o : Option ℕ). option_or o (last_in (news_of w) name)) (assigned_all ws rs name (omega arith) (λ t d l. each (suc t) d (omega arith)))
    ∙ ap (option_or (last_of_round rs name)) (each 0 w (omega arith)))

module _ (threads : List (List Command)) (ws : List Worker) (earlier : List (List (List Answered))) (few : length threads ≤ length ws)
    (names : (t : ℕ) (d : Worker) → t < length ws → Tells (get_or ws t d).names earlier (answered (get_or threads t []) (get_or ws t d).replies.items)) where
  abbrev given : List (List Answered)
  given = answered_threads threads (map replies_of (take (length threads) ws))

  -- each worker knows what its own thread did, as a thread of the round
  pub told_own : (t : ℕ) (d : Worker) → t < length ws → Tells (get_or ws t d).names earlier (get_or given t [])
  told_own t d l = subst (Tells (get_or ws t d).names earlier) (answered_worker threads ws t d l few) (names t d l)

  pub round_told : TellsRound (flat_map news_of ws) given
  round_told name =
      assigned_all ws given name
      (let e = answered_length threads (map replies_of (take (length threads) ws)) (given_length (length threads) ws few) in omega (arith, e, few))
      (λ t d l. (told_own t d l).news name)
