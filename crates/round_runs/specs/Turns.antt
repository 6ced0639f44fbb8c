-- One round: what each worker does, how all meet behind it, and what the whole of it comes to.
use Rattle.std.specs.Prelude.{◌≡◌, ℕ, ◌<◌, ◌≤◌, false, List, [], ◌∷◌, ◌++◌, map, length, slice_index_or}
use mathlib.Core.List.{IsPrefix}
use Rattle.heap_model.specs.declared.Entry.{Entry}
use Rattle.heap_model.specs.declared.Opening.{Opening}
use Rattle.heap_model.specs.declared.Reply.{Reply}
use Rattle.heap_model.specs.History.{own, configuration_of}
use Rattle.heap_model.specs.Moments.{moments}
use Rattle.heap_model.specs.Served.{in_line}
use Rattle.heap_model.specs.State.{Setting}
use Rattle.claim_rule.specs.declared.views.Assignment.{Assignment}
use Rattle.claim_rule.specs.Entries.{IsSettingOf}
use Rattle.script_text.specs.declared.commands.Command.{Command}
use Rattle.script_text.specs.Scripts.{command_of}
use Rattle.script_text.specs.ThreadLines.{ThreadLines}
use Rattle.script_text.specs.Values.{Answered}
use Rattle.name_values.specs.declared.Assigned.{Assigned}
use Rattle.name_values.specs.Table.{Tells, TellsRound}
use Rattle.heap_gate.specs.Token.{HeapToken}
use Rattle.thread_rounds.specs.Rounds.{answered_threads}
use Rattle.thread_rounds.specs.Threads.{answered, IsThread}
use Rattle.thread_commands.specs.Working.{IsFree}
use Rattle.thread_commands.specs.declared.workers.Worker.{Worker}
use Rattle.round_runs.specs.Crews.{AreAbreast, AreTold}

-- the commands of the threads of a round
abbrev pub threads_of : List ThreadLines → List (List Command)
threads_of round = map (λ thread. map command_of thread.commands) round

abbrev pub thread_in : List ThreadLines → ℕ → List Command
thread_in round t = slice_index_or (threads_of round) t []

abbrev pub replies_of : Worker → List Reply
replies_of w = w.replies.items

abbrev pub news_of : Worker → List Assigned
news_of w = w.names.news

---- Meeting

-- the worker's caller has seen more, and has done nothing
pub record Keeps (h : HeapToken) (old new : Worker) : Type 0 where
  pub free : IsFree h new
  pub number : new.caller.number ≡ old.caller.number
  pub roll : IsPrefix old.caller.roll new.caller.roll
  pub seen : IsPrefix old.caller.seen new.caller.seen
  pub own : own old.caller.number new.caller.seen ≡ own old.caller.number old.caller.seen
  pub names : new.names ≡ old.names
  pub replies : new.replies ≡ old.replies
  pub short : new.short ≡ old.short

-- what the first one knew and had seen begins what the second one knows and has seen
pub record IsBehind (old new : Worker) : Type 0 where
  pub roll : IsPrefix old.caller.roll new.caller.roll
  pub seen : IsPrefix old.caller.seen new.caller.seen

-- a worker that has met the first one: each has seen what the other had
pub record Passes (h : HeapToken) (first first' w w' : Worker) : Type 0 where
  pub keeps : Keeps h w w'
  pub told : IsBehind w first'
  pub heard : IsBehind first w'

-- All workers have met: what they knew and had seen before begins what one of them knew and had seen in between, and this begins what
-- each has seen since.
pub record HaveAllMet (ws ws' : List Worker) : Type 0 where
  pub middle : Worker
  pub told : (t : ℕ) (d : Worker) → t < length ws → IsBehind (slice_index_or ws t d) middle
  pub heard : (t : ℕ) (d : Worker) → t < length ws → IsBehind middle (slice_index_or ws' t d)

abbrev pub AreNotShort : List Worker → Type 0
AreNotShort ws = (t : ℕ) (d : Worker) → t < length ws → (slice_index_or ws t d).short ≡ false

---- A round

-- Caller t has run these commands behind rounds, where a history was, and these entries were added: it has these replies. This is said in
-- each setting of the callers that it knows of, of which these are the first ones.
pub record HasDone (o : Opening) (roll : List Assignment) (history es : List Entry) (t : ℕ) (earlier : List (List (List Answered))) (commands : List Command) (given : List Reply) : Type 0 where
  pub known : List Assignment
  pub begins : IsPrefix roll known
  pub thread : (s : Setting) → IsSettingOf o known s → IsThread s t earlier [] 0 commands given (moments s t (configuration_of s history) es)

-- A round was played, behind rounds and where all workers had seen a history: they all have seen what was added since, worker t has done
-- what thread t asks for, and knows what its names stand for.
pub record Plays (o : Opening) (roll : List Assignment) (ws ws' : List Worker) (earlier : List (List (List Answered))) (threads : List (List Command)) (history : List Entry) : Type 0 where
  pub added : List Entry
  pub abreast : AreAbreast roll (history ++ added) ws'
  pub each : (t : ℕ) (d : Worker) → t < length ws
      → HasDone o roll history added t earlier (slice_index_or threads t []) (slice_index_or ws' t d).replies.items
  pub names : (t : ℕ) (d : Worker) → t < length ws
      → Tells (slice_index_or ws' t d).names earlier (answered (slice_index_or threads t []) (slice_index_or ws' t d).replies.items)
  pub none : length ws ≡ 0 → added ≡ []

-- Behind a round the worker has learned what its threads assigned, and is else as it was.
pub record Learns (news : List Assigned) (t : ℕ) (old new : Worker) : Type 0 where
  pub caller : new.caller ≡ old.caller
  pub names : (earlier : List (List (List Answered))) → (round : List (List Answered)) → TellsRound news round
      → Tells old.names earlier (slice_index_or round t []) → Tells new.names (earlier ++ round ∷ []) []

---- Rounds

-- callers have run the threads of a round, of which there are no more than these callers
pub record IsDone (o : Opening) (roll : List Assignment) (history : List Entry) (earlier : List (List (List Answered))) (threads : List (List Command)) (answers : List (List Reply)) (es : List Entry) : Type 0 where
  pub as_many : length answers ≡ length threads
  pub few : length threads ≤ length roll
  pub each : (t : ℕ) → t < length roll → HasDone o roll history es t earlier (slice_index_or threads t []) (slice_index_or answers t [])

-- rounds, one behind the other
abbrev pub AreDone : Opening → List Assignment → List Entry → List (List (List Answered)) → List (List (List Command)) → List (List (List Reply)) → List (List Entry) → Type 0
AreDone o roll history earlier [] [] [] = Unit {0}
AreDone o roll history earlier (threads ∷ script) (answers ∷ others) (es ∷ rest) =
    IsDone o roll history earlier threads answers es
    × AreDone o roll (history ++ es) (earlier ++ answered_threads threads answers ∷ []) script others rest
AreDone o roll history earlier script others rest = ⊥

abbrev pub answered_rounds : List (List (List Command)) → List (List (List Reply)) → List (List (List Answered))
answered_rounds (threads ∷ script) (answers ∷ others) = answered_threads threads answers ∷ answered_rounds script others
answered_rounds script others = []

-- The workers have run these rounds: all have seen what was added, and know what names stand for.
pub record HaveRun (o : Opening) (roll : List Assignment) (ws : List Worker) (script : List (List (List Command))) (answers : List (List (List Reply))) : Type 0 where
  pub rounds : List (List Entry)
  pub abreast : AreAbreast roll (in_line rounds) ws
  pub are_done : AreDone o roll [] [] script answers rounds
  pub told : AreTold (answered_rounds script answers) [] ws
  pub none : length ws ≡ 0 → in_line rounds ≡ []
