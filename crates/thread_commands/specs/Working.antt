-- What a worker is, and what it does in a round.
use Rattle.std.specs.Prelude.{◌≡◌, false, List, [], ◌∷◌, ◌++◌, MatchBool}
use Rattle.heap_model.specs.declared.Call.{Call}
use Rattle.heap_model.specs.declared.Reply.{Reply}
use Rattle.heap_model.specs.History.{configuration_of}
use Rattle.heap_model.specs.Moments.{moments}
use Rattle.script_text.specs.declared.commands.Command.{Command}
use Rattle.script_text.specs.Values.{Answered}
use Rattle.report_text.specs.Report.{is_seen}
use Rattle.name_values.specs.Table.{Tells}
use Rattle.heap_gate.specs.Token.{HeapToken, Token, Always}
use Rattle.heap_now.specs.Callers.{IsFreeCaller}
use Rattle.thread_calls.specs.Serving.{Goes, Serves, EndsOnce, IsDepthBehind}
use Rattle.thread_rounds.specs.Threads.{answered, asked_at, IsThread}
use Rattle.thread_commands.specs.declared.workers.Worker.{Worker}

-- these replies are all that these commands got: a block that a walk has seen is not its last one
abbrev pub Fills : List Command → List Reply → Type 0
Fills [] [] = Unit {0}
Fills [] (r ∷ rs) = ⊥
Fills (c ∷ cs) [] = ⊥
Fills (c ∷ cs) (r ∷ rs) = MatchBool (is_seen r) (Fills (c ∷ cs) rs) (Fills cs rs)

-- its caller may call, and does not own the heap lock
abbrev pub IsFree : HeapToken → Worker → Type 0
IsFree h w = IsFreeCaller h w.caller

-- The caller has made a call, or a part of a walk, and may call again. This tells how often it has the heap lock then.
pub record IsLed (call : Call) (old new : Token) : Type 0 where
  pub goes : Goes old new
  pub depth : IsDepthBehind call old.depth new.depth

-- Behind rounds and behind its own commands so far, the worker has run one more, which got these replies.
pub record RunsOne (old new : Worker) (earlier : List (List (List Answered))) (own : List Answered) (command : Command) : Type 0 where
  pub its : List Reply
  pub serves : Serves old.caller new.caller (asked_at earlier own command) its
  pub ends : EndsOnce its
  pub replies : new.replies.items ≡ old.replies.items ++ its
  pub names : Tells new.names earlier (own ++ answered (command ∷ []) its)

-- .. behind whatever its names tell
abbrev pub RunsNext : Worker → Worker → Command → Type 0
RunsNext old new command = (earlier : List (List (List Answered))) → (own : List Answered) → Tells old.names earlier own → RunsOne old new earlier own command

-- Behind rounds, the worker has run the commands of a thread, which got these replies, and nothing else; and it knows what its names stand for.
pub record Runs (old new : Worker) (earlier : List (List (List Answered))) (cs : List Command) : Type 0 where
  pub goes : Goes old.caller new.caller
  pub thread : Always new.caller (λ s.
      IsThread s old.caller.number earlier [] 0 cs new.replies.items (moments s old.caller.number (configuration_of s old.caller.seen) goes.seen.0))
  pub names : Tells new.names earlier (answered cs new.replies.items)

-- .. behind whatever rounds its names tell
abbrev pub RunsThread : Worker → Worker → List Command → Type 0
RunsThread old new cs = (earlier : List (List (List Answered))) → Tells old.names earlier [] → Runs old new earlier cs

-- The worker may work again. Unless it was short of memory, it has run these commands.
pub record Works (h : HeapToken) (old new : Worker) (cs : List Command) : Type 0 where
  pub free : IsFree h new
  pub runs : new.short ≡ false → RunsThread old new cs
