-- The threads of a script on one heap, round by round, each with a caller of its own.
use Rattle.std.specs.Prelude.{◌≡◌, ℕ, ◌%◌, List, [], ◌∷◌, ◌++◌, length, slice_index_or}
use Rattle.heap_model.specs.declared.Entry.{Entry}
use Rattle.heap_model.specs.declared.Limits.{Limits}
use Rattle.heap_model.specs.declared.Reply.{Reply}
use Rattle.heap_model.specs.State.{Setting}
use Rattle.heap_model.specs.CallState.{Configuration}
use Rattle.heap_model.specs.History.{IsLegal, first_configuration, configuration_after}
use Rattle.heap_model.specs.Moments.{moments}
use Rattle.heap_model.specs.Served.{in_line}
use Rattle.script_text.specs.declared.commands.Command.{Command}
use Rattle.script_text.specs.Values.{Answered}
use Rattle.thread_rounds.specs.Threads.{answered, IsThread}

abbrev pub answered_threads : List (List Command) → List (List Reply) → List (List Answered)
answered_threads (cs ∷ threads) (rs ∷ answers) = answered cs rs ∷ answered_threads threads answers
answered_threads threads answers = []

-- These entries are a round, which begins in m: what caller t has of them are the calls of thread t. A thread that is not there has no
-- commands, so its caller has no entry.
pub record IsRound (s : Setting) (m : Configuration) (earlier : List (List (List Answered))) (threads : List (List Command)) (answers : List (List Reply)) (es : List Entry) : Type 0 where
  pub as_many : length answers ≡ length threads
  pub each : (t : ℕ) → IsThread s t earlier [] 0 (slice_index_or threads t []) (slice_index_or answers t []) (moments s t m es)

-- Rounds, one behind the other: each has entries of its own, and begins with what the one before has left.
abbrev pub AreRounds : Setting → Configuration → List (List (List Answered)) → List (List (List Command)) → List (List (List Reply)) → List (List Entry) → Type 0
AreRounds s m earlier [] [] [] = Unit {0}
AreRounds s m earlier (threads ∷ script) (answers ∷ others) (es ∷ rest) =
    IsRound s m earlier threads answers es
    × AreRounds s (configuration_after s m es) (earlier ++ answered_threads threads answers ∷ []) script others rest
AreRounds s m earlier script others rest = ⊥

-- caller t has slot t, over and over again, and stream t
abbrev pub setting_of : Limits → ℕ → Setting
setting_of limits seed = record { limits = limits; seed = seed; slot = λ t. t % limits.slots; stream = λ t. t }

-- A script was run on one heap: the history is legal, and it is that of the script's rounds, which got these answers.
pub record IsRun (limits : Limits) (seed : ℕ) (script : List (List (List Command))) (answers : List (List (List Reply))) (history : List Entry) : Type 0 where
  pub legal : IsLegal (setting_of limits seed) history
  pub rounds : List (List Entry)
  pub in_order : history ≡ in_line rounds
  pub are_run : AreRounds (setting_of limits seed) first_configuration [] script answers rounds
