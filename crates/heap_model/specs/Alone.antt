-- One caller alone: its acts as a history, and the configurations between its calls.
use Rattle.std.specs.Prelude.{ℕ, Bool, true, ◌&&◌, List, [], ◌∷◌, None}
use Rattle.heap_model.specs.declared.Act.{Act}
use Rattle.heap_model.specs.declared.Entry.{Entry}
use Rattle.heap_model.specs.declared.Limits.{Limits}
use Rattle.heap_model.specs.State.{Setting, BackPart, VsPart, Place, open_locks}
use Rattle.heap_model.specs.CallState.{CallState, Nothing, SpanHistory, Configuration}
use Rattle.heap_model.specs.Legal.{after, may_follow}

-- what a heap of one caller is given: caller 0 has slot 0 and stream 0
abbrev pub alone : Limits → ℕ → Setting
alone limits seed = record { limits = limits; seed = seed; slot = λ _. 0; stream = λ _. 0 }

abbrev pub by_zero : Act → Entry
by_zero act = record { caller = 0; act = act }

-- the configuration after acts of caller 0
abbrev pub configuration_by : Setting → Configuration → List Act → Configuration
configuration_by s m [] = m
configuration_by s m (act ∷ rest) = configuration_by s (after s m (by_zero act)) rest

-- each of these acts of caller 0 may come behind those before it
abbrev pub may_all_come : Setting → Configuration → List Act → Bool
may_all_come s m [] = true
may_all_come s m (act ∷ rest) = may_follow s m (by_zero act) && may_all_come s (after s m (by_zero act)) rest

-- a configuration in which nobody is at the gate, no lock is held, and nothing is demanded
abbrev pub at_rest : BackPart → VsPart → List Place → List Place → (ℕ → ℕ) → (ℕ → CallState) → (ℕ → Bool) → SpanHistory → Configuration
at_rest back vs lfh large words calls disturbed span_history = record {
  state = record {
    gate = record { counted = []; turning = []; owner = None; locks = open_locks };
    back = back;
    vs = vs;
    lfh = lfh;
    large = large;
    words = words;
  };
  now = record { calls = calls; disturbed = disturbed; span_history = span_history; demand = Nothing };
}
