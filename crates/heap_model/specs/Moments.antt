-- The acts of one caller in a history, each with the configuration in which it came.
use Rattle.std.specs.Prelude.{ℕ, ◌==◌, Bool, List, [], ◌∷◌, map, Option, Some, None, if◌then◌else◌}
use Rattle.heap_model.specs.declared.Act.{Act}
use Rattle.heap_model.specs.declared.Entry.{Entry}
use Rattle.heap_model.specs.State.{Setting, State}
use Rattle.heap_model.specs.CallState.{Configuration}
use Rattle.heap_model.specs.Legal.{after}
use Rattle.heap_model.specs.Alone.{by_zero}

pub record Moment : Type 0 where
  pub before : Configuration
  pub act : Act

-- those of c among entries that begin in m
abbrev pub moments : Setting → ℕ → Configuration → List Entry → List Moment
moments s c m [] = []
moments s c m (e ∷ es) =
    if e.caller == c then record { before = m; act = e.act } ∷ moments s c (after s m e) es else moments s c (after s m e) es

-- .. of caller 0 alone
abbrev pub moments_by : Setting → Configuration → List Act → List Moment
moments_by s m rest = moments s 0 m (map by_zero rest)

abbrev pub act_of : Moment → Act
act_of x = x.act

abbrev pub acts_of : List Moment → List Act
acts_of xs = map act_of xs

-- the state before the first act that passes
abbrev pub state_before : (Act → Bool) → List Moment → Option State
state_before test [] = None
state_before test (x ∷ xs) = if test x.act then Some x.before.state else state_before test xs

-- .. before the last act
abbrev pub state_before_last : List Moment → Option State
state_before_last [] = None
state_before_last (x ∷ []) = Some x.before.state
state_before_last (x ∷ y ∷ ys) = state_before_last (y ∷ ys)

-- there is such a state, and this holds of it
abbrev pub In : Option State → (State → Type 0) → Type 0
In None P = ⊥
In (Some st) P = P st

abbrev pub Before : (Act → Bool) → (State → Type 0) → List Moment → Type 0
Before test P xs = In (state_before test xs) P

abbrev pub BeforeLast : (State → Type 0) → List Moment → Type 0
BeforeLast P xs = In (state_before_last xs) P
