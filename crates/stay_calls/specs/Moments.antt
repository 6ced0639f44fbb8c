-- A part of a call that is told by what its caller found, and not by its acts alone.
use Rattle.std.specs.Prelude.{ℕ, List}
use Rattle.heap_model.specs.declared.Act.{Act}
use Rattle.heap_model.specs.declared.Call.{Call}
use Rattle.heap_model.specs.State.{Setting}
use Rattle.heap_model.specs.History.{configuration_of}
use Rattle.heap_model.specs.Moments.{Moment, moments}
use Rattle.heap_gate.specs.Token.{Token, Always}
use Rattle.call_parts.specs.Calls.{Makes}

-- so it is of what the caller has added, each act with the configuration in which it came
abbrev pub OfMoments : (Setting → ℕ → List Moment → Type 0) → (old new : Token) → List Rattle.heap_model.specs.declared.Entry.Entry → Type 0
OfMoments Told old new more = Always new (λ s. Told s old.number (moments s old.number (configuration_of s old.seen) more))

-- A part of a call of which this is told.
pub record MakesSo (old new : Token) (call : Call) (Told : Setting → ℕ → List Moment → Type 0) : Type 0 where
  pub shape : List Act
  pub makes : Makes old new call shape
  pub told : OfMoments Told old new makes.goes.seen.0
