-- How often a caller has taken locks of layers.
use Rattle.std.specs.Prelude.{◌≡◌, ℕ, ◌+◌, []}
use mathlib.Core.List.{IsPrefix}
use Rattle.heap_model.specs.declared.Act.{Act}
use Rattle.heap_model.specs.declared.Act.TheVariants as acts
use Rattle.heap_model.specs.declared.What.{What}
use Rattle.heap_model.specs.History.{own}
use Rattle.heap_model.specs.Layers.{LayerState, header_key}
use Rattle.heap_model.specs.State.{opening}
use Rattle.heap_gate.specs.Token.{Token}
use Rattle.heap_gate.specs.Counts.{counted}

abbrev pub takes : Act → ℕ
takes (acts.TakeLock what) = 1
takes _ = 0

-- the caller's list goes on, with so many locks of layers taken more
pub record TakesOn (old new : Token) (taken : ℕ) : Type 0 where
  pub number : new.number ≡ old.number
  pub seen : IsPrefix old.seen new.seen
  pub takes_are : counted takes (own new.number new.seen) ≡ counted takes (own old.number old.seen) + taken

-- the state of a layer that has nothing, in the heap of the tests
abbrev pub nothing_of : What → LayerState
nothing_of what = record {
  lock = what;
  limits = record { segments = 1; large_pages = 0; slots = 2; callers = 2 };
  key = header_key 42;
  back = opening.back;
  vs = opening.vs;
  vs_spans = [];
  large = [];
}
