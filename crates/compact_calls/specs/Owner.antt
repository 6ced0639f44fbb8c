-- The owner of the heap lock in a call that it makes from outside the gate, and what a part of that call does.
use Rattle.std.specs.Prelude.{◌≡◌, ◌≢◌, ℕ, true, false, not, List, [], Some}
use Rattle.std.specs.List.{list_all}
use Rattle.heap_model.specs.declared.Act.{Act}
use Rattle.heap_model.specs.declared.Call.{Call}
use Rattle.heap_model.specs.Legal.{is_begin}
use Rattle.heap_gate.specs.Token.{Token}
use Rattle.call_parts.specs.Calls.{GoesOn}

-- It is in this call, outside the gate, holds these locks of layers, the last taken first, and has nothing in hand, nothing prepared, and owes nothing.
pub record IsOwning (c : Token) (call : Call) (out : List ℕ) : Type 0 where
  pub call_is : c.call ≡ Some call
  pub outside : c.inside ≡ false
  pub owns : c.depth ≢ 0
  pub out_is : c.out ≡ out
  pub whole : c.whole ≡ true
  pub free : c.free ≡ true
  pub pending : c.pending ≡ false
  pub prepared : c.prepared ≡ []
  pub owes : c.owes ≡ []

-- Its list goes on by these acts, none of them a Begin, and behind them it holds these locks.
pub record Did (old new : Token) (call : Call) (added : List Act) (out : List ℕ) : Type 0 where
  pub goes : GoesOn old new added
  pub no_begin : list_all (λ act. not (is_begin act)) added ≡ true
  pub owning : IsOwning new call out
  pub locked : new.locked ≡ old.locked
