-- A heap at rest, in which all words and all states of layers stand.
use Rattle.std.specs.Prelude.{◌≡◌, ℕ, true, []}
use Rattle.heap_model.specs.declared.What.TheVariants as whats
use Rattle.heap_model.specs.State.{State, hands, is_caller, is_entered, open_locks}
use Rattle.heap_model.specs.Legal.{leaves_whole}

-- Nobody holds a layer lock, nothing is in hand, each span of the back end has its place, and nobody is entered, but perhaps the owner of
-- the heap lock.
pub record IsAtRest (st : State) : Type 0 where
  pub locks : st.gate.locks ≡ open_locks
  pub hands : (n : ℕ) → hands st n ≡ []
  pub whole : leaves_whole st whats.Back ≡ true
  pub entered : (n : ℕ) → is_entered st.gate n ≡ true → is_caller n st.gate.owner ≡ true
