-- What a caller owes before each kind of step, of the configuration behind what it has seen and prepared.
use Rattle.std.specs.Prelude.{◌≡◌, ℕ, true, false, not, is_some}
use Rattle.heap_model.specs.State.{hands}
use Rattle.heap_model.specs.Stay.{for_some}
use Rattle.heap_model.specs.CallState.{Configuration, caller_view, is_outside}
use Rattle.heap_model.specs.Legal.{is_lock_or_compact, may_leave, may_unlock}

-- it is outside the gate, and has begun a call that enters and has not
pub record MayPass (m : Configuration) (n : ℕ) : Type 0 where
  pub outside : is_outside (caller_view m n) ≡ true
  pub fresh : (m.now.calls n).entered ≡ false
  pub call : for_some (m.now.calls n).call (λ call. not (is_lock_or_compact call)) ≡ true

-- it is inside, or has to turn back
pub record MayGoOut (m : Configuration) (n : ℕ) : Type 0 where
  pub begun : is_some (m.now.calls n).call ≡ true
  pub may : may_leave (caller_view m n) (hands m.state n) ≡ true

-- it is outside the gate, does not own the heap lock, and has begun a call of lock or compact
pub record MayTryLock (m : Configuration) (n : ℕ) : Type 0 where
  pub outside : is_outside (caller_view m n) ≡ true
  pub owns : (caller_view m n).owns ≡ false
  pub call : for_some (m.now.calls n).call is_lock_or_compact ≡ true

-- it owns the heap lock, is not inside, and holds no layer lock
pub record MayGiveUp (m : Configuration) (n : ℕ) : Type 0 where
  pub begun : is_some (m.now.calls n).call ≡ true
  pub may : may_unlock (caller_view m n) ≡ true
