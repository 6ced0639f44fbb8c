-- What a caller owes before it claims a block that its search has picked, and what it owes of hints behind it.
use Rattle.std.specs.Prelude.{◌≡◌, ℕ, ◌+◌, ◌*◌, ◌<◌, Bool, true, is_some, cond, List, ◌∷◌, Some}
use Rattle.heap_model.specs.declared.What.TheVariants as whats
use Rattle.heap_model.specs.Buckets.{block_count}
use Rattle.heap_model.specs.State.{Setting, is_entered, holds}
use Rattle.heap_model.specs.CallState.{Configuration}
use Rattle.heap_model.specs.Search.{request_of, may_claim}
use Rattle.heap_model.specs.Agreement.{holds_old_block}
use Rattle.claim_rule.specs.declared.views.Owed.{Owed}
use Rattle.claim_rule.specs.Shown.{hint_word, owed_or}
use Rattle.step_parts.specs.Seen.{IsSeen}

-- it is inside, its search has picked block i of a subsegment that it has seen in this stay
pub record CanClaim (s : Setting) (m : Configuration) (n head b t i : ℕ) : Type 0 where
  pub begun : is_some (m.now.calls n).call ≡ true
  pub inside : is_entered m.state.gate n ≡ true
  pub seeks : (request_of s m n).search ≡ Some b
  pub slot : s.slot n ≡ t
  pub picked : may_claim (m.now.calls n).search head i ≡ true
  pub seen : IsSeen m head b t
  pub below : i < block_count b

-- .. and if it moves a block, only it changes that
pub record MayClaim (s : Setting) (m : Configuration) (n head b t i : ℕ) : Type 0 where
  pub can : CanClaim s m n head b t i
  pub old : holds_old_block m n ≡ true

-- What is owed behind a place: under Back the hint of its bucket and slot is still as it was.
abbrev pub owed_by_place : Bool → ℕ → ℕ → ℕ → List Owed → List Owed
owed_by_place back b t hint owes = cond back (record { word = 118 + 16 * b + t; value = hint } ∷ owes) owes

-- whether it holds Back, and then what the word of the hint is
pub record IsUnder (m : Configuration) (n b t : ℕ) (back : Bool) (hint : ℕ) (owes : List Owed) : Type 0 where
  pub holds_it : holds m.state.gate n whats.Back ≡ back
  pub hint_is : back ≡ true → owed_or owes (118 + 16 * b + t) (hint_word m.state.back.area m.now.span_history b t) ≡ hint
