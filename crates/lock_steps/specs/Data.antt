-- Data words: what a caller owes before it loads or stores one, and what the step tells it.
use Rattle.std.specs.Prelude.{◌≡◌, ℕ, true, is_some, List, Option}
use Rattle.atomic_table.specs.Table.{Step, Me}
use Rattle.heap_model.specs.declared.Act.TheVariants as acts
use Rattle.heap_model.specs.declared.Entry.{Entry}
use Rattle.heap_model.specs.State.{is_entered}
use Rattle.heap_model.specs.CallState.{Configuration}
use Rattle.claim_rule.specs.declared.views.View.{View}
use Rattle.claim_rule.specs.Plays.{Adds}

-- it has begun a call and is inside
pub record IsInside (m : Configuration) (n : ℕ) : Type 0 where
  pub begun : is_some (m.now.calls n).call ≡ true
  pub inside : is_entered m.state.gate n ≡ true

module _ {T : Type 0} (es : List Entry) (w : ℕ) (st : Step (Option T)) (m : Me (Option T) View) (r : ℕ) (m' : Me (Option T) View) where
  -- the number r was loaded
  pub record loaded : Type 0 where
    pub adds : Adds es (acts.Load w r) m m'
    pub slot : m'.1 ≡ m.1
    pub owes : m'.0.owes ≡ m.0.owes

  -- the number r was stored
  pub record stored : Type 0 where
    pub adds : Adds es (acts.Store w r) m m'
    pub slot : m'.1 ≡ m.1
    pub owes : m'.0.owes ≡ m.0.owes
