-- The locks of the layers that have a slot: what a caller owes before it takes or gives one, and what the step tells it.
use Rattle.std.specs.Prelude.{◌≡◌, ℕ, true, false, is_some, List, [], ◌∷◌, Option, Some}
use Rattle.atomic_table.specs.Table.{Step, Me}
use Rattle.heap_model.specs.declared.Act.TheVariants as acts
use Rattle.heap_model.specs.declared.Entry.{Entry}
use Rattle.heap_model.specs.declared.What.{What}
use Rattle.heap_model.specs.declared.What.TheVariants as whats
use Rattle.heap_model.specs.State.{Setting}
use Rattle.heap_model.specs.CallState.{Configuration, caller_view, is_inside, held}
use Rattle.heap_model.specs.History.{configuration_of}
use Rattle.heap_model.specs.Legal.{may_give_lock}
use Rattle.claim_rule.specs.declared.views.Owed.{Owed}
use Rattle.claim_rule.specs.declared.views.View.{View}
use Rattle.heap_model.specs.Layers.{LayerState}
use Rattle.claim_rule.specs.Entries.{IsSettingOf}
use Rattle.claim_rule.specs.Plays.{Adds}
use Rattle.claim_rule.specs.Home.{slot_of, Tells}

-- who takes Back owes nothing
abbrev pub owed_with : What → List Owed → List Owed
owed_with whats.Back owes = []
owed_with _ owes = owes

-- what is owed when the lock is given back
abbrev pub IsPaid : What → List Owed → Type 0
IsPaid whats.Back owes = owes ≡ []
IsPaid _ owes = Unit {0}

-- it has begun a call, is inside or owns the heap lock, and does not hold the lock
pub record MayTake (m : Configuration) (n : ℕ) (what : What) : Type 0 where
  pub begun : is_some (m.now.calls n).call ≡ true
  pub inside : is_inside (caller_view m n) ≡ true
  pub free : held (caller_view m n) what ≡ false

-- it holds the lock, and may give it back
pub record MayGiveBack (m : Configuration) (n : ℕ) (what : What) : Type 0 where
  pub begun : is_some (m.now.calls n).call ≡ true
  pub may : may_give_lock m.state (caller_view m n) what ≡ true

module _ {T : Type 0} (stands : T → LayerState) (what : What) (es : List Entry) (st : Step (Option T)) (m : Me (Option T) View) (r : ℕ) (m' : Me (Option T) View) where
  -- the lock was free: the caller has it, and the state of the slot
  pub record HasTaken : Type 0 where
    pub adds : Adds es (acts.TakeLock what) m m'
    pub state : T
    pub slot : m'.1 ≡ (slot_of what, Some state) ∷ m.1
    pub tells : (s : Setting) → IsSettingOf m'.0.opening m'.0.roll s → Tells what m'.0.opening (configuration_of s m'.0.seen).state (stands state)
    pub owes : m'.0.owes ≡ owed_with what m.0.owes

  -- .. or another caller's
  pub record HasMissed : Type 0 where
    pub adds : Adds es (acts.Blocked what r) m m'
    pub slot : m'.1 ≡ m.1
    pub owes : m'.0.owes ≡ m.0.owes

  -- what the word that was found tells
  pub record took : Type 0 where
    pub taken : r ≡ 0 → HasTaken
    pub missed : (r ≡ 0 → ⊥) → HasMissed

module _ {T : Type 0} (what : What) (es : List Entry) (st : Step (Option T)) (m : Me (Option T) View) (r : ℕ) (m' : Me (Option T) View) where
  -- the lock is free, and the state is in its slot
  pub record gave : Type 0 where
    pub adds : Adds es (acts.GiveLock what) m m'
    pub slot : (state : T) (more : List (ℕ × Option T)) → m.1 ≡ (slot_of what, Some state) ∷ more → m'.1 ≡ more
    pub owes : m'.0.owes ≡ m.0.owes
