-- Active words, tags and hints that are stored.
use Rattle.std.specs.Prelude.{◌≡◌, ℕ, ◌+◌, ◌==◌, true, not, is_some, filter, List, [], ◌∷◌, Option}
use Rattle.atomic_table.specs.Table.{Step, Me}
use Rattle.heap_model.specs.declared.Act.TheVariants as acts
use Rattle.heap_model.specs.declared.Entry.{Entry}
use Rattle.heap_model.specs.declared.What.TheVariants as whats
use Rattle.heap_model.specs.State.{Setting, holds}
use Rattle.heap_model.specs.CallState.{Configuration}
use Rattle.heap_model.specs.Legal.{may}
use Rattle.heap_model.specs.Agreement.{holds_old_block}
use Rattle.claim_rule.specs.declared.views.Owed.{Owed}
use Rattle.claim_rule.specs.declared.views.View.{View}
use Rattle.claim_rule.specs.Plays.{Adds, Goes, number_of}

---- Active words

-- it holds Vs, and the bucket is due
pub record MayActivate (s : Setting) (m : Configuration) (n b : ℕ) : Type 0 where
  pub begun : is_some (m.now.calls n).call ≡ true
  pub holds_it : holds m.state.gate n whats.Vs ≡ true
  pub old : holds_old_block m n ≡ true
  pub ok : may s m n (acts.Active (b + 1)) ≡ true

module _ {T : Type 0} (es : List Entry) (b : ℕ) (st : Step (Option T)) (m : Me (Option T) View) (r : ℕ) (m' : Me (Option T) View) where
  -- the bucket is active
  pub record activated : Type 0 where
    pub adds : Adds es (acts.Active (b + 1)) m m'
    pub slot : m'.1 ≡ m.1
    pub owes : m'.0.owes ≡ m.0.owes

---- What the holder of Back pays, and what it comes to owe

-- word i is owed no more
abbrev pub paid_off : ℕ → List Owed → List Owed
paid_off i owes = filter (λ w. not (w.word == i)) owes

-- .. or it is owed, and is 0
abbrev pub owed_zero : ℕ → List Owed → List Owed
owed_zero i owes = record { word = i; value = 0 } ∷ owes

-- no entry; the list of words that are owed changes
module _ {T : Type 0} (es : List Entry) (owed : List Owed → List Owed) (st : Step (Option T)) (m : Me (Option T) View) (r : ℕ) (m' : Me (Option T) View) where
  -- no entry is added, and what is owed changes
  pub record put_word : Type 0 where
    pub goes : Goes (number_of m.0.role) m.0 m'.0 es []
    pub slot : m'.1 ≡ m.1
    pub owes : m'.0.owes ≡ owed m.0.owes
