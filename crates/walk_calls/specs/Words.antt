-- What a caller knows of the whole heap behind any load: it is sound, and the words of the table show it.
use Rattle.std.specs.Prelude.{◌≡◌, ℕ, ◌≤◌, List, [], Option, None}
use Rattle.atomic_table.specs.Table.{Step, Me}
use Rattle.heap_model.specs.declared.Entry.{Entry}
use Rattle.heap_model.specs.declared.Limits.{Limits}
use Rattle.heap_model.specs.declared.Opening.{Opening}
use Rattle.heap_model.specs.State.{Setting, IsValidSetting}
use Rattle.heap_model.specs.CallState.{Configuration}
use Rattle.heap_model.specs.History.{configuration_of}
use Rattle.heap_soundness.specs.Invariant.{Keeps}
use Rattle.claim_rule.specs.declared.views.View.{View}
use Rattle.claim_rule.specs.Entries.{IsSettingOf}
use Rattle.claim_rule.specs.Plays.{Goes, number_of}
use Rattle.claim_rule.specs.Shown.{AreAllShown}

-- The configuration is sound, in a valid setting of a heap that was opened so.
pub record IsKnownFor (o : Opening) (m : Configuration) : Type 0 where
  pub setting : Setting
  pub limits : setting.limits ≡ o.limits
  pub seed : setting.seed ≡ o.seed
  pub valid : IsValidSetting setting
  pub keeps : Keeps setting m

-- Words of a table show it, and no more callers were made than there may be.
pub record HasWords (l : Limits) (m : Configuration) : Type 0 where
  pub words : List ℕ
  pub made : ℕ
  pub shown : AreAllShown l made m [] words
  pub few : made ≤ l.callers

module _ {T : Type 0} (es : List Entry) (st : Step (Option T)) (m : Me (Option T) View) (r : ℕ) (m' : Me (Option T) View) where
  -- a word was read, and no entry added
  pub record heard_words : Type 0 where
    pub goes : Goes (number_of m.0.role) m.0 m'.0 es []
    pub slot : m'.1 ≡ m.1
    pub owes : m'.0.owes ≡ m.0.owes
    pub sound : (s : Setting) → IsSettingOf m'.0.opening m'.0.roll s → IsKnownFor m'.0.opening (configuration_of s m'.0.seen)
    pub words : (s : Setting) → IsSettingOf m'.0.opening m'.0.roll s → (configuration_of s m'.0.seen).state.gate.locks.back ≡ None
        → HasWords m'.0.opening.limits (configuration_of s m'.0.seen)
