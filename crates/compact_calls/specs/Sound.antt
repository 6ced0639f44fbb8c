-- What a caller knows of the whole heap behind any load: it is sound.
use Rattle.std.specs.Prelude.{◌≡◌, ℕ, List, [], Option}
use Rattle.atomic_table.specs.Table.{Step, Me}
use Rattle.heap_model.specs.declared.Entry.{Entry}
use Rattle.heap_model.specs.declared.Limits.{Limits}
use Rattle.heap_model.specs.State.{Setting}
use Rattle.heap_model.specs.CallState.{Configuration}
use Rattle.heap_model.specs.History.{configuration_of}
use Rattle.heap_soundness.specs.Invariant.{Keeps}
use Rattle.claim_rule.specs.declared.views.View.{View}
use Rattle.claim_rule.specs.Entries.{IsSettingOf}
use Rattle.claim_rule.specs.Plays.{Goes, number_of}

-- in a setting of these limits
pub record IsSoundFor (l : Limits) (m : Configuration) : Type 0 where
  pub setting : Setting
  pub limits : setting.limits ≡ l
  pub keeps : Keeps setting m

module _ {T : Type 0} (es : List Entry) (st : Step (Option T)) (m : Me (Option T) View) (r : ℕ) (m' : Me (Option T) View) where
  -- a word was read, and no entry added
  pub record heard_sound : Type 0 where
    pub goes : Goes (number_of m.0.role) m.0 m'.0 es []
    pub slot : m'.1 ≡ m.1
    pub owes : m'.0.owes ≡ m.0.owes
    pub sound : (s : Setting) → IsSettingOf m'.0.opening m'.0.roll s → IsSoundFor m'.0.opening.limits (configuration_of s m'.0.seen)
