-- The laws, in words of the table.
use Rattle.std.specs.Prelude.{◌≡◌, ℕ, ◌+◌, ◌<◌, eqb, List, ◌∷◌, Option, Some}
use mathlib.Core.Option.{none}
use prog.Atomic.{either}
use Rattle.atomic_table.specs.Table.{Me, step, Allows}
use Rattle.heap_model.specs.declared.Entry.{Entry}
use Rattle.heap_model.specs.declared.What.{What}
use Rattle.heap_model.specs.State.{Setting}
use Rattle.heap_model.specs.declared.Opening.{Opening}
use Rattle.claim_rule.specs.declared.views.View.{View}
use Rattle.claim_rule.specs.Places.{lock_at, data_at, data_count}
use Rattle.heap_model.specs.Layers.{LayerState}
use Rattle.claim_rule.specs.Entries.{IsSettingOf}
use Rattle.claim_rule.specs.Rule.{IsRuled, IsReady, ready_after}
use Rattle.lock_steps.specs.Data.{IsInside, loaded, stored}
use Rattle.claim_rule.specs.Home.{HasSlot, slot_of, Tells}
use Rattle.lock_steps.specs.Locks.{IsPaid, MayTake, MayGiveBack, took, gave}

module _ {T : Type 0} (stands : T → LayerState) where
  -- A caller takes the lock of a layer and the state in its slot, or finds another's number.
  abbrev pub TakeLaw : Type 0
  TakeLaw =
      (o : Opening) (slots id n : ℕ) (what : What) (me : Me (Option T) View) (es : List Entry) → HasSlot what → IsReady n me.0 es
      → ((s : Setting) → IsSettingOf me.0.opening me.0.roll s → MayTake (ready_after s me.0 es) n what)
      → Allows (IsRuled stands o) slots id me (lock_at what) (λ x. either (eqb x 0) (n + 1) x) (took stands what es (step slots (lock_at what) 0 (n + 1) none) me)

  -- A caller gives it back, with a state that tells what the lock guards behind all that the caller has prepared. For Back it owes no word.
  abbrev pub GiveLaw : Type 0
  GiveLaw =
      (o : Opening) (slots id n : ℕ) (what : What) (me : Me (Option T) View) (es : List Entry) (state : T) (more : List (ℕ × Option T)) → HasSlot what → IsReady n me.0 es
      → me.1 ≡ (slot_of what, Some state) ∷ more → IsPaid what me.0.owes
      → ((s : Setting) → IsSettingOf me.0.opening me.0.roll s → MayGiveBack (ready_after s me.0 es) n what × Tells what me.0.opening (ready_after s me.0 es).state (stands state))
      → Allows (IsRuled stands o) slots id me (lock_at what) (λ _. 0) (λ _. gave what es (step slots (lock_at what) 0 0 none) me 0)

  -- A data word is loaded, or stored.
  abbrev pub LoadDataLaw : Type 0
  LoadDataLaw =
      (o : Opening) (slots id n w : ℕ) (me : Me (Option T) View) (es : List Entry) → IsReady n me.0 es → w < data_count o.limits
      → ((s : Setting) → IsSettingOf me.0.opening me.0.roll s → IsInside (ready_after s me.0 es) n)
      → Allows (IsRuled stands o) slots id me (data_at o.limits w) (λ x. x) (loaded es w (step slots (data_at o.limits w) 0 0 none) me)

  abbrev pub StoreDataLaw : Type 0
  StoreDataLaw =
      (o : Opening) (slots id n w v : ℕ) (me : Me (Option T) View) (es : List Entry) → IsReady n me.0 es → w < data_count o.limits
      → ((s : Setting) → IsSettingOf me.0.opening me.0.roll s → IsInside (ready_after s me.0 es) n)
      → Allows (IsRuled stands o) slots id me (data_at o.limits w) (λ _. v) (λ _. stored es w (step slots (data_at o.limits w) v 0 none) me v)
