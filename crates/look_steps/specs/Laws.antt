-- The laws, in words of the table.
use Rattle.std.specs.Prelude.{◌≡◌, ℕ, ◌+◌, ◌-◌, ◌*◌, ◌/◌, ◌%◌, ◌^◌, ◌<◌, ◌≤◌, List, ◌∷◌, Option, Some}
use mathlib.Core.Option.{none}
use Rattle.atomic_table.specs.Table.{Me, step, Allows}
use Rattle.heap_model.specs.declared.Entry.{Entry}
use Rattle.heap_model.specs.declared.What.{What}
use Rattle.heap_model.specs.State.{Setting}
use Rattle.heap_model.specs.declared.Opening.{Opening}
use Rattle.claim_rule.specs.declared.views.View.{View}
use Rattle.claim_rule.specs.Places.{lock_at, size_at, word_at_page, hint_at, active_at, tag_at, gate_at}
use Rattle.heap_model.specs.Layers.{LayerState}
use Rattle.claim_rule.specs.Entries.{IsSettingOf}
use Rattle.claim_rule.specs.Rule.{IsRuled, IsReady, ready_after}
use Rattle.look_steps.specs.Looks.{asked_active, looked_bits, looked_size, looked_hint, looked_tag}
use Rattle.claim_rule.specs.Steps.{MayGoOut}
use Rattle.look_steps.specs.Denials.{MayDeny, denied, denied_left, denied_gave}
use Rattle.claim_rule.specs.Home.{HasSlot, slot_of, Tells}
use Rattle.lock_steps.specs.Locks.{IsPaid, MayGiveBack}

module _ {T : Type 0} (stands : T → LayerState) where
  -- an active word is read
  abbrev pub AskActiveLaw : Type 0
  AskActiveLaw =
      (o : Opening) (slots id n b : ℕ) (me : Me (Option T) View) (es : List Entry) → IsReady n me.0 es → b < 128
      → Allows (IsRuled stands o) slots id me (active_at b) (λ x. x) (asked_active es b (step slots (active_at b) 0 0 none) me)

  -- Words are read with no entry, whoever reads them: a word of a bitmap, a size word, a hint, a tag.
  abbrev pub LookBitsLaw : Type 0
  LookBitsLaw =
      (o : Opening) (slots id n head word : ℕ) (me : Me (Option T) View) (es : List Entry) → IsReady n me.0 es → word < 4 → head < 256 * o.limits.segments
      → Allows (IsRuled stands o) slots id me (word_at_page o.limits head word) (λ x. x) (looked_bits es head word (step slots (word_at_page o.limits head word) 0 0 none) me)

  abbrev pub LookSizeLaw : Type 0
  LookSizeLaw =
      (o : Opening) (slots id n addr : ℕ) (me : Me (Option T) View) (es : List Entry) → IsReady n me.0 es → addr / 16 < 65536 * o.limits.segments
      → Allows (IsRuled stands o) slots id me (size_at o.limits addr) (λ x. x) (looked_size es addr (step slots (size_at o.limits addr) 0 0 none) me)

  abbrev pub LookHintLaw : Type 0
  LookHintLaw =
      (o : Opening) (slots id n b t : ℕ) (me : Me (Option T) View) (es : List Entry) → IsReady n me.0 es → 1 ≤ b → b ≤ 128 → t < 16
      → Allows (IsRuled stands o) slots id me (hint_at b t) (λ x. x) (looked_hint es b t (step slots (hint_at b t) 0 0 none) me)

  abbrev pub LookTagLaw : Type 0
  LookTagLaw =
      (o : Opening) (slots id n page : ℕ) (me : Me (Option T) View) (es : List Entry) → IsReady n me.0 es → page < 256 * o.limits.segments
      → Allows (IsRuled stands o) slots id me (tag_at page) (λ x. x) (looked_tag es page (step slots (tag_at page) 0 0 none) me)

  -- A caller says that no live block has an address: with a load of any word, with giving a lock back, or with leaving.
  abbrev pub DenyLaw : Type 0
  DenyLaw =
      (o : Opening) (slots id n a i : ℕ) (me : Me (Option T) View) (es : List Entry) → IsReady n me.0 es
      → ((s : Setting) → IsSettingOf me.0.opening me.0.roll s → MayDeny o.limits (ready_after s me.0 es) n a)
      → Allows (IsRuled stands o) slots id me i (λ x. x) (denied es a (step slots i 0 0 none) me)

  -- .. with giving a lock back
  abbrev pub DenyGiveLaw : Type 0
  DenyGiveLaw =
      (o : Opening) (slots id n a : ℕ) (what : What) (me : Me (Option T) View) (es : List Entry) (state : T) (more : List (ℕ × Option T)) → HasSlot what → IsReady n me.0 es
      → me.1 ≡ (slot_of what, Some state) ∷ more → IsPaid what me.0.owes
      → ((s : Setting) → IsSettingOf me.0.opening me.0.roll s → MayGiveBack (ready_after s me.0 es) n what × Tells what me.0.opening (ready_after s me.0 es).state (stands state))
      → ((s : Setting) → IsSettingOf me.0.opening me.0.roll s → MayDeny o.limits (ready_after s me.0 es) n a)
      → Allows (IsRuled stands o) slots id me (lock_at what) (λ _. 0) (λ _. denied_gave what es a (step slots (lock_at what) 0 0 none) me 0)

  -- .. with leaving
  abbrev pub DenyLeaveLaw : Type 0
  DenyLeaveLaw =
      (o : Opening) (slots id n a : ℕ) (me : Me (Option T) View) (es : List Entry) → IsReady n me.0 es
      → ((s : Setting) → IsSettingOf me.0.opening me.0.roll s → MayGoOut (ready_after s me.0 es) n)
      → ((s : Setting) → IsSettingOf me.0.opening me.0.roll s → MayDeny o.limits (ready_after s me.0 es) n a)
      → Allows (IsRuled stands o) slots id me gate_at (λ x. (x + (2 ^ 64 - 1)) % 2 ^ 64) (denied_left es a (step slots gate_at 1 0 none) me)
