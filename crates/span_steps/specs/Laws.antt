-- The laws, in words of the table.
use Rattle.std.specs.Prelude.{◌≡◌, ℕ, ◌*◌, ◌<◌, ◌≤◌, true, bit_or, List, Option}
use mathlib.Core.Option.{none}
use Rattle.atomic_table.specs.Table.{Me, step, Allows}
use Rattle.heap_model.specs.declared.Entry.{Entry}
use Rattle.heap_model.specs.State.{Setting, holds, is_caller}
use Rattle.heap_model.specs.declared.Opening.{Opening}
use Rattle.claim_rule.specs.declared.views.View.{View}
use Rattle.claim_rule.specs.Places.{bitmap_at, bit_of_block, hint_at, active_at, tag_at}
use Rattle.heap_model.specs.Layers.{LayerState}
use Rattle.claim_rule.specs.Entries.{IsSettingOf}
use Rattle.claim_rule.specs.Rule.{IsRuled, IsReady, ready_after}
use Rattle.heap_model.specs.declared.What.TheVariants as whats
use Rattle.claim_rule.specs.Shown.{lfh_spans, tag_word, hint_word}
use Rattle.span_steps.specs.Stores.{MayActivate, activated, paid_off, owed_zero, put_word}
use Rattle.span_steps.specs.Installs.{IsReserving, MayInstall, installed}
use Rattle.span_steps.specs.Retires.{MayRetire, retired}

module _ {T : Type 0} (stands : T → LayerState) where
  -- A bucket becomes active, or is asked whether it is.
  abbrev pub ActivateLaw : Type 0
  ActivateLaw =
      (o : Opening) (slots id n b : ℕ) (me : Me (Option T) View) (es : List Entry) → IsReady n me.0 es → b < 128
      → ((s : Setting) → IsSettingOf me.0.opening me.0.roll s → MayActivate s (ready_after s me.0 es) n b)
      → Allows (IsRuled stands o) slots id me (active_at b) (λ _. 1) (λ _. activated es b (step slots (active_at b) 1 0 none) me 1)

  -- The holder of Back stores the tag of a page, or the hint of a bucket and a slot, as the state has it: it is owed no more.
  abbrev pub PutTagLaw : Type 0
  PutTagLaw =
      (o : Opening) (slots id n page v : ℕ) (me : Me (Option T) View) (es : List Entry) → IsReady n me.0 es → page < 256 * o.limits.segments
      → ((s : Setting) → IsSettingOf me.0.opening me.0.roll s → (holds (ready_after s me.0 es).state.gate n whats.Back ≡ true) × (tag_word (lfh_spans (ready_after s me.0 es).state.back.area) page ≡ v))
      → Allows (IsRuled stands o) slots id me (tag_at page) (λ _. v) (λ _. put_word es (paid_off (tag_at page)) (step slots (tag_at page) v 0 none) me v)

  abbrev pub PutHintLaw : Type 0
  PutHintLaw =
      (o : Opening) (slots id n b t v : ℕ) (me : Me (Option T) View) (es : List Entry) → IsReady n me.0 es → 1 ≤ b → b ≤ 128 → t < 16
      → ((s : Setting) → IsSettingOf me.0.opening me.0.roll s → (holds (ready_after s me.0 es).state.gate n whats.Back ≡ true) × (hint_word (ready_after s me.0 es).state.back.area (ready_after s me.0 es).now.span_history b t ≡ v))
      → Allows (IsRuled stands o) slots id me (hint_at b t) (λ _. v) (λ _. put_word es (paid_off (hint_at b t)) (step slots (hint_at b t) v 0 none) me v)

  -- It stores 0 in place of a tag where it owns the heap lock, and owes the word then.
  abbrev pub ClearTagLaw : Type 0
  ClearTagLaw =
      (o : Opening) (slots id n page : ℕ) (me : Me (Option T) View) (es : List Entry) → IsReady n me.0 es → page < 256 * o.limits.segments
      → ((s : Setting) → IsSettingOf me.0.opening me.0.roll s → (holds (ready_after s me.0 es).state.gate n whats.Back ≡ true) × (is_caller n (ready_after s me.0 es).state.gate.owner ≡ true))
      → Allows (IsRuled stands o) slots id me (tag_at page) (λ _. 0) (λ _. put_word es (owed_zero (tag_at page)) (step slots (tag_at page) 0 0 none) me 0)

  -- The holder of Back claims the first block of a subsegment that it makes with this step: nobody else can have it.
  abbrev pub InstallLaw : Type 0
  InstallLaw =
      (o : Opening) (slots id n : ℕ) (reserve : List Entry) (first pages b t i hint : ℕ) (me : Me (Option T) View) (es : List Entry) → IsReady n me.0 es → IsReserving n reserve → t < 16
      → ((s : Setting) → IsSettingOf me.0.opening me.0.roll s → MayInstall s (ready_after s me.0 es) n reserve first pages b t i hint me.0.owes)
      → Allows (IsRuled stands o) slots id me (bitmap_at o.limits first i) (λ x. bit_or x (bit_of_block i)) (installed es reserve first pages b t i hint (step slots (bitmap_at o.limits first i) (bit_of_block i) 0 none) me)

  -- The holder of Back that owns the heap lock gives a subsegment without places back, with the store of the hint.
  abbrev pub RetireLaw : Type 0
  RetireLaw =
      (o : Opening) (slots id n first pages b t v : ℕ) (me : Me (Option T) View) (es : List Entry) → IsReady n me.0 es → 1 ≤ b → b ≤ 128 → t < 16
      → ((s : Setting) → IsSettingOf me.0.opening me.0.roll s → MayRetire s (ready_after s me.0 es) n first pages b t v me.0.owes)
      → Allows (IsRuled stands o) slots id me (hint_at b t) (λ _. v) (λ _. retired es first pages b t (step slots (hint_at b t) v 0 none) me v)
