-- What each step may go by, in words of the table.
use Rattle.std.specs.Prelude.{◌≡◌, ℕ, true, List, Option}
use mathlib.Core.Option.{some}
use lib.ListN.{get_elem?}
use Rattle.atomic_table.specs.Table.{State}
use Rattle.heap_model.specs.declared.Entry.{Entry}
use Rattle.heap_model.specs.declared.Opening.{Opening}
use Rattle.heap_model.specs.State.{Setting, is_entered}
use Rattle.heap_model.specs.CallState.{Configuration}
use Rattle.heap_model.specs.History.{configuration_after, configuration_of}
use Rattle.heap_model.specs.Layers.{LayerState}
use Rattle.heap_soundness.specs.Invariant.{Keeps}
use Rattle.claim_rule.specs.declared.views.View.{View}
use Rattle.claim_rule.specs.Entries.{IsSettingOf, setting_of}
use Rattle.claim_rule.specs.Rule.{IsRuled, IsReady, ready_after}
use Rattle.step_parts.specs.Seen.{IsSeen, IsTagged, bucket_of_tag, slot_of_tag, first_of_tag}

module _ {T : Type 0} (stands : T → LayerState) where
  -- In each setting of the rule, also in one that no heap has, what is behind the entries that a caller carries is sound: it is so in the setting that the
  -- callers were made with, and what those do depends on no other.
  abbrev pub SoundLaw : Type 0
  SoundLaw =
      (o : Opening) (st : State (Option T) View) (r : IsRuled stands o st) (id n : ℕ) (v : View) (es : List Entry) → get_elem? st.views id ≡ some v → IsReady n v es
      → (s : Setting) → IsSettingOf o r.lead.roll s → Keeps (setting_of o r.lead.roll) (configuration_after s (configuration_of s r.log) es)

  -- A subsegment that a caller has seen in its stay is there behind what others did since and what it carries. So nothing has to be remembered of it.
  abbrev pub StaysLaw : Type 0
  StaysLaw =
      (o : Opening) (st : State (Option T) View) (r : IsRuled stands o st) (id n : ℕ) (v : View) (es : List Entry) → get_elem? st.views id ≡ some v → IsReady n v es
      → (s : Setting) → IsSettingOf o r.lead.roll s → is_entered (ready_after s v es).state.gate n ≡ true
      → (head b t : ℕ) → IsSeen (ready_after s v es) head b t → IsSeen (configuration_after s (configuration_of s r.log) es) head b t

-- A tag tells the subsegment, by its parts.
abbrev pub TagLaw : Type 0
TagLaw = (m : Configuration) (page word : ℕ) → IsTagged m page word → IsSeen m (first_of_tag word) (bucket_of_tag word) (slot_of_tag word)
