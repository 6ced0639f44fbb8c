-- The laws, in words of the table.
use Rattle.std.specs.Prelude.{ℕ, ◌+◌, ◌<◌, ◌≤◌, Bool, bit_or, bit_and, List, Option}
use mathlib.Core.Option.{none}
use Rattle.atomic_table.specs.Table.{Me, step, Allows}
use Rattle.heap_model.specs.declared.Entry.{Entry}
use Rattle.heap_model.specs.State.{Setting}
use Rattle.heap_model.specs.declared.Opening.{Opening}
use Rattle.claim_rule.specs.declared.views.View.{View}
use Rattle.claim_rule.specs.Places.{size_at, bitmap_at, bit_of_block, word_at_page, hint_at}
use Rattle.heap_model.specs.Layers.{LayerState}
use Rattle.claim_rule.specs.Entries.{IsSettingOf}
use Rattle.claim_rule.specs.Rule.{IsRuled, IsReady, ready_after}
use mir.Syntax.{w64}
use Rattle.std.specs.Int.{bit_not}
use Rattle.heap_model.specs.Buckets.{block_address}
use Rattle.block_steps.specs.Blocks.{MayClear, MayPublish, MayAsk, cleared, published, taken_block, sized}
use Rattle.step_parts.specs.Claims.{MayClaim, IsUnder}
use Rattle.block_steps.specs.Claims.{claimed}
use Rattle.block_steps.specs.Searches.{MaySee, MayHint, saw, hinted}

module _ {T : Type 0} (stands : T → LayerState) where
  -- A caller claims the block that its search has picked, or finds that another has it.
  abbrev pub ClaimLaw : Type 0
  ClaimLaw =
      (o : Opening) (slots id n head b t i : ℕ) (back : Bool) (hint : ℕ) (me : Me (Option T) View) (es : List Entry) → IsReady n me.0 es → t < 16
      → ((s : Setting) → IsSettingOf me.0.opening me.0.roll s → MayClaim s (ready_after s me.0 es) n head b t i × IsUnder (ready_after s me.0 es) n b t back hint me.0.owes)
      → Allows (IsRuled stands o) slots id me (bitmap_at o.limits head i) (λ x. bit_or x (bit_of_block i)) (claimed es head b t i back hint (step slots (bitmap_at o.limits head i) (bit_of_block i) 0 none) me)

  -- A caller gives the bit of a block in its hand back.
  abbrev pub ClearLaw : Type 0
  ClearLaw =
      (o : Opening) (slots id n head b t i : ℕ) (me : Me (Option T) View) (es : List Entry) → IsReady n me.0 es
      → ((s : Setting) → IsSettingOf me.0.opening me.0.roll s → MayClear s (ready_after s me.0 es) n head b t i)
      → Allows (IsRuled stands o) slots id me (bitmap_at o.limits head i) (λ x. bit_and x (bit_not w64 (bit_of_block i))) (cleared es (block_address b head i) (step slots (bitmap_at o.limits head i) (bit_not w64 (bit_of_block i)) 0 none) me)

  -- A block in hand becomes live, by its size word.
  abbrev pub PublishLaw : Type 0
  PublishLaw =
      (o : Opening) (slots id n addr size : ℕ) (me : Me (Option T) View) (es : List Entry) → IsReady n me.0 es
      → ((s : Setting) → IsSettingOf me.0.opening me.0.roll s → MayPublish s (ready_after s me.0 es) n addr size)
      → Allows (IsRuled stands o) slots id me (size_at o.limits addr) (λ _. size + 1) (λ _. published es addr size (step slots (size_at o.limits addr) (size + 1) 0 none) me (size + 1))

  -- A live block is taken in hand, or none is there.
  abbrev pub TakeBlockLaw : Type 0
  TakeBlockLaw =
      (o : Opening) (slots id n head b t addr : ℕ) (me : Me (Option T) View) (es : List Entry) → IsReady n me.0 es
      → ((s : Setting) → IsSettingOf me.0.opening me.0.roll s → MayAsk (ready_after s me.0 es) n head b t addr)
      → Allows (IsRuled stands o) slots id me (size_at o.limits addr) (λ _. 0) (taken_block es head b addr (step slots (size_at o.limits addr) 0 0 none) me)

  -- The size of a live block is read, or none is there.
  abbrev pub SizeLaw : Type 0
  SizeLaw =
      (o : Opening) (slots id n head b t addr : ℕ) (me : Me (Option T) View) (es : List Entry) → IsReady n me.0 es
      → ((s : Setting) → IsSettingOf me.0.opening me.0.roll s → MayAsk (ready_after s me.0 es) n head b t addr)
      → Allows (IsRuled stands o) slots id me (size_at o.limits addr) (λ x. x) (sized es addr (step slots (size_at o.limits addr) 0 0 none) me)

  -- A caller reads a word of the bitmap of a subsegment that it has seen.
  abbrev pub SeeLaw : Type 0
  SeeLaw =
      (o : Opening) (slots id n head b t word : ℕ) (me : Me (Option T) View) (es : List Entry) → IsReady n me.0 es → word < 4
      → ((s : Setting) → IsSettingOf me.0.opening me.0.roll s → MaySee s (ready_after s me.0 es) n head b t word)
      → Allows (IsRuled stands o) slots id me (word_at_page o.limits head word) (λ x. x) (saw es head word (step slots (word_at_page o.limits head word) 0 0 none) me)

  -- A caller reads the hint of a bucket and its slot, before its search.
  abbrev pub HintLaw : Type 0
  HintLaw =
      (o : Opening) (slots id n b t : ℕ) (me : Me (Option T) View) (es : List Entry) → IsReady n me.0 es → 1 ≤ b → b ≤ 128 → t < 16
      → ((s : Setting) → IsSettingOf me.0.opening me.0.roll s → MayHint s (ready_after s me.0 es) n b t me.0.owes)
      → Allows (IsRuled stands o) slots id me (hint_at b t) (λ x. x) (hinted es b t (step slots (hint_at b t) 0 0 none) me)
