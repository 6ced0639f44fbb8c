-- What the table shows while the heap lock has an owner.
use Rattle.std.specs.Prelude.{◌≡◌, ℕ, true, false, List, Option, Some}
use mathlib.Core.Option as core
use lib.ListN.{get_elem?}
use Rattle.atomic_table.specs.Table as tables
use Rattle.heap_model.specs.declared.Opening.{Opening}
use Rattle.heap_model.specs.declared.What.{What}
use Rattle.heap_model.specs.State.{is_caller, holds, live}
use Rattle.heap_model.specs.CallState.{Configuration}
use Rattle.heap_model.specs.History.{configuration_of}
use Rattle.claim_rule.specs.declared.views.View.{View}
use Rattle.claim_rule.specs.Entries.{setting_of}
use Rattle.claim_rule.specs.Places.{vs_slot, back_slot, large_slot}
use Rattle.claim_rule.specs.Rule.{IsRuled}
use Rattle.backend_fit.specs.Kept.{Kept}
use Rattle.large_blocks.specs.Table.{LargeTable}
use Rattle.vs_headers.specs.Headers.{key_of}
use Rattle.vs_layer.specs.Kept.{VsKept}
use Rattle.call_parts.specs.declared.state.State.{State}
use Rattle.call_parts.specs.declared.state.State.TheVariants as states
use Rattle.call_parts.specs.States.{layer_of}
use Rattle.layout_decode.specs.declared.Image.{Image}
use Rattle.layout_decode.specs.Decode.{decode}
use Rattle.layout_decode.specs.Shows.{Shows}
use Rattle.walk_calls.specs.Locks.{AreWhole}

-- the table of a heap
abbrev pub Table : Type 0
Table = tables.State (Option State) View

-- Each slot has the state of its layer.
pub record AreInSlots (homes : List (core.Option (Option State))) (vs : VsKept) (back : Kept) (large : LargeTable) : Type 0 where
  pub vs_is : get_elem? homes vs_slot ≡ core.some (core.some (Some (states.Vs vs)))
  pub back_is : get_elem? homes back_slot ≡ core.some (core.some (Some (states.Back back)))
  pub large_is : get_elem? homes large_slot ≡ core.some (core.some (Some (states.Large large)))

-- The image is that of these words and states.
pub record IsMadeOf (image : Image) (o : Opening) (words : List ℕ) (vs : VsKept) (back : Kept) (large : LargeTable) : Type 0 where
  pub limits : image.limits ≡ o.limits
  pub key : image.key ≡ key_of o.seed
  pub region : image.region ≡ back.region
  pub descs : image.descs ≡ back.words
  pub heads : image.heads ≡ vs.chunks
  pub large_is : image.large ≡ large
  pub words_are : image.words ≡ words

-- the configuration behind the history of a table
abbrev pub behind : {o : Opening} {t : Table} → IsRuled layer_of o t → Configuration
behind {o} r = configuration_of (setting_of o r.lead.roll) r.log

-- Words and slots of the table are an image that shows the heap, and tells its live blocks.
pub record ShowsHeap (o : Opening) (t : Table) (r : IsRuled layer_of o t) : Type 0 where
  pub vs : VsKept
  pub back : Kept
  pub large : LargeTable
  pub slots : AreInSlots t.homes vs back large
  -- as the layers keep them
  pub shown : AreWhole vs back → (image : Image) × IsMadeOf image o t.words vs back large × Shows image (setting_of o r.lead.roll) (behind r).state × (decode image ≡ live (behind r).state)

-- It is so where the heap lock has an owner that holds no lock of a layer.
abbrev pub OwnedHeapIsShown : Type 0
OwnedHeapIsShown = (o : Opening) (t : Table) (r : IsRuled layer_of o t) (n : ℕ) → is_caller n (behind r).state.gate.owner ≡ true → ((what : What) → holds (behind r).state.gate n what ≡ false) → ShowsHeap o t r
