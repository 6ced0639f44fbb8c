-- Subsegments of the front end, with blocks or without.
use Rattle.std.specs.Prelude.{◌≡◌, ◌≢◌, ℕ, ◌<◌, Bool, true, false, List, [], map}
use Rattle.heap_model.specs.declared.Act.{Act}
use Rattle.heap_model.specs.declared.Act.TheVariants as acts
use Rattle.heap_model.specs.declared.Call.{Call}
use Rattle.heap_model.specs.declared.Kind.TheVariants as kinds
use Rattle.heap_model.specs.Geometry.{page_bytes}
use Rattle.heap_model.specs.State.{Span}
use Rattle.heap_model.specs.Bits.{bits_of}
use Rattle.heap_model.specs.CallState.{Configuration}
use Rattle.heap_model.specs.Legal.{has_place}
use Rattle.heap_model.specs.Agreement.{SameHeap}
use Rattle.heap_soundness.specs.Sound.{IsOneOf}
use Rattle.claim_rule.specs.Shown.{lfh_spans}
use Rattle.heap_gate.specs.Token.{Token, Always, now}
use Rattle.compact_calls.specs.Owner.{Did}

-- The caller has added nothing, and the heap is as before.
pub record Looked (old new : Token) (call : Call) (out : List ℕ) : Type 0 where
  pub did : Did old new call [] out
  pub heap : Always new (λ s. SameHeap (now s new) (now s old))

-- what is said of the subsegment that begins at a page, if one does
abbrev pub OfThere : Configuration → ℕ → (Span → Type 0) → Type 0
OfThere m head P = (x : Span) → IsOneOf x (lfh_spans m.state.back.area) → x.first ≡ head → P x

-- a bit of it is set, or none is
abbrev pub ShowsBits : Configuration → ℕ → Bool → Type 0
ShowsBits m head true = (w : ℕ) × (w < 4) × OfThere m head (λ x. bits_of m.state.lfh x w ≢ 0)
ShowsBits m head false = (w : ℕ) → w < 4 → OfThere m head (λ x. bits_of m.state.lfh x w ≡ 0)

-- it has a block, or none
abbrev pub HasBlocks : Configuration → ℕ → Bool → Type 0
HasBlocks m head b = OfThere m head (λ x. has_place page_bytes m.state.lfh x ≡ b)

-- each subsegment that begins below a page has a block
abbrev pub AreUsedBelow : Configuration → ℕ → Type 0
AreUsedBelow m page = (x : Span) → IsOneOf x m.state.back.area.spans → x.kind ≡ kinds.Lfh → x.first < page → has_place page_bytes m.state.lfh x ≡ true

-- each of these spans goes
abbrev pub unspans : List ℕ → List Act
unspans heads = map acts.Unspan heads
