-- Callers between their calls and within a stay, as a program that makes one call after another knows them.
use Rattle.std.specs.Prelude.{◌≡◌, ℕ, true, false, [], ◌∷◌, Some}
use Rattle.heap_model.specs.declared.Call.{Call}
use Rattle.heap_model.specs.declared.What.TheVariants as whats
use Rattle.heap_model.specs.Layers.{StandsForVs, StandsForBack, StandsForLarge}
use Rattle.heap_model.specs.Legal.{leaves_whole}
use Rattle.heap_model.specs.State.{hands}
use Rattle.claim_rule.specs.Places.{vs_slot, back_slot, large_slot}
use Rattle.step_parts.specs.InHand.{HasBlock}
use Rattle.heap_gate.specs.Token.{HeapToken, Token, Always, now}
use Rattle.heap_gate.specs.Roots.{RootToken}
use Rattle.backend_fit.specs.Kept.{Kept}
use Rattle.backend_fit.specs.Kept as backs
use Rattle.large_blocks.specs.Table.{LargeTable}
use Rattle.large_blocks.specs.Table as larges
use Rattle.vs_layer.specs.Kept.{VsKept}
use Rattle.vs_layer.specs.Standing as vss
use Rattle.lfh_claims.specs.Moves.{IsWith}
use Rattle.call_parts.specs.Calls.{IsServing, IsInside}
use Rattle.paged_calls.specs.Parts.{HasBoth}
use Rattle.vs_calls.specs.Blocks.{HasVs}
use Rattle.heap_now.specs.Calls.{IsCallerOf}

---- Between two calls

-- The caller may call, and does not own the heap lock.
pub record IsFreeCaller (h : HeapToken) (c : Token) : Type 0 where
  pub caller : IsCallerOf h c
  pub depth : c.depth ≡ 0

pub record IsRootOf (h : HeapToken) (r : RootToken) : Type 0 where
  pub table : r.table ≡ h.table
  pub opening : r.opening ≡ h.opening

-- a heap, its root and its two callers
pub record AreTwo (h : HeapToken) (r : RootToken) (a b : Token) : Type 0 where
  pub root : IsRootOf h r
  pub first : IsFreeCaller h a
  pub second : IsFreeCaller h b

---- Within a stay

-- The caller is of this heap, and does not own the heap lock.
pub record IsHere (h : HeapToken) (c : Token) : Type 0 where
  pub table : c.table ≡ h.table
  pub opening : c.opening ≡ h.opening
  pub depth : c.depth ≡ 0

-- It is inside and holds nothing: it has done nothing yet,
pub record IsInStay (h : HeapToken) (c : Token) : Type 0 where
  pub here : IsHere h c
  pub call : Call
  pub serving : IsServing c call []

-- .. or all that is known is that it may leave.
pub record MayGo (h : HeapToken) (c : Token) : Type 0 where
  pub here : IsHere h c
  pub call : Call
  pub inside : IsInside c call

-- It holds the lock of VS, and has its state.
pub record HoldsVs (h : HeapToken) (c : Token) (vs : VsKept) : Type 0 where
  pub here : IsHere h c
  pub has : HasVs c vs

-- .. that of the back end too
pub record HoldsBoth (h : HeapToken) (c : Token) (vs : VsKept) (back : Kept) : Type 0 where
  pub here : IsHere h c
  pub has : HasBoth c vs back

-- .. those of all layers
pub record HoldsAll (h : HeapToken) (c : Token) (vs : VsKept) (back : Kept) (large : LargeTable) : Type 0 where
  pub here : IsHere h c
  pub call : Call
  pub serving : IsServing c call (large_slot ∷ back_slot ∷ vs_slot ∷ [])
  pub used : Always c (λ s. leaves_whole (now s c).state whats.Vs ≡ true)
  pub tells_vs : Always c (λ s. StandsForVs c.opening (now s c).state (vss.layer_of vs))
  pub tells_back : Always c (λ s. StandsForBack c.opening (now s c).state (backs.layer_of back))
  pub tells_large : Always c (λ s. StandsForLarge c.opening (now s c).state (larges.layer_of large))

-- It has a block of 16 bytes of the front end in hand, and nothing else.
pub record HasInHand (h : HeapToken) (c : Token) (addr : ℕ) : Type 0 where
  pub here : IsHere h c
  pub call : Call
  pub call_is : c.call ≡ Some call
  pub fresh : c.fresh ≡ false
  pub inside : c.inside ≡ true
  pub out : c.out ≡ []
  pub whole : c.whole ≡ true
  pub pending : c.pending ≡ false
  pub prepared : c.prepared ≡ []
  pub drawn : c.searched ≡ c.drawn
  pub owes : c.owes ≡ []
  pub block : Always c (λ s. HasBlock (now s c) c.number 1 addr)
  pub hand : Always c (λ s. IsWith addr [] (hands (now s c).state c.number))
