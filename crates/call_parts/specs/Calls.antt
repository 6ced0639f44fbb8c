-- One call of a caller: what it has added since it began, how it is answered, and where the caller stands.
use Rattle.std.specs.Prelude.{◌≡◌, ◌≢◌, ℕ, ◌+◌, true, false, not, List, [], ◌∷◌, ◌++◌, Some}
use Rattle.std.specs.List.{list_all}
use mathlib.Core.List.{IsPrefix}
use Rattle.heap_model.specs.declared.Act.{Act}
use Rattle.heap_model.specs.declared.Act.TheVariants as acts
use Rattle.heap_model.specs.declared.Busy.{Busy}
use Rattle.heap_model.specs.declared.Call.{Call}
use Rattle.heap_model.specs.declared.Entry.{Entry}
use Rattle.heap_model.specs.declared.What.{What}
use Rattle.heap_model.specs.declared.What.TheVariants as whats
use Rattle.heap_model.specs.CallState.{CallState, not_begun}
use Rattle.heap_model.specs.Legal.{is_begin}
use Rattle.heap_model.specs.History.{own, configuration_of}
use Rattle.heap_model.specs.Moments.{moments}
use Rattle.heap_model.specs.Shape.{Answer, HasActs, shape_of}
use Rattle.heap_model.specs.Served.{IsAnswered}
use Rattle.call_laws.specs.Within.{by_all}
use Rattle.claim_rule.specs.Entries.{IsLegalWith}
use Rattle.heap_model.specs.Layers.{StandsForVs, StandsForBack, StandsForLarge}
use Rattle.claim_rule.specs.Places.{vs_slot, back_slot, large_slot}
use Rattle.backend_fit.specs.Kept.{Kept}
use Rattle.backend_fit.specs.Kept as backs
use Rattle.vs_layer.specs.Kept.{VsKept}
use Rattle.vs_layer.specs.Standing as vss
use Rattle.large_blocks.specs.Table.{LargeTable}
use Rattle.large_blocks.specs.Table as larges
use Rattle.heap_gate.specs.Token.{Token, Always, now}
use Rattle.heap_gate.specs.Calls.{NamesAnother}

---- Between two calls

-- The caller is outside, holds no lock of a layer, and has nothing in hand and nothing prepared.
pub record IsReadyToCall (c : Token) : Type 0 where
  pub outside : c.inside ≡ false
  pub out : c.out ≡ []
  pub free : c.free ≡ true
  pub whole : c.whole ≡ true
  pub pending : c.pending ≡ false
  pub prepared : c.prepared ≡ []

---- What a caller has added

-- its own entries, the prepared ones included
abbrev pub all_own : Token → List Entry
all_own c = own c.number c.seen ++ c.prepared

-- The caller's list goes on by others' entries, and by these acts of its own, of which the last may still be prepared.
pub record GoesOn (old new : Token) (added : List Act) : Type 0 where
  pub table : new.table ≡ old.table
  pub opening : new.opening ≡ old.opening
  pub number : new.number ≡ old.number
  pub depth : new.depth ≡ old.depth
  pub roll : IsPrefix old.roll new.roll
  pub seen : IsPrefix old.seen new.seen
  pub own : all_own new ≡ all_own old ++ by_all old.number added

---- How a call is answered

-- One call, behind what the caller had seen: its own entries there are the Begin of the call and these acts, and they answer it so. The list is legal, and the
-- caller is ready to call again.
pub record Answers (old new : Token) (call : Call) (answer : Answer) (rest : List Act) : Type 0 where
  pub table : new.table ≡ old.table
  pub opening : new.opening ≡ old.opening
  pub number : new.number ≡ old.number
  pub depth : new.depth ≡ old.depth
  pub roll : IsPrefix old.roll new.roll
  pub seen : IsPrefix old.seen new.seen
  pub own : own old.number new.seen ≡ own old.number old.seen ++ by_all old.number (acts.Begin call ∷ rest)
  pub answered : Always new (λ s. IsAnswered s old.number call answer (moments s old.number (configuration_of s old.seen) seen.0))
  pub legal : IsLegalWith new.opening new.roll new.seen
  pub ready : IsReadyToCall new

-- The word that was read names another: of the gate an owner of the heap lock, of a lock its holder.
abbrev pub IsCause : ℕ → Busy → Type 0
IsCause n b = elim b.what [ whats.Gate ↦ NamesAnother b.word n | _ ↦ (b.word ≢ 0) × (b.word ≢ n + 1) ]

---- Within a call

-- what a call is that has entered, and has neither searched nor placed
pub record IsNew (k : CallState) (call : Call) : Type 0 where
  pub call_is : k.call ≡ Some call
  pub placed : k.placed ≡ false
  pub taken : k.taken ≡ false
  pub no_span : k.no_span ≡ false
  pub search : k.search ≡ not_begun

-- The caller is inside, in this call, holds these locks, the last taken first, has nothing in hand and nothing prepared, and has neither searched nor placed.
pub record IsServing (c : Token) (call : Call) (out : List ℕ) : Type 0 where
  pub call_is : c.call ≡ Some call
  pub fresh : c.fresh ≡ false
  pub inside : c.inside ≡ true
  pub out_is : c.out ≡ out
  pub whole : c.whole ≡ true
  pub free : c.free ≡ true
  pub pending : c.pending ≡ false
  pub prepared : c.prepared ≡ []
  pub searched : c.searched ≡ false
  pub drawn : c.drawn ≡ false
  pub owes : c.owes ≡ []
  pub is_new : Always c (λ s. IsNew ((now s c).now.calls c.number) call)

-- .. or has done so: only that it may leave is known.
pub record IsInside (c : Token) (call : Call) : Type 0 where
  pub call_is : c.call ≡ Some call
  pub fresh : c.fresh ≡ false
  pub inside : c.inside ≡ true
  pub out : c.out ≡ []
  pub whole : c.whole ≡ true
  pub free : c.free ≡ true
  pub pending : c.pending ≡ false
  pub prepared : c.prepared ≡ []
  pub drawn : c.searched ≡ c.drawn
  pub owes : c.owes ≡ []

-- A part of a call: its own acts show this shape, none of them is a Begin, and behind them the caller is inside and holds no lock.
pub record Makes (old new : Token) (call : Call) (shape : List Act) : Type 0 where
  pub added : List Act
  pub goes : GoesOn old new added
  pub no_begin : list_all (λ act. not (is_begin act)) added ≡ true
  pub shape_is : shape_of added ≡ shape
  pub stands : IsInside new call

-- .. that answers the call, but for leaving
abbrev pub Brings : Token → Token → Call → Answer → Type 0
Brings old new call answer = (shape : List Act) × Makes old new call shape × HasActs call answer shape

-- .. with Busy, since another holds this lock
pub record MeetsBusy (old new : Token) (call : Call) (b : Busy) (what : What) : Type 0 where
  pub made : Makes old new call (acts.Blocked b.what b.word ∷ [])
  pub what_is : b.what ≡ what
  pub another : (b.word ≢ 0) × (b.word ≢ old.number + 1)

---- Where a block would be

-- The caller has the state of VS, and nothing else.
pub record HoldsVs (c : Token) (call : Call) (vs : VsKept) : Type 0 where
  pub serving : IsServing c call (vs_slot ∷ [])
  pub tells : Always c (λ s. StandsForVs c.opening (now s c).state (vss.layer_of vs))

-- .. of the back end
pub record HoldsBack (c : Token) (call : Call) (back : Kept) : Type 0 where
  pub serving : IsServing c call (back_slot ∷ [])
  pub tells : Always c (λ s. StandsForBack c.opening (now s c).state (backs.layer_of back))

-- .. of both, that of the back end taken last
pub record HoldsBoth (c : Token) (call : Call) (vs : VsKept) (back : Kept) : Type 0 where
  pub serving : IsServing c call (back_slot ∷ vs_slot ∷ [])
  pub tells_vs : Always c (λ s. StandsForVs c.opening (now s c).state (vss.layer_of vs))
  pub tells_back : Always c (λ s. StandsForBack c.opening (now s c).state (backs.layer_of back))

-- .. of the large area
pub record HoldsLarge (c : Token) (call : Call) (large : LargeTable) : Type 0 where
  pub serving : IsServing c call (large_slot ∷ [])
  pub tells : Always c (λ s. StandsForLarge c.opening (now s c).state (larges.layer_of large))
