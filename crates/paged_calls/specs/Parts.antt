-- What the parts of a call do in the back end and in the large area.
use Rattle.std.specs.Prelude.{◌≡◌, ℕ, Bool, true, false, not, List, [], ◌∷◌, ◌++◌, Option, Some, None}
use Rattle.std.specs.List.{list_all}
use Rattle.heap_model.specs.declared.Act.{Act}
use Rattle.heap_model.specs.declared.Act.TheVariants as acts
use Rattle.heap_model.specs.declared.AllocNo.{AllocNo}
use Rattle.heap_model.specs.declared.AllocNo.TheVariants as alloc_nos
use Rattle.heap_model.specs.declared.Call.{Call}
use Rattle.heap_model.specs.declared.Call.TheVariants as calls
use Rattle.heap_model.specs.declared.Flags.{Flags}
use Rattle.heap_model.specs.declared.Reply.TheVariants as replies
use Rattle.heap_model.specs.declared.What.{What}
use Rattle.heap_model.specs.declared.What.TheVariants as whats
use Rattle.heap_model.specs.declared.Layer.{Layer}
use Rattle.heap_model.specs.State.{InHand, address}
use Rattle.heap_model.specs.Legal.{leaves_whole, is_begin}
use Rattle.heap_model.specs.Shape.{Replied, shape_of, zeroing}
use Rattle.heap_gate.specs.Token.{Token, Always, now}
use Rattle.backend_fit.specs.Kept.{Kept}
use Rattle.vs_layer.specs.Kept.{VsKept}
use Rattle.large_blocks.specs.Table.{LargeTable}
use Rattle.call_parts.specs.Entries.{HasEnded}
use Rattle.call_parts.specs.Calls.{IsServing, Makes, Brings, MeetsBusy, HoldsBoth, HoldsLarge}

---- The call

-- so it is of the call that the caller is in
abbrev pub ForCall : Token → (Call → Type 0) → Type 0
ForCall c P = (call : Call) → c.call ≡ Some call → P call

-- The caller allocates n bytes, to be zeroed or not, and holds no lock.
abbrev pub IsAllocating : Token → ℕ → Bool → Type 0
IsAllocating c n zero = (flags : Flags) × (flags.zero ≡ zero) × IsServing c (calls.Alloc n flags) []

-- The caller has, in its call, the states of VS and of the back end, and each span of VS has a place ..
pub record HasBoth (c : Token) (vs : VsKept) (back : Kept) : Type 0 where
  pub call : Call
  pub holds : HoldsBoth c call vs back
  pub used : Always c (λ s. leaves_whole (now s c).state whats.Vs ≡ true)

-- .. or that of the large area.
abbrev pub HasLarge : Token → LargeTable → Type 0
HasLarge c large = (call : Call) × HoldsLarge c call large

---- What stands under a lock

-- The caller has given its locks back, behind acts that show this shape.
pub record Shows (old new : Token) (shape : List Act) : Type 0 where
  pub rest : List Act
  pub ended : HasEnded old new rest []
  pub no_begin : list_all (λ act. not (is_begin act)) rest ≡ true
  pub shape_is : shape_of rest ≡ shape

-- .. those of a new block
pub record HasPlaced (old new : Token) (addr n : ℕ) (zero : Bool) : Type 0 where
  pub start : ℕ
  pub granules : ℕ
  pub layer : Layer
  pub at : address (record { start = start; granules = granules; layer = layer; status = InHand 0 }) ≡ addr
  pub shown : Shows old new (acts.Place start granules layer ∷ (zeroing zero addr n ++ acts.Give addr n ∷ []))

---- What the parts do

-- the block is placed, and given at this address
abbrev pub Places : Token → Token → ℕ → Type 0
Places old new addr = ForCall old (λ call. Brings old new call (Replied (replies.Address addr)))

-- .. or no range fits, or another holds this lock
abbrev pub IsRefused : What → Token → Token → AllocNo → Type 0
IsRefused what old new alloc_nos.NoFit = ForCall old (λ call. Brings old new call (Replied replies.NoFit))
IsRefused what old new (alloc_nos.Busy b) = ForCall old (λ call. MeetsBusy old new call b what)

-- the size of the block at an address is found, or that none is live there
abbrev pub Measures : Token → Token → ℕ → Option ℕ → Type 0
Measures old new addr (Some size) = ForCall old (λ call. Makes old new call (acts.Sized addr size ∷ []))
Measures old new addr None = ForCall old (λ call. Makes old new call (acts.NotLive addr ∷ []))

-- the block at an address is taken, and its place goes, or none is live there
abbrev pub Drops : Token → Token → ℕ → Bool → Type 0
Drops old new addr true = (size : ℕ) × ForCall old (λ call. Makes old new call (acts.Take addr size ∷ acts.Drop addr ∷ []))
Drops old new addr false = ForCall old (λ call. Makes old new call (acts.NotLive addr ∷ []))
