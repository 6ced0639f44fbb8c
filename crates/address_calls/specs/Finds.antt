-- Where the block at an address may lie, and how a caller stands that has found out.
use Rattle.std.specs.Prelude.{◌≡◌, ℕ, ◌+◌, ◌*◌, ◌/◌, ◌%◌, ◌<◌, ◌≤◌, ◌⊎◌, true, false, not, is_some, List, [], ◌∷◌, None}
use Rattle.std.specs.List.{list_all, list_any}
use Rattle.heap_model.specs.declared.Act.{Act}
use Rattle.heap_model.specs.declared.Act.TheVariants as acts
use Rattle.heap_model.specs.declared.Call.{Call}
use Rattle.heap_model.specs.declared.Limits.{Limits}
use Rattle.heap_model.specs.declared.What.TheVariants as whats
use Rattle.heap_model.specs.Backend.{in_span}
use Rattle.heap_model.specs.Legal.{is_begin}
use Rattle.heap_model.specs.Shape.{begins_move, shape_of}
use Rattle.claim_rule.specs.Shown.{lfh_spans}
use Rattle.lfh_buckets.specs.Blocks.{IsBucket}
use Rattle.block_steps.specs.Blocks.{MayAsk}
use Rattle.heap_gate.specs.Token.{Token, Always, now}
use Rattle.backend_fit.specs.Kept.{Kept}
use Rattle.large_blocks.specs.Table.{LargeTable}
use Rattle.vs_layer.specs.Kept.{VsKept, block_at}
use Rattle.lfh_claims.specs.declared.tag.Tag.{Tag}
use Rattle.call_parts.specs.Calls.{IsServing}
use Rattle.call_parts.specs.Entries.{HasAdded}
use Rattle.paged_calls.specs.Parts.{HasBoth, HasLarge}
use Rattle.vs_calls.specs.Blocks.{HasVs, size_at}
use Rattle.address_calls.specs.declared.look.Found.{Found}
use Rattle.address_calls.specs.declared.look.Found.TheVariants as founds

-- Of what a caller has done since, no shape shows anything, and it begins no move of a block: it has read tags, and taken locks or given them back.
pub record Looks (old new : Token) : Type 0 where
  pub rest : List Act
  pub added : HasAdded old new rest
  pub no_begin : list_all (λ act. not (is_begin act)) rest ≡ true
  pub no_move : list_all (λ act. not (begins_move act)) rest ≡ true
  pub shape_is : shape_of rest ≡ []

---- Where an address lies

-- The caller is in its call and holds no lock.
abbrev pub IsFree : Token → Type 0
IsFree c = (call : Call) × IsServing c call []

-- The address lies in a subsegment of the front end that this tag names, and the caller may ask for the block there.
pub record IsFront (c : Token) (addr : ℕ) (tag : Tag) : Type 0 where
  pub free : IsFree c
  pub there : addr < 1048576 * c.opening.limits.segments
  pub bucket : IsBucket tag.bucket
  pub may : Always c (λ s. MayAsk (now s c) c.number tag.head tag.bucket tag.slot addr)

-- VS has a live block there, and the caller has the state of VS.
pub record IsOfVs (c : Token) (addr : ℕ) (vs : VsKept) : Type 0 where
  pub has : HasVs c vs
  pub below : addr / 4096 < 256 * c.opening.limits.segments
  pub live : is_some (size_at vs addr) ≡ true

-- If any layer has a block there it is the back end, and the caller has the states of VS and of the back end.
pub record IsOfBack (c : Token) (addr : ℕ) (vs : VsKept) (back : Kept) : Type 0 where
  pub has : HasBoth c vs back
  pub below : addr / 4096 < 256 * c.opening.limits.segments
  pub not_vs : block_at vs addr ≡ None
  pub not_front : Always c (λ s. list_any (in_span (addr / 4096)) (lfh_spans (now s c).state.back.area) ≡ false)

-- .. it is the large area, whose state the caller has.
pub record IsOfLarge (c : Token) (addr : ℕ) (large : LargeTable) : Type 0 where
  pub has : HasLarge c large
  pub behind : 256 * c.opening.limits.segments ≤ addr / 4096

-- no block ever begins there
abbrev pub IsNone : Limits → ℕ → Type 0
IsNone l addr = (addr % 16 ≡ 0 → ⊥) ⊎ (256 * l.segments + l.large_pages ≤ addr / 4096)

-- where the caller has found the address
abbrev pub IsFound : Token → ℕ → Found → Type 0
IsFound c addr (founds.Front tag) = IsFront c addr tag
IsFound c addr (founds.Vs vs) = IsOfVs c addr vs
IsFound c addr (founds.Back vs back) = IsOfBack c addr vs back
IsFound c addr (founds.Large large) = IsOfLarge c addr large
IsFound c addr founds.Nowhere = IsFree c × IsNone c.opening.limits addr

---- What was done to find it

-- To find that the front end has the address these acts were added; where another layer has it, this says nothing.
abbrev pub FrontBy : List Act → Token → Token → Found → Type 0
FrontBy rest old new (founds.Front tag) = HasAdded old new rest
FrontBy rest old new _ = Unit {0}

-- Where the tag is there already, the front end is found with no lock; else by the locks of VS and of the back end, which are given back.
abbrev pub FindsFront : Token → Token → Found → Type 0
FindsFront old new (founds.Front tag) = HasAdded old new [] ⊎ HasAdded old new (acts.TakeLock whats.Vs ∷ acts.TakeLock whats.Back ∷ acts.GiveLock whats.Back ∷ acts.GiveLock whats.Vs ∷ [])
FindsFront old new _ = Unit {0}
