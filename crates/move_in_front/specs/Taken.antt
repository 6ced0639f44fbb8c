-- A block of the front end that its caller has taken, and moves to another one of the front end, or of VS where the front end has none.
use Rattle.std.specs.Prelude.{◌≡◌, ℕ, true, false, not, min, List, [], ◌∷◌, ◌++◌, length}
use Rattle.std.specs.List.{list_all}
use Rattle.heap_model.specs.declared.Act.{Act}
use Rattle.heap_model.specs.declared.Act.TheVariants as acts
use Rattle.heap_model.specs.declared.Flags.{Flags}
use Rattle.heap_model.specs.CallState.{not_begun}
use Rattle.heap_model.specs.Geometry.{words_of}
use Rattle.heap_model.specs.Legal.{is_begin}
use Rattle.heap_model.specs.Shape.{shape_of, moving}
use Rattle.heap_model.specs.State.{Place, address}
use Rattle.claim_rule.specs.Entries.{have_slots, may_prepare}
use Rattle.heap_gate.specs.Token.{Token, Always, now}
use Rattle.backend_fit.specs.Kept.{Kept}
use Rattle.vs_layer.specs.Kept.{VsKept}
use Rattle.lfh_claims.specs.declared.tag.Tag.{Tag}
use Rattle.lfh_search.specs.Under.{CannotBeServed}
use Rattle.call_parts.specs.Calls.{GoesOn}
use Rattle.move_front.specs.Front.{AreBefore}
use Rattle.move_taken.specs.Holds.{HoldsTaken}
use Rattle.move_to_front.specs.Moved.{IsSettled, IsIdle, TellsLow}
use Rattle.move_in_front.specs.declared.moves.InFront.{InFront}
use Rattle.move_in_front.specs.declared.moves.InFront.TheVariants.{Moved, Idle, NoFit}

-- The caller has searched for no block, and has said of no bucket that no span serves it.
pub record HasSearchedNothing (c : Token) : Type 0 where
  pub searched : c.searched ≡ false
  pub no_span : Always c (λ s. ((now s c).now.calls c.number).no_span ≡ false)
  pub search : Always c (λ s. ((now s c).now.calls c.number).search ≡ not_begun)

-- It has taken the block that it moves, and has searched nothing yet.
pub record HasTaken (c : Token) (tag : Tag) (addr size n : ℕ) (flags : Flags) (out : List ℕ) : Type 0 where
  pub holds : HoldsTaken c tag addr size n flags out
  pub nothing : HasSearchedNothing c

-- A place was made at b, of the front end or of VS, the words were moved, the new block was given, and the old one dropped.
pub record HasMovedInFront (old new : Token) (addr size n : ℕ) (flags : Flags) (b : ℕ) : Type 0 where
  pub place : Place
  pub at : address place ≡ b
  pub values : List ℕ
  pub count : length values ≡ words_of (min size n)
  pub added : List Act
  pub goes : GoesOn old new added
  pub no_begin : list_all (λ act. not (is_begin act)) added ≡ true
  pub shape_is : shape_of added ≡ acts.Place place.start place.granules place.layer ∷ (moving addr size b n flags.zero values ++ acts.Give b n ∷ acts.Drop addr ∷ [])
  pub settled : IsSettled old new
  pub prepared : new.prepared ≡ []

-- The front end was searched in vain, behind acts that leave what the caller holds: the old block is in hand as it was, and each caller has a slot.
pub record IsUnserved (old new : Token) (tag : Tag) (addr size n : ℕ) (flags : Flags) (out : List ℕ) (back kept : Kept) (bucket : ℕ) : Type 0 where
  pub its : List Act
  pub are : AreBefore its
  pub goes : GoesOn old new its
  pub holds : HoldsTaken new tag addr size n flags out
  pub cannot : CannotBeServed new bucket
  pub slots : have_slots new.opening.limits.slots new.roll ≡ true
  pub same : kept ≡ back

-- .. and no range is there for n bytes in VS, which can be said
pub record FitsNowhereTaken (old new : Token) (tag : Tag) (addr size n : ℕ) (flags : Flags) (out : List ℕ) (back kept : Kept) : Type 0 where
  pub its : List Act
  pub are : AreBefore its
  pub goes : GoesOn old new its
  pub holds : HoldsTaken new tag addr size n flags out
  pub may : Always new (λ s. may_prepare s (now s new) new.number (acts.NoFit n) ≡ true)
  pub same : kept ≡ back

abbrev pub MovesInFront : Token → Token → Tag → ℕ → ℕ → ℕ → Flags → List ℕ → VsKept → VsKept → Kept → Kept → InFront → Type 0
MovesInFront old new tag addr size n flags out vs more back kept (Moved b) = HasMovedInFront old new addr size n flags b × TellsLow new more kept
MovesInFront old new tag addr size n flags out vs more back kept Idle = IsIdle old new n vs more back kept
MovesInFront old new tag addr size n flags out vs more back kept NoFit = FitsNowhereTaken old new tag addr size n flags out back kept × TellsLow new more kept
