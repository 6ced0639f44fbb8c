-- A block that has moved to one of the front end, or to one of VS where the front end has none, under locks that its caller holds still.
use Rattle.std.specs.Prelude.{◌≡◌, ℕ, ◌≤◌, true, false, not, min, List, [], ◌∷◌, ◌++◌, length}
use Rattle.std.specs.List.{list_all}
use Rattle.heap_model.specs.declared.Act.{Act}
use Rattle.heap_model.specs.declared.Act.TheVariants as acts
use Rattle.heap_model.specs.declared.Flags.{Flags}
use Rattle.heap_model.specs.Geometry.{words_of}
use Rattle.heap_model.specs.Legal.{is_begin}
use Rattle.heap_model.specs.Moments.{Before}
use Rattle.heap_model.specs.Shape.{Finds, shape_of, begins_move, moving}
use Rattle.heap_model.specs.Stay.{lets_stay}
use Rattle.heap_model.specs.State.{Place, address}
use Rattle.claim_rule.specs.Entries.{may_prepare}
use Rattle.heap_gate.specs.Token.{Token, Always, now}
use Rattle.backend_fit.specs.Kept.{Kept}
use Rattle.large_blocks.specs.Table.{LargeTable}
use Rattle.vs_layer.specs.Kept.{VsKept}
use Rattle.call_parts.specs.Calls.{GoesOn}
use Rattle.vs_calls.specs.Blocks.{IsForVs}
use Rattle.move_front.specs.Front.{AreBefore}
use Rattle.move_parts.specs.Moves.{IsHeld, TellsVs, TellsBack, TellsLarge}
use Rattle.stay_calls.specs.Moments.{OfMoments}
use Rattle.move_to_front.specs.declared.moves.ToFront.{ToFront}
use Rattle.move_to_front.specs.declared.moves.ToFront.TheVariants.{Moved, Idle, NoFit}

-- The caller stands in its call with its locks. Nothing is in hand, nothing has to follow, and no word is owed.
pub record IsSettled (old new : Token) : Type 0 where
  pub call : new.call ≡ old.call
  pub fresh : new.fresh ≡ old.fresh
  pub inside : new.inside ≡ old.inside
  pub out : new.out ≡ old.out
  pub owes : new.owes ≡ []
  pub drawn : new.searched ≡ new.drawn
  pub whole : new.whole ≡ true
  pub free : new.free ≡ true
  pub pending : new.pending ≡ false
  pub few : length new.prepared ≤ 7

-- A place was made at b, the words were moved, and then the old block was taken, the new one given, and the old one dropped. Before the first act of the
-- move the caller found the old block at its address, where n bytes would not let it stay.
pub record HasMovedOver (old new : Token) (addr size n : ℕ) (flags : Flags) (p : Place) (b : ℕ) : Type 0 where
  pub place : Place
  pub at : address place ≡ b
  pub values : List ℕ
  pub count : length values ≡ words_of (min size n)
  pub added : List Act
  pub goes : GoesOn old new added
  pub no_begin : list_all (λ act. not (is_begin act)) added ≡ true
  pub shape_is : shape_of added ≡ acts.Place place.start place.granules place.layer ∷ (moving addr size b n flags.zero values ++ acts.Take addr size ∷ acts.Give b n ∷ acts.Drop addr ∷ [])
  pub leaves : OfMoments (λ s c xs. Before begins_move (Finds s c addr n p false) xs) old new goes.seen.0
  pub settled : IsSettled old new

-- Its bucket is neither active nor due, and nothing has changed.
pub record IsIdle (old new : Token) (n : ℕ) (vs more : VsKept) (back kept : Kept) : Type 0 where
  pub same : new ≡ old
  pub vs_is : more ≡ vs
  pub back_is : kept ≡ back
  pub for_vs : IsForVs new n

-- The front end has no block, and no range is there for n bytes in VS, which can be said. The old block is as it was, and has to move still.
pub record FitsNowhere (old new : Token) (addr size n : ℕ) (p : Place) (back kept : Kept) : Type 0 where
  pub its : List Act
  pub are : AreBefore its
  pub goes : GoesOn old new its
  pub settled : IsSettled old new
  pub held : Always new (λ s. IsHeld (now s new) new.number addr p size)
  pub leaves : Always new (λ s. lets_stay s.limits (now s new).state p n ≡ false)
  pub may : Always new (λ s. may_prepare s (now s new) new.number (acts.NoFit n) ≡ true)
  pub same : kept ≡ back

---- What comes of it, under the locks of VS and of the back end

-- their states tell what is there
pub record TellsLow (c : Token) (more : VsKept) (kept : Kept) : Type 0 where
  pub vs : TellsVs c more
  pub back : TellsBack c kept

abbrev pub MovesOver : Token → Token → ℕ → ℕ → ℕ → Flags → Place → VsKept → VsKept → Kept → Kept → ToFront → Type 0
MovesOver old new addr size n flags p vs more back kept (Moved b) = HasMovedOver old new addr size n flags p b × TellsLow new more kept
MovesOver old new addr size n flags p vs more back kept Idle = IsIdle old new n vs more back kept
MovesOver old new addr size n flags p vs more back kept NoFit = FitsNowhere old new addr size n p back kept × TellsLow new more kept

-- .. and of the large area, where the old block is
abbrev pub MovesOverLarge : Token → Token → ℕ → ℕ → ℕ → Flags → Place → VsKept → VsKept → Kept → Kept → LargeTable → LargeTable → ToFront → Type 0
MovesOverLarge old new addr size n flags p vs more back kept large table (Moved b) = HasMovedOver old new addr size n flags p b × TellsLow new more kept × TellsLarge new table
MovesOverLarge old new addr size n flags p vs more back kept large table Idle = IsIdle old new n vs more back kept × (table ≡ large)
MovesOverLarge old new addr size n flags p vs more back kept large table NoFit = FitsNowhere old new addr size n p back kept × TellsLow new more kept × (table ≡ large) × TellsLarge new table
