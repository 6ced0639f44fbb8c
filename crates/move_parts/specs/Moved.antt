-- A block that has moved, under the locks that its caller holds still.
use Rattle.std.specs.Prelude.{◌≡◌, ◌⊎◌, ℕ, ◌≤◌, true, false, min, List, [], ◌∷◌, ◌++◌, length}
use Rattle.heap_model.specs.declared.Act.{Act}
use Rattle.heap_model.specs.declared.Act.TheVariants as acts
use Rattle.heap_model.specs.declared.Flags.{Flags}
use Rattle.heap_model.specs.declared.What.TheVariants as whats
use Rattle.heap_model.specs.Geometry.{words_of}
use Rattle.heap_model.specs.Shape.{moving}
use Rattle.heap_model.specs.State.{Place, address}
use Rattle.heap_gate.specs.Token.{Token, is_out}
use Rattle.backend_fit.specs.Kept.{Kept}
use Rattle.large_blocks.specs.Table.{LargeTable}
use Rattle.vs_layer.specs.Kept.{VsKept}
use Rattle.call_parts.specs.Entries.{HasAdded}
use Rattle.move_parts.specs.Moves.{TellsVs, TellsBack, TellsLarge}
use Rattle.move_parts.specs.Places.{HasMade}

-- A place was made at b, the words were moved, and then the old block was taken, the new one given, and the old one dropped, with its span where it was all of
-- it. Nothing is in hand, and the locks are held still.
pub record HasMoved (old new : Token) (addr size n : ℕ) (flags : Flags) (p : Place) (b : ℕ) : Type 0 where
  pub place : Place
  pub at : address place ≡ b
  pub between : Token
  pub made : HasMade old between p n place
  pub values : List ℕ
  pub count : length values ≡ words_of (min size n)
  pub last : List Act
  pub last_is : (last ≡ []) ⊎ ((first : ℕ) × (last ≡ acts.Unspan first ∷ []))
  pub rest : HasAdded between new (moving addr size b n flags.zero values ++ acts.Take addr size ∷ acts.Give b n ∷ acts.Drop addr ∷ last)
  pub out_is : new.out ≡ old.out
  pub whole : new.whole ≡ true
  pub free : new.free ≡ true
  pub pending : new.pending ≡ false
  pub few : length new.prepared ≤ 7

-- .. under the locks of VS and of the back end, whose states tell what is there
pub record HasMovedLow (old new : Token) (addr size n : ℕ) (flags : Flags) (p : Place) (b : ℕ) (more : VsKept) (kept : Kept) : Type 0 where
  pub moved : HasMoved old new addr size n flags p b
  pub vs : TellsVs new more
  pub back : TellsBack new kept

-- .. and of the large area
pub record HasMovedAll (old new : Token) (addr size n : ℕ) (flags : Flags) (p : Place) (b : ℕ) (more : VsKept) (kept : Kept) (table : LargeTable) : Type 0 where
  pub moved : HasMoved old new addr size n flags p b
  pub vs : TellsVs new more
  pub back : TellsBack new kept
  pub large : TellsLarge new table

-- .. under those of the back end and of the large area; where that of VS is held too, its state tells what it told
pub record HasMovedPaged (old new : Token) (addr size n : ℕ) (flags : Flags) (p : Place) (b : ℕ) (kept : Kept) (table : LargeTable) : Type 0 where
  pub moved : HasMoved old new addr size n flags p b
  pub back : TellsBack new kept
  pub large : TellsLarge new table
  pub vs : is_out whats.Vs old.out ≡ true → (vs : VsKept) → TellsVs old vs → TellsVs new vs

-- .. under that of the large area; where those of VS or of the back end are held too, their states tell what they told
pub record HasMovedLarge (old new : Token) (addr size n : ℕ) (flags : Flags) (p : Place) (b : ℕ) (table : LargeTable) : Type 0 where
  pub moved : HasMoved old new addr size n flags p b
  pub large : TellsLarge new table
  pub vs : is_out whats.Vs old.out ≡ true → (vs : VsKept) → TellsVs old vs → TellsVs new vs
  pub back : is_out whats.Back old.out ≡ true → (back : Kept) → TellsBack old back → TellsBack new back
