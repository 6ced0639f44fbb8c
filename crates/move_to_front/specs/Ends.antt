-- How the old block goes, by the layer that it is in.
use Rattle.std.specs.Prelude.{◌≡◌, ◌⊎◌, ℕ, ◌≤◌, Bool, true, false, min, List, [], ◌∷◌, ◌++◌, length}
use Rattle.heap_model.specs.declared.Act.{Act}
use Rattle.heap_model.specs.declared.Act.TheVariants as acts
use Rattle.heap_model.specs.declared.What.TheVariants as whats
use Rattle.heap_model.specs.Geometry.{words_of}
use Rattle.heap_model.specs.Shape.{moving}
use Rattle.heap_gate.specs.Token.{Token, is_out}
use Rattle.backend_fit.specs.Kept.{Kept}
use Rattle.large_blocks.specs.Table.{LargeTable}
use Rattle.vs_layer.specs.Kept.{VsKept}
use Rattle.call_parts.specs.Entries.{HasAdded}
use Rattle.move_parts.specs.Moves.{TellsVs, TellsBack, TellsLarge}
use Rattle.move_to_front.specs.Moved.{TellsLow}

-- The old block was taken, the new one given, and the old one dropped, with its span where it was all of it; nothing is in hand. The caller stands as it did,
-- with its locks.
pub record HasChangedOver (old new : Token) (addr size b n : ℕ) : Type 0 where
  pub last : List Act
  pub last_is : (last ≡ []) ⊎ ((first : ℕ) × (last ≡ acts.Unspan first ∷ []))
  pub added : HasAdded old new (acts.Take addr size ∷ acts.Give b n ∷ acts.Drop addr ∷ last)
  pub out_is : new.out ≡ old.out
  pub whole : new.whole ≡ true
  pub free : new.free ≡ true
  pub pending : new.pending ≡ false
  pub few : length new.prepared ≤ 2

-- .. so an old block of the large area went, whose table tells what is left; what the other locks guard is told as it was
pub record EndsLarge (old new : Token) (addr size b n : ℕ) (table : LargeTable) : Type 0 where
  pub changed : HasChangedOver old new addr size b n
  pub large : TellsLarge new table
  pub vs : is_out whats.Vs old.out ≡ true → (vs : VsKept) → TellsVs old vs → TellsVs new vs
  pub back : is_out whats.Back old.out ≡ true → (back : Kept) → TellsBack old back → TellsBack new back

-- .. one of the back end
pub record EndsBack (old new : Token) (addr size b n : ℕ) (kept : Kept) : Type 0 where
  pub changed : HasChangedOver old new addr size b n
  pub back : TellsBack new kept
  pub vs : is_out whats.Vs old.out ≡ true → (vs : VsKept) → TellsVs old vs → TellsVs new vs

-- .. one of VS, and its span with it where it was the last one there
pub record EndsVs (old new : Token) (addr size b n : ℕ) (more : VsKept) (kept : Kept) : Type 0 where
  pub changed : HasChangedOver old new addr size b n
  pub tells : TellsLow new more kept

---- With the words before it

-- The words were moved, and the old block went as it ends.
pub record HasFilledAndChanged (old new : Token) (addr size b n : ℕ) (zero : Bool) : Type 0 where
  pub values : List ℕ
  pub count : length values ≡ words_of (min size n)
  pub last : List Act
  pub last_is : (last ≡ []) ⊎ ((first : ℕ) × (last ≡ acts.Unspan first ∷ []))
  pub added : HasAdded old new (moving addr size b n zero values ++ acts.Take addr size ∷ acts.Give b n ∷ acts.Drop addr ∷ last)
  pub out_is : new.out ≡ old.out
  pub whole : new.whole ≡ true
  pub free : new.free ≡ true
  pub pending : new.pending ≡ false
  pub few : length new.prepared ≤ 7

pub record FillsAndEndsVs (old new : Token) (addr size b n : ℕ) (zero : Bool) (more : VsKept) (kept : Kept) : Type 0 where
  pub changed : HasFilledAndChanged old new addr size b n zero
  pub tells : TellsLow new more kept

pub record FillsAndEndsBack (old new : Token) (addr size b n : ℕ) (zero : Bool) (kept : Kept) : Type 0 where
  pub changed : HasFilledAndChanged old new addr size b n zero
  pub back : TellsBack new kept
  pub vs : is_out whats.Vs old.out ≡ true → (vs : VsKept) → TellsVs old vs → TellsVs new vs

pub record FillsAndEndsLarge (old new : Token) (addr size b n : ℕ) (zero : Bool) (table : LargeTable) : Type 0 where
  pub changed : HasFilledAndChanged old new addr size b n zero
  pub large : TellsLarge new table
  pub vs : is_out whats.Vs old.out ≡ true → (vs : VsKept) → TellsVs old vs → TellsVs new vs
  pub back : is_out whats.Back old.out ≡ true → (back : Kept) → TellsBack old back → TellsBack new back
