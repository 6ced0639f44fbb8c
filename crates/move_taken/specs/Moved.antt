-- What becomes of a block that its caller has taken: it has moved, or is live again.
use Rattle.std.specs.Prelude.{◌≡◌, ℕ, ◌*◌, ◌<◌, true, false, min, List, [], ◌∷◌, ◌++◌, length}
use Rattle.heap_model.specs.declared.Act.TheVariants as acts
use Rattle.heap_model.specs.declared.Call.{Call}
use Rattle.heap_model.specs.declared.Flags.{Flags}
use Rattle.heap_model.specs.declared.What.TheVariants as whats
use Rattle.heap_model.specs.Geometry.{words_of}
use Rattle.heap_model.specs.Shape.{moving}
use Rattle.heap_model.specs.State.{Place, address}
use Rattle.lfh_buckets.specs.Blocks.{IsBucket}
use Rattle.step_parts.specs.InHand.{IsBlockNumber}
use Rattle.heap_gate.specs.Token.{Token, Always, now, is_out}
use Rattle.heap_gate.specs.Calls.{IsGuarded}
use Rattle.backend_fit.specs.Kept.{Kept}
use Rattle.large_blocks.specs.Table.{LargeTable}
use Rattle.vs_layer.specs.Kept.{VsKept}
use Rattle.call_parts.specs.Entries.{HasAdded, HasEnded}
use Rattle.lfh_claims.specs.declared.tag.Tag.{Tag}
use Rattle.lfh_claims.specs.Stays.{HasRead}
use Rattle.move_parts.specs.Moves.{IsHalfwayTaken, WillTellVs, WillTellBack, WillTellLarge, TellsVs, TellsBack, TellsLarge}
use Rattle.move_parts.specs.Places.{HasMade}
use Rattle.move_taken.specs.Holds.{taken_place}

---- How it ends

-- The words of the new block q, at b, are there. The caller has both blocks in hand, and nothing else. It has read the tag of the old one, and few entries are
-- prepared.
pub record MayEndTaken (c : Token) (tag : Tag) (addr b n : ℕ) (q : Place) : Type 0 where
  pub call : Call
  pub size : ℕ
  pub out : List ℕ
  pub half : IsHalfwayTaken c call addr size (taken_place tag.bucket addr c.number) b n q out
  pub read : HasRead c tag.head tag.bucket tag.slot
  pub number : IsBlockNumber tag.head tag.bucket addr
  pub bucket : IsBucket tag.bucket
  pub there : tag.head < 256 * c.opening.limits.segments

-- The new block was given, and the old one dropped. What the locks guard is as it was with the new block given.
pub record EndsTaken (old new : Token) (addr b n : ℕ) (q : Place) : Type 0 where
  pub ended : HasEnded old new (acts.Give b n ∷ acts.Drop addr ∷ []) old.out
  pub vs : is_out whats.Vs old.out ≡ true → (vs : VsKept) → WillTellVs old q n vs → TellsVs new vs
  pub back : is_out whats.Back old.out ≡ true → (back : Kept) → WillTellBack old q n back → TellsBack new back
  pub large : is_out whats.Large old.out ≡ true → (large : LargeTable) → WillTellLarge old q n large → TellsLarge new large

---- It has moved

-- A place was made at b, the words were moved, the new block was given, and the old one dropped. Nothing is in hand and nothing prepared, and the locks are held
-- still.
pub record HasMovedTaken (old new : Token) (tag : Tag) (addr size n : ℕ) (flags : Flags) (b : ℕ) : Type 0 where
  pub place : Place
  pub at : address place ≡ b
  pub between : Token
  pub made : HasMade old between (taken_place tag.bucket addr old.number) n place
  pub values : List ℕ
  pub count : length values ≡ words_of (min size n)
  pub rest : HasAdded between new (moving addr size b n flags.zero values ++ acts.Give b n ∷ acts.Drop addr ∷ [])
  pub out_is : new.out ≡ old.out
  pub whole : new.whole ≡ true
  pub free : new.free ≡ true
  pub pending : new.pending ≡ false
  pub prepared : new.prepared ≡ []

-- .. under the locks of VS and of the back end, whose states tell what is there
pub record HasMovedTakenLow (old new : Token) (tag : Tag) (addr size n : ℕ) (flags : Flags) (b : ℕ) (more : VsKept) (kept : Kept) : Type 0 where
  pub moved : HasMovedTaken old new tag addr size n flags b
  pub vs : TellsVs new more
  pub back : TellsBack new kept

-- .. under that of the large area; where those of VS or of the back end are held too, their states tell what they told
pub record HasMovedTakenFar (old new : Token) (tag : Tag) (addr size n : ℕ) (flags : Flags) (b : ℕ) (table : LargeTable) : Type 0 where
  pub moved : HasMovedTaken old new tag addr size n flags b
  pub large : TellsLarge new table
  pub vs : is_out whats.Vs old.out ≡ true → (vs : VsKept) → TellsVs old vs → TellsVs new vs
  pub back : is_out whats.Back old.out ≡ true → (back : Kept) → TellsBack old back → TellsBack new back

---- It is live again

-- The block is live with the size that it had, and nothing is in hand or prepared. The caller stands as it did, with its locks, and what they guard is as it was.
pub record IsGivenBack (old new : Token) (addr size : ℕ) : Type 0 where
  pub ended : HasEnded old new (acts.Give addr size ∷ []) old.out
  pub guarded : Always new (λ s. IsGuarded old.number (now s old) (now s new))
