-- How a move places its new block, and how its old one goes.
use Rattle.std.specs.Prelude.{◌≡◌, ◌⊎◌, ℕ, ◌+◌, ◌≤◌, Bool, true, false, not, List, [], ◌∷◌, ◌++◌, length, Some}
use Rattle.std.specs.List.{list_all}
use Rattle.heap_model.specs.declared.Act.{Act}
use Rattle.heap_model.specs.declared.Act.TheVariants as acts
use Rattle.heap_model.specs.declared.Call.{Call}
use Rattle.heap_model.specs.declared.Call.TheVariants as calls
use Rattle.heap_model.specs.declared.Flags.{Flags}
use Rattle.heap_model.specs.declared.What.TheVariants as whats
use Rattle.heap_model.specs.Legal.{is_begin, after, with_places}
use Rattle.heap_model.specs.Shape.{shape_of, begins_move}
use Rattle.heap_model.specs.Stay.{lets_stay}
use Rattle.heap_model.specs.State.{Place, has_address, remove_found}
use Rattle.claim_rule.specs.Entries.{entry, may_prepare}
use Rattle.heap_gate.specs.Token.{Token, Always, now, is_out}
use Rattle.heap_gate.specs.Calls.{rested, with_prepared}
use Rattle.call_parts.specs.Entries.{HasAdded, with_all}
use Rattle.backend_fit.specs.Kept.{Kept}
use Rattle.large_blocks.specs.Table.{LargeTable}
use Rattle.vs_layer.specs.Kept.{VsKept}
use Rattle.vs_calls.specs.Parts.{without_span, IsEmptySpan}
use Rattle.move_parts.specs.Moves.{IsHalfwayAny, with_given, WillTellVs, WillTellBack, WillTellLarge, TellsVs, TellsBack, TellsLarge}

---- The place

-- The new place q is prepared, for which the caller has reserved a segment, or has not. Where it has, the old block could not stay then either.
pub record HasMade (old new : Token) (p : Place) (n : ℕ) (q : Place) : Type 0 where
  pub reserves : List Act
  pub begins : Act
  pub more : List Act
  pub added : HasAdded old new (reserves ++ begins ∷ more)
  pub begins_it : begins_move begins ≡ true
  pub no_begin : list_all (λ act. not (is_begin act)) (reserves ++ begins ∷ more) ≡ true
  pub shape_is : shape_of (reserves ++ begins ∷ more) ≡ acts.Place q.start q.granules q.layer ∷ []
  pub reserves_are : (reserves ≡ []) ⊎ ((segment : ℕ) × (reserves ≡ acts.Reserve segment ∷ []) × Always old (λ s. lets_stay s.limits (after s (now s old) (entry old.number (acts.Reserve segment))).state p n ≡ false))

---- The end

-- The old block was taken, the new one given, and the old one dropped, by entries that are prepared: its place is gone, and nothing is in hand.
pub record HasSwapped (old new : Token) (addr size : ℕ) (p : Place) (b n : ℕ) (q : Place) : Type 0 where
  pub prepared : new ≡ rested (with_all old (acts.Take addr size ∷ acts.Give b n ∷ acts.Drop addr ∷ []))
  pub state : Always new (λ s. (now s new).state ≡ with_places (with_given (now s old).state old.number q n) (Some p.layer) (remove_found (has_address addr)))

-- The old block was taken, the new one given, and the old one dropped, with its span where it was all of it; nothing is in hand. The caller stands as it did,
-- with its locks.
pub record HasChanged (old new : Token) (addr size b n : ℕ) : Type 0 where
  pub last : List Act
  pub last_is : (last ≡ []) ⊎ ((first : ℕ) × (last ≡ acts.Unspan first ∷ []))
  pub added : HasAdded old new (acts.Take addr size ∷ acts.Give b n ∷ acts.Drop addr ∷ last)
  pub out_is : new.out ≡ old.out
  pub whole : new.whole ≡ true
  pub free : new.free ≡ true
  pub pending : new.pending ≡ old.pending
  pub few : length new.prepared ≤ length old.prepared + 4

-- .. so an old block of the large area went, whose table tells what is left
pub record EndsLarge (old new : Token) (addr size b n : ℕ) (q : Place) (table : LargeTable) : Type 0 where
  pub changed : HasChanged old new addr size b n
  pub large : TellsLarge new table
  pub vs : (vs : VsKept) → WillTellVs old q n vs → TellsVs new vs
  pub back : (back : Kept) → WillTellBack old q n back → TellsBack new back

-- .. one of the back end
pub record EndsBack (old new : Token) (addr size b n : ℕ) (q : Place) (kept : Kept) : Type 0 where
  pub changed : HasChanged old new addr size b n
  pub back : TellsBack new kept
  pub vs : (vs : VsKept) → WillTellVs old q n vs → TellsVs new vs
  pub large : (large : LargeTable) → WillTellLarge old q n large → TellsLarge new large

---- A new block in hand

-- the act reserves a segment, or makes a span or a place
abbrev pub is_making : Act → Bool
is_making (acts.Reserve segment) = true
is_making (acts.Span first pages kind bucket slot) = true
is_making (acts.Place start granules layer) = true
is_making _ = false

-- The caller has prepared a place for n bytes, at b, and has it in hand; its old block it has still to take, or has taken.
pub record HasHeld (taken : Bool) (old new : Token) (addr size n : ℕ) (flags : Flags) (p : Place) (out : List ℕ) (b : ℕ) (q : Place) : Type 0 where
  pub half : IsHalfwayAny taken new (calls.Realloc addr n flags) addr size p b n q out
  pub made : HasMade old new p n q
  pub plain : list_all is_making (made.reserves ++ made.begins ∷ made.more) ≡ true

-- .. in the large area, whose table has it already
pub record HasHeldLarge (taken : Bool) (old new : Token) (addr size n : ℕ) (flags : Flags) (p : Place) (out : List ℕ) (b : ℕ) (table : LargeTable) : Type 0 where
  pub place : Place
  pub held : HasHeld taken old new addr size n flags p out b place
  pub large : WillTellLarge new place n table
  pub vs : (vs : VsKept) → TellsVs old vs → WillTellVs new place n vs
  pub back : (back : Kept) → TellsBack old back → WillTellBack new place n back

-- no range is there for n bytes, which can be said, and nothing has changed
pub record IsWithout (old new : Token) (n : ℕ) : Type 0 where
  pub same : new ≡ old
  pub may : Always old (λ s. may_prepare s (now s old) old.number (acts.NoFit n) ≡ true)

---- A span of VS that goes with its last block

-- The caller holds the locks of VS and of the back end, and has its state; a span of VS begins at this page, in which no block is left.
pub record MayEnd (c : Token) (kept : Kept) (first : ℕ) : Type 0 where
  pub call : Call
  pub call_is : c.call ≡ Some call
  pub inside : c.inside ≡ true
  pub whole : c.whole ≡ true
  pub vs_held : is_out whats.Vs c.out ≡ true
  pub back_held : is_out whats.Back c.out ≡ true
  pub empty : Always c (λ s. IsEmptySpan (now s c).state first)
  pub back : TellsBack c kept

-- Its end is prepared, and the back end tells what is left.
pub record HasEndedSpan (old new : Token) (kept : Kept) (first : ℕ) : Type 0 where
  pub prepared : new ≡ with_prepared old (acts.Unspan first)
  pub back : TellsBack new kept
  pub state : Always new (λ s. (now s new).state ≡ without_span (now s old).state first)

-- An old block of VS went, and its span with it where it was the last one there. Both layers tell what is left.
pub record EndsVs (old new : Token) (addr size b n : ℕ) (q : Place) (more : VsKept) (kept : Kept) : Type 0 where
  pub changed : HasChanged old new addr size b n
  pub vs : TellsVs new more
  pub back : TellsBack new kept
  pub large : (large : LargeTable) → WillTellLarge old q n large → TellsLarge new large

-- .. in VS, whose state has it already; the back end is as it was
pub record HasHeldVs (taken : Bool) (old new : Token) (addr size n : ℕ) (flags : Flags) (p : Place) (out : List ℕ) (b : ℕ) (more : VsKept) : Type 0 where
  pub place : Place
  pub held : HasHeld taken old new addr size n flags p out b place
  pub vs : WillTellVs new place n more
  pub back : (back : Kept) → TellsBack old back → WillTellBack new place n back
  pub large : (large : LargeTable) → TellsLarge old large → WillTellLarge new place n large

-- .. in a span of VS that was made for it
pub record HasHeldAnew (taken : Bool) (old new : Token) (addr size n : ℕ) (flags : Flags) (p : Place) (out : List ℕ) (b : ℕ) (more : VsKept) (kept : Kept) : Type 0 where
  pub place : Place
  pub held : HasHeld taken old new addr size n flags p out b place
  pub vs : WillTellVs new place n more
  pub back : WillTellBack new place n kept
  pub large : (large : LargeTable) → TellsLarge old large → WillTellLarge new place n large

-- .. in the back end, whose state has it already
pub record HasHeldBack (taken : Bool) (old new : Token) (addr size n : ℕ) (flags : Flags) (p : Place) (out : List ℕ) (b : ℕ) (kept : Kept) : Type 0 where
  pub place : Place
  pub held : HasHeld taken old new addr size n flags p out b place
  pub back : WillTellBack new place n kept
  pub vs : (vs : VsKept) → TellsVs old vs → WillTellVs new place n vs
  pub large : (large : LargeTable) → TellsLarge old large → WillTellLarge new place n large
