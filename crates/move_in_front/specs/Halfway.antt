-- Two blocks of the front end in hand: the old one, and the new one that is not given yet.
use Rattle.std.specs.Prelude.{◌≡◌, ℕ, ◌+◌, ◌*◌, ◌/◌, ◌<◌, ◌≤◌, Bool, true, false, not, min, List, [], ◌∷◌, ◌++◌, length, Some}
use Rattle.std.specs.List.{list_all}
use Rattle.heap_model.specs.declared.Act.{Act}
use Rattle.heap_model.specs.declared.Act.TheVariants as acts
use Rattle.heap_model.specs.declared.Call.{Call}
use Rattle.heap_model.specs.declared.Call.TheVariants as calls
use Rattle.heap_model.specs.declared.Flags.{Flags}
use Rattle.heap_model.specs.declared.Layer.TheVariants as layers
use Rattle.heap_model.specs.Buckets.{block_size}
use Rattle.heap_model.specs.Geometry.{words_of}
use Rattle.heap_model.specs.Legal.{is_begin}
use Rattle.heap_model.specs.Shape.{shape_of, moving}
use Rattle.heap_model.specs.State.{Place, address, hands}
use Rattle.claim_rule.specs.Places.{data_count}
use Rattle.lfh_buckets.specs.Blocks.{IsBucket}
use Rattle.step_parts.specs.InHand.{IsBlockNumber}
use Rattle.heap_gate.specs.Token.{Token, Always, now}
use Rattle.backend_fit.specs.Kept.{Kept}
use Rattle.vs_layer.specs.Kept.{VsKept}
use Rattle.lfh_claims.specs.declared.tag.Tag.{Tag}
use Rattle.lfh_claims.specs.Stays.{HasRead}
use Rattle.call_parts.specs.Calls.{GoesOn}
use Rattle.call_parts.specs.Entries.{HasEnded}
use Rattle.move_front.specs.declared.front.Front.{Front}
use Rattle.move_front.specs.declared.front.Front.TheVariants.{Held, Idle, NoRoom}
use Rattle.move_to_front.specs.Moved.{IsIdle, TellsLow}
use Rattle.move_in_front.specs.Taken.{IsUnserved}

-- The new place q is at b and long enough for n bytes, the old one p at addr, of the subsegment that the tag names. Nothing is prepared. The words of both are
-- data words.
pub record HoldsTwo (c : Token) (call : Call) (tag : Tag) (addr size : ℕ) (p : Place) (b n : ℕ) (q : Place) (out : List ℕ) : Type 0 where
  pub call_is : c.call ≡ Some call
  pub fresh : c.fresh ≡ false
  pub inside : c.inside ≡ true
  pub out_is : c.out ≡ out
  pub whole : c.whole ≡ true
  pub pending : c.pending ≡ false
  pub prepared : c.prepared ≡ []
  pub drawn : c.searched ≡ c.drawn
  pub owes : c.owes ≡ []
  pub hand : Always c (λ s. hands (now s c).state c.number ≡ q ∷ p ∷ [])
  pub front : q.layer ≡ layers.Lfh
  pub at : address q ≡ b
  pub bucket : ℕ
  pub long : 16 * q.granules ≡ block_size bucket
  pub fits : n ≤ block_size bucket
  pub small : n ≤ 16368
  pub there : b < 1048576 * c.opening.limits.segments
  pub old_front : p.layer ≡ layers.Lfh
  pub old_at : address p ≡ addr
  pub old_long : 16 * p.granules ≡ block_size tag.bucket
  pub of : IsBucket tag.bucket
  pub apart : addr ≡ b → ⊥
  pub read : HasRead c tag.head tag.bucket tag.slot
  pub number : IsBlockNumber tag.head tag.bucket addr
  pub head : tag.head < 256 * c.opening.limits.segments
  pub from : addr / 8 + words_of size ≤ data_count c.opening.limits
  pub to : b / 8 + words_of n ≤ data_count c.opening.limits

-- The new place was made, and nothing else is shown.
pub record HasMadeBeside (old new : Token) (q : Place) : Type 0 where
  pub added : List Act
  pub goes : GoesOn old new added
  pub no_begin : list_all (λ act. not (is_begin act)) added ≡ true
  pub shape_is : shape_of added ≡ acts.Place q.start q.granules q.layer ∷ []
  pub call : new.call ≡ old.call
  pub fresh : new.fresh ≡ old.fresh
  pub inside : new.inside ≡ old.inside
  pub out : new.out ≡ old.out

pub record HasNewBeside (old new : Token) (call : Call) (tag : Tag) (addr size n : ℕ) (p : Place) (out : List ℕ) (more : VsKept) (kept : Kept) (b : ℕ) : Type 0 where
  pub place : Place
  pub two : HoldsTwo new call tag addr size p b n place out
  pub made : HasMadeBeside old new place
  pub tells : TellsLow new more kept

abbrev pub HoldsBeside : Token → Token → Flags → Tag → ℕ → ℕ → ℕ → Place → List ℕ → VsKept → VsKept → Kept → Kept → ℕ → Front → Type 0
HoldsBeside old new flags tag addr size n p out vs more back kept bucket (Held b) = HasNewBeside old new (calls.Realloc addr n flags) tag addr size n p out more kept b
HoldsBeside old new flags tag addr size n p out vs more back kept bucket Idle = IsIdle old new n vs more back kept
HoldsBeside old new flags tag addr size n p out vs more back kept bucket NoRoom = IsUnserved old new tag addr size n flags out back kept bucket × TellsLow new more kept

-- The words were moved, the new block was given, and the old one dropped. The caller stands as it did.
pub record HasSwappedTaken (old new : Token) (addr size b n : ℕ) (zero : Bool) : Type 0 where
  pub values : List ℕ
  pub count : length values ≡ words_of (min size n)
  pub ended : HasEnded old new (moving addr size b n zero values ++ acts.Give b n ∷ acts.Drop addr ∷ []) old.out
