-- A reallocation that has taken its block of the front end, and brings it to another place.
use Rattle.std.specs.Prelude.{◌≡◌, ◌≢◌, ℕ, ◌+◌, true, false, not, List, [], ◌∷◌, Option, Some, None}
use Rattle.std.specs.List.{list_all}
use Rattle.heap_model.specs.declared.Act.{Act}
use Rattle.heap_model.specs.declared.Act.TheVariants as acts
use Rattle.heap_model.specs.declared.Busy.{Busy}
use Rattle.heap_model.specs.declared.Call.TheVariants as calls
use Rattle.heap_model.specs.declared.Flags.{Flags}
use Rattle.heap_model.specs.declared.What.{What}
use Rattle.heap_model.specs.Legal.{is_begin}
use Rattle.heap_model.specs.Moments.{Moment, Before}
use Rattle.heap_model.specs.Shape.{IsMoved, HasNoRange, begins_move, shape_of}
use Rattle.heap_model.specs.State.{Setting}
use Rattle.heap_gate.specs.Token.{Token}
use Rattle.lfh_claims.specs.declared.tag.Tag.{Tag}
use Rattle.call_parts.specs.Calls.{IsServing, GoesOn}
use Rattle.stay_calls.specs.Moments.{OfMoments}
use Rattle.stay_calls.specs.Stays.{FindsFrontBlock}
use Rattle.move_taken.specs.Holds.{HoldsTaken}
use Rattle.move_in_front.specs.Taken.{HasSearchedNothing}
use Rattle.move_calls.specs.Holds.{IsResting}

-- The caller's list goes on by acts that show these. None of them is a Begin.
pub record HasShown (old new : Token) (shape : List Act) : Type 0 where
  pub added : List Act
  pub goes : GoesOn old new added
  pub no_begin : list_all (λ act. not (is_begin act)) added ≡ true
  pub shape_is : shape_of added ≡ shape

-- In a call that began at first, the caller has found a block of the front end at addr that could not stay there with n bytes, and has taken it. It is at rest
-- with these locks but for that block.
pub record IsBringing (first c : Token) (tag : Tag) (addr size n : ℕ) (flags : Flags) (out : List ℕ) : Type 0 where
  pub serving : IsServing first (calls.Realloc addr n flags) []
  pub holds : HoldsTaken c tag addr size n flags out
  pub shown : HasShown first c (acts.Take addr size ∷ [])
  pub leaves : OfMoments (λ s m xs. Before begins_move (FindsFrontBlock first addr n s) xs) first c shown.goes.seen.0

-- .. and has searched nothing
pub record IsCarrying (first c : Token) (tag : Tag) (addr size n : ℕ) (flags : Flags) (out : List ℕ) : Type 0 where
  pub bringing : IsBringing first c tag addr size n flags out
  pub nothing : HasSearchedNothing c

-- .. or has met a lock that another holds
pub record HasMetCarrying (first c : Token) (tag : Tag) (addr size n : ℕ) (flags : Flags) (out : List ℕ) (what : What) (b : Busy) : Type 0 where
  pub serving : IsServing first (calls.Realloc addr n flags) []
  pub holds : HoldsTaken c tag addr size n flags out
  pub shown : HasShown first c (acts.Take addr size ∷ acts.Blocked b.what b.word ∷ [])
  pub what_is : b.what ≡ what
  pub another : (b.word ≢ 0) × (b.word ≢ first.number + 1)

-- The reallocation that began at first has come to this, but for the locks that the caller has: it rests with them, and nothing is prepared.
pub record HasCome (first c : Token) (addr n : ℕ) (flags : Flags) (out : List ℕ) (Told : Setting → ℕ → List Moment → Type 0) : Type 0 where
  pub serving : IsServing first (calls.Realloc addr n flags) []
  pub shape : List Act
  pub shown : HasShown first c shape
  pub told : OfMoments Told first c shown.goes.seen.0
  pub call_is : c.call ≡ Some (calls.Realloc addr n flags)
  pub fresh : c.fresh ≡ false
  pub drawn : c.searched ≡ c.drawn
  pub prepared : c.prepared ≡ []
  pub resting : IsResting c out

-- the block has moved; or no range was there for it, that is said, and it is live as it was
abbrev pub HasBrought : Token → Token → ℕ → ℕ → Flags → List ℕ → Option ℕ → Type 0
HasBrought first c addr n flags out (Some b) = HasCome first c addr n flags out (λ s m xs. IsMoved s m addr n flags.zero b xs)
HasBrought first c addr n flags out None = HasCome first c addr n flags out (λ s m xs. HasNoRange s m addr n xs)
