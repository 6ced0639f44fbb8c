-- What comes of the first half of a reallocation: the block keeps its address, is refused its new size, or has to move.
use Rattle.std.specs.Prelude.{◌≡◌, ◌⊎◌, ℕ, true, false, not, List, [], ◌∷◌, ◌++◌, Some, Result, Ok, Err}
use Rattle.std.specs.List.{find, list_all}
use Rattle.heap_model.specs.declared.Act.{Act}
use Rattle.heap_model.specs.declared.Act.TheVariants as acts
use Rattle.heap_model.specs.declared.Call.TheVariants as calls
use Rattle.heap_model.specs.declared.Flags.{Flags}
use Rattle.heap_model.specs.declared.Layer.{Layer}
use Rattle.heap_model.specs.declared.Layer.TheVariants as layers
use Rattle.heap_model.specs.declared.ReNo.{ReNo}
use Rattle.heap_model.specs.declared.ReNo.TheVariants as re_nos
use Rattle.heap_model.specs.CallState.{caller_view, not_begun}
use Rattle.heap_model.specs.Legal.{is_begin, may_touch}
use Rattle.heap_model.specs.Moments.{Before}
use Rattle.heap_model.specs.Shape.{IsResized, IsGivenAgain, HasNoRoom, Finds, is_of_front, is_take, begins_move, shape_of}
use Rattle.heap_model.specs.State.{State, Place, Live, is_layer, has_address, places_of}
use Rattle.heap_model.specs.Stay.{lets_stay}
use Rattle.step_parts.specs.InHand.{IsBlockNumber}
use Rattle.heap_gate.specs.Token.{Token, Always, now}
use Rattle.lfh_claims.specs.declared.tag.Tag.{Tag}
use Rattle.lfh_claims.specs.Stays.{HasRead}
use Rattle.call_parts.specs.Calls.{Makes}
use Rattle.call_parts.specs.Entries.{HasAdded}
use Rattle.small_calls.specs.Fronts.{HasOne}
use Rattle.address_calls.specs.declared.look.Found.{Found}
use Rattle.address_calls.specs.declared.look.Found.TheVariants as founds
use Rattle.address_calls.specs.Answers.{MeetsOn}
use Rattle.address_calls.specs.Finds.{Looks, IsFound}
use Rattle.stay_calls.specs.declared.tried.Tried.{Tried}
use Rattle.stay_calls.specs.declared.tried.Tried.TheVariants as trieds
use Rattle.stay_calls.specs.Moments.{OfMoments, MakesSo}

---- It stays

-- The block at addr keeps its address at the size n: it is resized where it is, or taken and given again. Words that it gains are 0 if that is asked.
abbrev pub StaysAt : Token → Token → ℕ → ℕ → Flags → Type 0
StaysAt old new addr n flags =
    MakesSo old new (calls.Realloc addr n flags) (λ s c xs. IsResized s c addr n flags.zero xs ⊎ IsGivenAgain s c addr n flags.zero xs)

-- .. or can't, and may not move: it is as it was
abbrev pub HasNoRoomAt : Token → Token → ℕ → ℕ → Flags → Type 0
HasNoRoomAt old new addr n flags = (flags.in_place ≡ true) × MakesSo old new (calls.Realloc addr n flags) (λ s c xs. HasNoRoom s c addr n xs)

---- It has to move

-- The live block of this size at addr is this place. The caller holds the lock of its layer, and n bytes would not let it keep its address.
pub record IsStuck (c : Token) (addr size n : ℕ) (p : Place) : Type 0 where
  pub live : p.status ≡ Live size
  pub behind : is_layer p.layer layers.Lfh ≡ false
  pub there : Always c (λ s. find (has_address addr) (places_of (now s c).state p.layer) ≡ Some p)
  pub touch : Always c (λ s. may_touch (caller_view (now s c) c.number) p.layer ≡ true)
  pub leaves : Always c (λ s. lets_stay s.limits (now s c).state p n ≡ false)

-- .. it is one of this layer, and is what the caller finds there
abbrev pub HasToMove : Token → Layer → ℕ → ℕ → ℕ → Type 0
HasToMove c layer addr size n = (p : Place) × (p.layer ≡ layer) × IsStuck c addr size n p × Always c (λ s. Finds s c.number addr n p false (now s c).state)

-- .. a block of the front end
abbrev pub FindsFrontBlock : Token → ℕ → ℕ → Rattle.heap_model.specs.State.Setting → State → Type 0
FindsFrontBlock c addr n s st = (p : Place) × (is_of_front p ≡ true) × Finds s c.number addr n p false st

-- The block of the front end was found so, and was taken then; it is all that the caller has in hand, and the caller has no lock. It has begun no search, and
-- has said of no bucket that it has no span. No shape shows anything else of what it has done.
pub record IsTakenToMove (old new : Token) (addr : ℕ) (tag : Tag) (size n : ℕ) : Type 0 where
  pub looks : List Act
  pub no_begin : list_all (λ act. not (is_begin act)) looks ≡ true
  pub no_move : list_all (λ act. not (begins_move act)) looks ≡ true
  pub shape_is : shape_of looks ≡ []
  pub added : HasAdded old new (looks ++ acts.Take addr size ∷ [])
  pub leaves : OfMoments (λ s c xs. Before is_take (FindsFrontBlock old addr n s) xs) old new added.goes.seen.0
  pub out : new.out ≡ []
  pub pending : new.pending ≡ false
  pub one : HasOne new tag.bucket addr
  pub read : HasRead new tag.head tag.bucket tag.slot
  pub number : IsBlockNumber tag.head tag.bucket addr
  pub no_span : Always new (λ s. ((now s new).now.calls new.number).no_span ≡ false)
  pub search : Always new (λ s. ((now s new).now.calls new.number).search ≡ not_begun)

-- The call has to move the block of this size. It is live, and its layer's lock is held; or it is one of the front end, and in hand.
abbrev pub IsToMove : Token → Token → ℕ → ℕ → ℕ → Found → Type 0
IsToMove old new addr size n (founds.Front tag) = IsTakenToMove old new addr tag size n
IsToMove old new addr size n (founds.Vs vs) = Looks old new × IsFound new addr (founds.Vs vs) × HasToMove new layers.Vs addr size n
IsToMove old new addr size n (founds.Back vs back) = Looks old new × IsFound new addr (founds.Back vs back) × HasToMove new layers.Back addr size n
IsToMove old new addr size n (founds.Large large) = Looks old new × IsFound new addr (founds.Large large) × HasToMove new layers.Large addr size n
IsToMove old new addr size n founds.Nowhere = ⊥

---- The answer

abbrev pub IsTried : Token → Token → ℕ → ℕ → Flags → Result Tried ReNo → Type 0
IsTried old new addr n flags (Ok trieds.Stays) = StaysAt old new addr n flags
IsTried old new addr n flags (Ok (trieds.Moves found size)) = (flags.in_place ≡ false) × IsToMove old new addr size n found
IsTried old new addr n flags (Err re_nos.NotLive) = Makes old new (calls.Realloc addr n flags) (acts.NotLive addr ∷ [])
IsTried old new addr n flags (Err re_nos.NoRoomInPlace) = HasNoRoomAt old new addr n flags
IsTried old new addr n flags (Err (re_nos.Busy b)) = MeetsOn old new addr b
IsTried old new addr n flags (Err re_nos.NoFit) = ⊥
