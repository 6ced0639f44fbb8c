-- What the first pass of a search comes to.
use Rattle.std.specs.Prelude.{◌≡◌, ℕ, ◌<◌, true, List, [], ◌∷◌, None}
use Rattle.heap_model.specs.declared.Act.{Act}
use Rattle.heap_model.specs.declared.Act.TheVariants as acts
use Rattle.heap_model.specs.Buckets.{words_in_use, block_address}
use Rattle.heap_model.specs.CallState.{Search, AtHint}
use Rattle.heap_gate.specs.Token.{Token, Always, now}
use Rattle.heap_gate.specs.Calls.{Runs, Stands, stance}
use Rattle.lfh_claims.specs.Search.{own_slot}
use Rattle.lfh_search.specs.declared.hint.Found.{Found}
use Rattle.lfh_search.specs.declared.hint.First.{First}
use Rattle.lfh_search.specs.declared.hint.First.TheVariants.{Claimed, Spent}
use Rattle.lfh_search.specs.Acts.{by, AreReadings, losses, AreDry}
use Rattle.lfh_search.specs.Standing.{key}
use Rattle.lfh_search.specs.Results.{Searches, HasPlaced}
use Rattle.lfh_search.specs.Passes.{IsThere}

-- Why a caller goes on under Back, by its own acts: the hint was empty, each word in use of the subsegment that it read first was dry, or eight claims
-- were lost.
pub data IsSpentBy (b t d lost : ℕ) (its : List Act) : Type 0 where
  NoHint : its ≡ acts.NoHint b t ∷ [] → IsSpentBy b t d lost its
  AllDry : (head : ℕ) → AreDry (key b t d) head (words_in_use b) its → IsSpentBy b t d lost its
  Eighth : lost ≡ 8 → IsSpentBy b t d lost its

-- The search may go on by a pass over all subsegments, or has lost eight claims.
pub record IsAtPass (f : Search) (lost : ℕ) : Type 0 where
  pub lost_is : f.lost ≡ lost
  pub few : lost < 9
  pub picked : f.picked ≡ None
  pub ended : lost < 8 → (f.stage ≡ AtHint) × (f.ended ≡ true)

-- no block was found where the hint was read
pub record HasSpentHint (old new : Token) (b d lost : ℕ) : Type 0 where
  pub its : List Act
  pub are : AreReadings its
  pub runs : Runs old new (by old.number its)
  pub stands : Stands new (record (stance old) { searched = true })
  pub count : losses its ≡ lost
  pub why : IsSpentBy b (own_slot old) d lost its
  pub search : Search
  pub searching : Searches new b d search
  pub at : IsAtPass search lost

-- a block was claimed
pub record HasFound (old new : Token) (b : ℕ) (f : Found) : Type 0 where
  pub placed : HasPlaced old new b f.head f.index
  pub address : f.addr ≡ block_address b f.head f.index

abbrev pub HintSearched : Token → Token → ℕ → ℕ → First → Type 0
HintSearched old new b d (Claimed f) = HasFound old new b f
HintSearched old new b d (Spent lost) = HasSpentHint old new b d lost

-- the holder of Back finds the block in a subsegment that is there
abbrev pub IsOfHint : Token → Token → ℕ → First → Type 0
IsOfHint old new b (Claimed f) = Always new (λ s. IsThere (now s old).state.back.area b (own_slot old) f.head)
IsOfHint old new b (Spent lost) = Unit {0}
