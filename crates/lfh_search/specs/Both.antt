-- The whole search of a caller that holds Back, and Vs too, from its start.
use Rattle.std.specs.Prelude.{◌≡◌, ℕ, ◌<◌, Bool, true, false, List, [], ◌∷◌, ◌++◌}
use Rattle.heap_model.specs.declared.Act.{Act}
use Rattle.heap_model.specs.declared.Act.TheVariants as acts
use Rattle.heap_model.specs.declared.Layer.{Layer}
use Rattle.heap_model.specs.declared.Layer.TheVariants as layers
use Rattle.heap_model.specs.declared.What.{What}
use Rattle.heap_model.specs.declared.What.TheVariants as whats
use Rattle.heap_model.specs.Buckets.{block_count, block_address}
use Rattle.heap_model.specs.Ranges.{vs_spans}
use Rattle.heap_model.specs.State.{holds, hands, in_hand, places_of, is_layer}
use Rattle.heap_model.specs.CallState.{Configuration, Search, not_begun}
use Rattle.step_parts.specs.InHand.{HasBlock}
use Rattle.backend_fit.specs.Kept.{Kept}
use Rattle.heap_gate.specs.Token.{Token, Always, now, is_out}
use Rattle.heap_gate.specs.Calls.{Does, Runs, Stands, stance, with_prepared}
use Rattle.lfh_claims.specs.Moves.{block_place}
use Rattle.lfh_claims.specs.Search.{own_slot}
use Rattle.lfh_spans.specs.Subsegments.{IsBackOf}
use Rattle.lfh_search.specs.declared.course.Course.{Course}
use Rattle.lfh_search.specs.declared.hint.First.{First}
use Rattle.lfh_search.specs.declared.hint.First.TheVariants.{Claimed, Spent}
use Rattle.lfh_search.specs.Acts.{by, is_reading, AreReadings}
use Rattle.lfh_search.specs.Hints.{HasSpentHint}
use Rattle.lfh_search.specs.Results.{Searches, place}
use Rattle.lfh_search.specs.Under.{IsUnder, HasNotSaid, CameBy, HasGone, CannotBeServed}

-- The caller holds Back, has its state, owes no word, and its search has not begun.
pub record IsAtStart (c : Token) (back : Kept) (course : Course) : Type 0 where
  pub searching : Searches c course.bucket course.draw.value not_begun
  pub back_is : IsBackOf c back
  pub out : is_out whats.Back c.out ≡ true
  pub paid : c.owes ≡ []
  pub first : HasNotSaid c

---- What stays

-- What n holds is in k as it was in m, but for spans and blocks of the front end.
pub record IsBeside (n : ℕ) (m k : Configuration) : Type 0 where
  pub locks : (w : What) → holds k.state.gate n w ≡ holds m.state.gate n w
  pub vs : holds m.state.gate n whats.Vs ≡ true → k.state.vs ≡ m.state.vs
  pub spans : holds m.state.gate n whats.Vs ≡ true → vs_spans k.state.back.area ≡ vs_spans m.state.back.area
  pub back : holds m.state.gate n whats.Back ≡ true → k.state.back.places ≡ m.state.back.places
  pub large : holds m.state.gate n whats.Large ≡ true → k.state.large ≡ m.state.large
  pub hand : (layer : Layer) → is_layer layer layers.Lfh ≡ false → in_hand n (places_of k.state layer) ≡ in_hand n (places_of m.state layer)

---- What the search comes to

-- a reading, or that no range has the pages of a subsegment
abbrev pub is_of_search : Act → Bool
is_of_search (acts.NoSpan bucket) = true
is_of_search act = is_reading act

abbrev pub AreOfSearch : List Act → Type 0
AreOfSearch [] = Unit {0}
AreOfSearch (act ∷ rest) = (is_of_search act ≡ true) × AreOfSearch rest

-- The block at the address is in hand, in front of what was, behind acts of the search and those that made its subsegment. Tags and hint are stored.
pub record HasSearchedTo (old new : Token) (back after : Kept) (course : Course) (addr : ℕ) : Type 0 where
  pub its : List Act
  pub are : AreOfSearch its
  pub made : List Act
  pub head : ℕ
  pub index : ℕ
  pub below : index < block_count course.bucket
  pub came : CameBy back after course.bucket (own_slot old) course.draw.value head index made
  pub address : addr ≡ block_address course.bucket head index
  pub does : Does old new (by old.number (its ++ (made ++ place course.bucket head index ∷ [])))
  pub beside : Always new (λ s. IsBeside old.number (now s old) (now s new))
  pub hands : Always new (λ s. hands (now s new).state old.number ≡ block_place course.bucket head index old.number ∷ hands (now s old).state old.number)
  pub block : Always new (λ s. HasBlock (now s new) old.number course.bucket addr)
  pub stands : Stands new (record (stance old) { free = false; searched = true })
  pub back_is : IsBackOf new after

-- No block was found, NoSpan was said, and none was found again. The back end is as it was, and what is in hand.
pub record HasSearchedInVain (old new : Token) (back after : Kept) (course : Course) : Type 0 where
  pub its : List Act
  pub are : AreReadings its
  pub behind : Token
  pub runs : Runs old behind (by old.number its)
  pub stands : Stands behind (record (stance old) { searched = true })
  pub again : List Act
  pub again_are : AreReadings again
  pub gone : HasGone (with_prepared behind (acts.NoSpan course.bucket)) new again
  pub beside : Always new (λ s. IsBeside old.number (now s old) (now s new))
  pub hands : Always new (λ s. hands (now s new).state old.number ≡ hands (now s old).state old.number)
  pub same : after ≡ back
  pub back_is : IsBackOf new after
  pub cannot : CannotBeServed new course.bucket

---- Its first pass

-- none was found where the hint was read, and the search may go on
pub record HasSpentFirst (old new : Token) (back : Kept) (course : Course) (lost : ℕ) : Type 0 where
  pub spent : HasSpentHint old new course.bucket course.draw.value lost
  pub search : Search
  pub under : IsUnder new back course search lost
  pub first : HasNotSaid new

abbrev pub HasBegun : Token → Token → Kept → Course → First → Type 0
HasBegun old new back course (Claimed f) = HasSearchedTo old new back back course f.addr
HasBegun old new back course (Spent lost) = HasSpentFirst old new back course lost
