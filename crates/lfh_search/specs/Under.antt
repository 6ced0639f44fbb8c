-- The search of a caller that holds Back: a pass over all subsegments, and a subsegment that is made where the pass finds no block.
use Rattle.std.specs.Prelude.{◌≡◌, ◌⊎◌, ℕ, ◌+◌, ◌/◌, ◌<◌, Bool, true, false, nat_lt, List, [], ◌∷◌, ◌++◌, Some, None, if◌then◌else◌}
use Rattle.heap_model.specs.declared.Act.{Act}
use Rattle.heap_model.specs.declared.Act.TheVariants as acts
use Rattle.heap_model.specs.declared.Kind.TheVariants as kinds
use Rattle.heap_model.specs.declared.What.TheVariants as whats
use Rattle.heap_model.specs.Buckets.{bucket_pages, block_count, block_address}
use Rattle.heap_model.specs.State.{Area, hands}
use Rattle.heap_model.specs.Backend.{back_place}
use Rattle.heap_model.specs.CallState.{Search, SecondPass, caller_view}
use Rattle.heap_model.specs.Search.{has_not_begun, request_of}
use Rattle.heap_model.specs.Legal.{cannot_be_served}
use Rattle.heap_model.specs.History.{configuration_after}
use Rattle.heap_model.specs.Agreement.{AgreesFor, holds_old_block}
use Rattle.step_parts.specs.InHand.{HasBlock}
use Rattle.backend_fit.specs.Kept.{Kept, area_of}
use Rattle.heap_gate.specs.Token.{Token, now, Always, is_out}
use Rattle.heap_gate.specs.Calls.{Does, Runs, Stands, stance, with_prepared}
use Rattle.lfh_claims.specs.Moves.{block_place}
use Rattle.lfh_claims.specs.Search.{own_slot}
use Rattle.lfh_spans.specs.Subsegments.{IsBackOf, MayMake, drawn_block}
use Rattle.lfh_search.specs.declared.course.Course.{Course}
use Rattle.lfh_search.specs.declared.under.Look.{Look}
use Rattle.lfh_search.specs.declared.under.Look.TheVariants.{InHand, Spent}
use Rattle.lfh_search.specs.declared.under.Under.{Under}
use Rattle.lfh_search.specs.declared.under.Under.TheVariants.{Claimed, NoRoom}
use Rattle.lfh_search.specs.Acts.{by, AreReadings, losses}
use Rattle.lfh_search.specs.Results.{Searches, place}
use Rattle.lfh_search.specs.Passes.{as_pass, IsOfPass, IsThere}

---- What a caller needs

-- a pass may begin, of which no subsegment was read
pub record MayBeginPass (f : Search) : Type 0 where
  pub begun : has_not_begun f.stage ≡ false
  pub ended : f.ended ≡ true
  pub none_read : (as_pass f).read ≡ []

-- The caller holds Back, has its state and owes no word, and a pass of its search may begin, or eight claims of it were lost.
pub record IsUnder (c : Token) (back : Kept) (course : Course) (f : Search) (lost : ℕ) : Type 0 where
  pub searching : Searches c course.bucket course.draw.value f
  pub lost_is : f.lost ≡ lost
  pub few : lost < 9
  pub picked : f.picked ≡ None
  pub begins : lost < 8 → MayBeginPass f
  pub of_pass : lost < 8 → IsOfPass c f.stage
  pub back_is : IsBackOf c back
  pub out : is_out whats.Back c.out ≡ true
  pub paid : c.owes ≡ []
  pub searched : c.searched ≡ true

-- its call has said NoSpan, or has not
abbrev pub HasSaid : Token → Type 0
HasSaid c = Always c (λ s. ((now s c).now.calls c.number).no_span ≡ true)

abbrev pub HasNotSaid : Token → Type 0
HasNotSaid c = Always c (λ s. ((now s c).now.calls c.number).no_span ≡ false)

---- A block in hand

-- the acts by which a subsegment is made: the segment of its pages is reserved before, where it is not
abbrev pub reserves : Area → ℕ → List Act
reserves a first = if nat_lt (first / 256) a.reserved then [] else acts.Reserve a.reserved ∷ []

abbrev pub makes : Area → ℕ → ℕ → ℕ → List Act
makes a first b t = reserves a first ++ acts.Span first (bucket_pages b) kinds.Lfh b t ∷ []

-- Where block i is: in a subsegment that was there, or in one that was made by these acts where the back end had room, which then is the block that the
-- draw picks.
pub data CameBy (back after : Kept) (b t d head i : ℕ) (made : List Act) : Type 0 where
  Found : IsThere (area_of back) b t head → made ≡ [] → after ≡ back → CameBy back after b t d head i made
  Made : back_place (area_of back) back.limits.segments (bucket_pages b) ≡ Some head → made ≡ makes (area_of back) head b t → i ≡ drawn_block b d → CameBy back after b t d head i made

-- The block at the address is in hand, behind readings of the caller and the acts that made its subsegment. Tags and hint are stored.
pub record HasServed (old new : Token) (back after : Kept) (course : Course) (addr : ℕ) : Type 0 where
  pub its : List Act
  pub are : AreReadings its
  pub made : List Act
  pub head : ℕ
  pub index : ℕ
  pub below : index < block_count course.bucket
  pub came : CameBy back after course.bucket (own_slot old) course.draw.value head index made
  pub address : addr ≡ block_address course.bucket head index
  pub does : Does old new (by old.number (its ++ (made ++ place course.bucket head index ∷ [])))
  pub agrees : Always new (λ s. AgreesFor old.number (now s new) (configuration_after s (now s old) (by old.number (its ++ (made ++ place course.bucket head index ∷ [])))))
  pub hands : Always new (λ s. hands (now s new).state old.number ≡ block_place course.bucket head index old.number ∷ hands (now s old).state old.number)
  pub block : Always new (λ s. HasBlock (now s new) old.number course.bucket addr)
  pub stands : Stands new (record (stance old) { free = false })
  pub back_is : IsBackOf new after

---- No block

-- a search behind NoSpan: its second pass may begin, or eight claims were lost
pub record IsAgain (f : Search) (lost : ℕ) : Type 0 where
  pub stage : f.stage ≡ SecondPass
  pub read : f.read ≡ []
  pub ended : f.ended ≡ true
  pub picked : f.picked ≡ None
  pub lost_is : f.lost ≡ lost
  pub few : lost < 9

-- Behind readings the search is spent, and the back end, which is as it was, has no room for a subsegment: NoSpan is prepared.
pub record HasNoPages (old new : Token) (back after : Kept) (course : Course) (lost now_lost : ℕ) : Type 0 where
  pub its : List Act
  pub are : AreReadings its
  pub behind : Token
  pub runs : Runs old behind (by old.number its)
  pub stands : Stands behind (stance old)
  pub prepared : new ≡ with_prepared behind (acts.NoSpan course.bucket)
  pub count : lost + losses its ≡ now_lost
  pub place : back_place (area_of back) back.limits.segments (bucket_pages course.bucket) ≡ None
  pub same : after ≡ back
  pub back_is : IsBackOf new after
  pub search : Search
  pub searching : Searches new course.bucket course.draw.value search
  pub at : IsAgain search now_lost
  pub said : HasSaid new

abbrev pub UnderSearched : Token → Token → Kept → Kept → Course → ℕ → Under → Type 0
UnderSearched old new back after course lost (Claimed addr) = HasServed old new back after course addr
UnderSearched old new back after course lost (NoRoom now_lost) = HasNoPages old new back after course lost now_lost

-- The call has said NoSpan, its search for the bucket is spent again, and no range has the pages of a subsegment.
pub record CannotBeServed (c : Token) (b : ℕ) : Type 0 where
  pub said : HasSaid c
  pub refused : Always c (λ s. cannot_be_served s (now s c).state.back.area c.number (caller_view (now s c) c.number) (request_of s (now s c) c.number) b ≡ true)
  pub old : Always c (λ s. holds_old_block (now s c) c.number ≡ true)

-- these readings were added; where there are none, there may be no step
abbrev pub HasGone : Token → Token → List Act → Type 0
HasGone old new its = ((its ≡ []) × (new ≡ old)) ⊎ (Runs old new (by old.number its) × Stands new (stance old))

-- No block was found again, and there is still no room. The back end is as it was.
pub record IsNotServed (old new : Token) (back after : Kept) (course : Course) : Type 0 where
  pub its : List Act
  pub are : AreReadings its
  pub gone : HasGone old new its
  pub same : after ≡ back
  pub back_is : IsBackOf new after
  pub cannot : CannotBeServed new course.bucket

---- What is there

-- The search is spent: a subsegment may be made for it. The back end is as it was.
pub record IsSpentNow (old new : Token) (back : Kept) (course : Course) (lost now_lost : ℕ) : Type 0 where
  pub its : List Act
  pub are : AreReadings its
  pub gone : HasGone old new its
  pub count : lost + losses its ≡ now_lost
  pub search : Search
  pub searching : Searches new course.bucket course.draw.value search
  pub lost_is : search.lost ≡ now_lost
  pub few : now_lost < 9
  pub makes : Always new (λ s. MayMake s (now s new) new.number course.bucket course.draw.value)
  pub back_is : IsBackOf new back
  pub says : (x : Bool) → Always old (λ s. ((now s old).now.calls old.number).no_span ≡ x) → Always new (λ s. ((now s new).now.calls new.number).no_span ≡ x)
  pub slot : own_slot new ≡ own_slot old

abbrev pub Looked : Token → Token → Kept → Course → ℕ → Look → Type 0
Looked old new back course lost (InHand addr) = HasServed old new back back course addr
Looked old new back course lost (Spent now_lost) = IsSpentNow old new back course lost now_lost
