-- A pass of a search over all subsegments of its bucket and slot.
use Rattle.std.specs.Prelude.{◌≡◌, ℕ, ◌+◌, ◌<◌, nat_lt, true, false, List, [], None}
use Rattle.heap_model.specs.declared.Act.{Act}
use Rattle.heap_model.specs.declared.What.TheVariants as whats
use Rattle.heap_model.specs.State.{Area, Span, holds}
use Rattle.heap_model.specs.CallState.{Search, Stage, AtHint, SecondPass}
use Rattle.heap_model.specs.Search.{has_not_begun, is_read, spans_of}
use Rattle.heap_soundness.specs.Sound.{IsOneOf}
use Rattle.backend_fit.specs.Kept.{Kept, area_of}
use Rattle.heap_gate.specs.Token.{Token, Always, now, is_out}
use Rattle.lfh_claims.specs.Search.{own_slot}
use Rattle.lfh_spans.specs.Subsegments.{IsBackOf}
use Rattle.lfh_search.specs.declared.course.Course.{Course}
use Rattle.lfh_search.specs.declared.pass.Pass.{Pass}
use Rattle.lfh_search.specs.declared.pass.Pass.TheVariants.{Claimed, Dry, Beaten}
use Rattle.lfh_search.specs.Acts.{AreReadings, losses}
use Rattle.lfh_search.specs.Results.{Searches, Went, WaitsInside, HasPlaced, IsBeaten}
use Rattle.lfh_search.specs.Readings.{KnowsHint}

-- the first pass reads the subsegment of the hint once more
abbrev pub as_pass_at : Search → Stage → Search
as_pass_at f AtHint = record f { read = [] }
as_pass_at f _ = f

abbrev pub as_pass : Search → Search
as_pass f = as_pass_at f f.stage

-- The first pass comes before NoSpan, the second behind it, with Vs held too.
abbrev pub IsOfPass : Token → Stage → Type 0
IsOfPass c SecondPass = Always c (λ s. holds (now s c).state.gate c.number whats.Vs ≡ true)
IsOfPass c _ = Always c (λ s. ((now s c).now.calls c.number).no_span ≡ false)

-- A pass has read the subsegments that begin before a page, and so many claims were lost.
pub record IsPassing (c : Token) (back : Kept) (course : Course) (f : Search) (from lost : ℕ) : Type 0 where
  pub searching : Searches c course.bucket course.draw.value f
  pub lost_is : f.lost ≡ lost
  pub few : lost < 8
  pub picked : f.picked ≡ None
  pub ended : f.ended ≡ true
  pub begun : has_not_begun f.stage ≡ false
  pub read : (x : Span) → IsOneOf x (spans_of (area_of back) course.bucket (own_slot c)) → is_read (as_pass f) x ≡ nat_lt x.first from
  pub back_is : IsBackOf c back
  pub out : is_out whats.Back c.out ≡ true
  pub of_pass : IsOfPass c f.stage
  pub hint : KnowsHint c
  pub waits : WaitsInside c

-- all of them were read, and have no free block
pub record HasPassed (old new : Token) (back : Kept) (course : Course) (lost now_lost : ℕ) : Type 0 where
  pub its : List Act
  pub are : AreReadings its
  pub went : Went old new its
  pub count : lost + losses its ≡ now_lost
  pub from : ℕ
  pub search : Search
  pub passing : IsPassing new back course search from now_lost
  pub all : (x : Span) → IsOneOf x (spans_of (area_of back) course.bucket (own_slot new)) → x.first < from

-- a subsegment of the bucket and the slot begins there
pub record IsThere (a : Area) (b t head : ℕ) : Type 0 where
  pub span : Span
  pub there : IsOneOf span (spans_of a b t)
  pub begins : span.first ≡ head

-- a block of one of them was claimed
pub record HasPassedTo (old new : Token) (back : Kept) (b head i : ℕ) : Type 0 where
  pub placed : HasPlaced old new b head i
  pub there : IsThere (area_of back) b (own_slot old) head

abbrev pub PassRead : Token → Token → Kept → Course → ℕ → Pass → Type 0
PassRead old new back course lost (Claimed head index) = HasPassedTo old new back course.bucket head index
PassRead old new back course lost (Dry now_lost) = HasPassed old new back course lost now_lost
PassRead old new back course lost Beaten = IsBeaten old new course.bucket course.draw.value lost
