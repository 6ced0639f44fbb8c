-- What the reading of words of a subsegment asks, and comes to.
use Rattle.std.specs.Prelude.{◌≡◌, ℕ, ◌+◌, ◌<◌, true, List}
use Rattle.heap_model.specs.declared.Act.{Act}
use Rattle.heap_model.specs.declared.What.TheVariants as whats
use Rattle.heap_model.specs.Buckets.{words_in_use}
use Rattle.heap_model.specs.CallState.{Search}
use Rattle.search_laws.specs.Reading.{word_behind}
use Rattle.heap_model.specs.State.{holds}
use Rattle.heap_gate.specs.Token.{Token, Always, now, is_out}
use Rattle.lfh_claims.specs.Search.{own_slot, IsHintKnown}
use Rattle.lfh_search.specs.declared.course.Course.{Course}
use Rattle.lfh_search.specs.declared.reading.Reading.{Reading}
use Rattle.lfh_search.specs.declared.reading.Reading.TheVariants.{Claimed, Dry, Beaten}
use Rattle.lfh_search.specs.Acts.{AreReadings, losses, IsDry, AreDry}
use Rattle.lfh_search.specs.Standing.{key, dried}
use Rattle.lfh_search.specs.Results.{Searches, Went, IsIn, IsPast, HasPlaced, IsBeaten}

-- The holder of Back knows the word of its hint.
pub record KnowsHint (c : Token) : Type 0 where
  pub held : Always c (λ s. holds (now s c).state.gate c.number whats.Back ≡ true)
  pub known : IsHintKnown c

abbrev pub HasHint : Token → Type 0
HasHint c = is_out whats.Back c.out ≡ true → KnowsHint c

-- The word behind k others of a subsegment comes next.
pub record AtWord (c : Token) (course : Course) (f : Search) (head word k lost : ℕ) : Type 0 where
  pub at : IsIn c course.bucket course.draw.value f head k lost
  pub word_is : word ≡ word_behind (key course.bucket (own_slot c) course.draw.value) k
  pub few : k < words_in_use course.bucket
  pub hint : HasHint c

-- it shows no free block
pub record IsDryWord (old new : Token) (b d : ℕ) (f : Search) (head k lost now_lost : ℕ) : Type 0 where
  pub its : List Act
  pub are : AreReadings its
  pub went : Went old new its
  pub past : IsPast new b d f head (k + 1) now_lost
  pub few : now_lost < 8
  pub count : lost + losses its ≡ now_lost
  pub dry : IsDry (key b (own_slot old) d) head k its
  pub hint : HasHint new

abbrev pub WordRead : Token → Token → Course → Search → ℕ → ℕ → ℕ → Reading → Type 0
WordRead old new course f head k lost (Claimed index) = HasPlaced old new course.bucket head index
WordRead old new course f head k lost (Dry now_lost) = IsDryWord old new course.bucket course.draw.value f head k lost now_lost
WordRead old new course f head k lost Beaten = IsBeaten old new course.bucket course.draw.value lost

---- All words

-- No word of the subsegment was read, and its first may be.
pub record CanRead (c : Token) (course : Course) (f : Search) (head lost : ℕ) : Type 0 where
  pub at : IsIn c course.bucket course.draw.value f head 0 lost
  pub hint : HasHint c

-- Each word in use was read, and shows no free block.
pub record IsDried (old new : Token) (b d : ℕ) (f : Search) (head lost now_lost : ℕ) : Type 0 where
  pub its : List Act
  pub are : AreReadings its
  pub went : Went old new its
  pub searching : Searches new b d (dried f b head now_lost)
  pub few : now_lost < 8
  pub count : lost + losses its ≡ now_lost
  pub dry : AreDry (key b (own_slot old) d) head (words_in_use b) its
  pub hint : HasHint new

abbrev pub SubsegmentRead : Token → Token → Course → Search → ℕ → ℕ → Reading → Type 0
SubsegmentRead old new course f head lost (Claimed index) = HasPlaced old new course.bucket head index
SubsegmentRead old new course f head lost (Dry now_lost) = IsDried old new course.bucket course.draw.value f head lost now_lost
SubsegmentRead old new course f head lost Beaten = IsBeaten old new course.bucket course.draw.value lost
