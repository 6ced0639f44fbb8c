-- What a search comes to in the own entries of its caller.
use Rattle.std.specs.Prelude.{◌≡◌, ◌⊎◌, ℕ, ◌+◌, ◌/◌, ◌<◌, true, false, List, [], ◌∷◌, ◌++◌, None}
use Rattle.heap_model.specs.declared.Act.{Act}
use Rattle.heap_model.specs.declared.Act.TheVariants as acts
use Rattle.heap_model.specs.declared.Layer.TheVariants as layers
use Rattle.heap_model.specs.declared.What.TheVariants as whats
use Rattle.heap_model.specs.Buckets.{words_in_use, block_count, block_size, block_address}
use Rattle.heap_model.specs.CallState.{Search, caller_view}
use Rattle.heap_model.specs.Search.{first_word, may_see}
use Rattle.step_parts.specs.InHand.{HasBlock}
use Rattle.step_parts.specs.Claims.{owed_by_place}
use Rattle.heap_gate.specs.Token.{Token, now, Always, is_out}
use Rattle.heap_gate.specs.Calls.{Runs, Stands, stance}
use Rattle.lfh_claims.specs.Moves.{Moves, block_place}
use Rattle.lfh_claims.specs.Search.{own_slot}
use Rattle.lfh_claims.specs.Stays.{all_stay, all_leave_spans, HasRead}
use Rattle.lfh_search.specs.Acts.{by, AreReadings, losses}
use Rattle.lfh_search.specs.Standing.{key, IsSearching, IsBetween, reading, dried}

-- the search of the caller, for bucket b by draw d, stands so
abbrev pub Searches : Token → ℕ → ℕ → Search → Type 0
Searches c b d f = Always c (λ s. IsSearching s (now s c) c.number b (own_slot c) d f)

-- The caller has added these acts; of none there is no step.
abbrev pub Went : Token → Token → List Act → Type 0
Went old new [] = new ≡ old
Went old new (act ∷ rest) = Runs old new (by old.number (act ∷ rest)) × Stands new (record (stance old) { searched = true })

---- In a subsegment

-- the first word of the subsegment may be read next
abbrev pub MayBegin : Token → ℕ → ℕ → ℕ → Type 0
MayBegin c b d head = Always c (λ s.
    may_see (now s c).state.back.area (now s c).now.span_history ((now s c).now.disturbed c.number) (caller_view (now s c) c.number) (key b (own_slot c) d) head (first_word (key b (own_slot c) d)) ≡ true)

-- what the caller has prepared leaves it inside, and the spans as they are
pub record WaitsInside (c : Token) : Type 0 where
  pub stays : all_stay c.prepared ≡ true
  pub leaves : all_leave_spans c.prepared ≡ true

-- no word was read yet
pub record IsBefore (c : Token) (b d : ℕ) (f : Search) (head k lost : ℕ) (g : Search) : Type 0 where
  pub none : k ≡ 0
  pub lost_is : lost ≡ f.lost
  pub search : g ≡ f
  pub begins : MayBegin c b d head

-- A search that stood as f is in a subsegment: k of its words are dry, and so many claims were lost.
pub record IsIn (c : Token) (b d : ℕ) (f : Search) (head k lost : ℕ) : Type 0 where
  pub between : IsBetween f
  pub few : lost < 8
  pub search : Search
  pub stands : IsBefore c b d f head k lost search ⊎ (search ≡ reading f head k lost)
  pub searching : Searches c b d search
  pub seen : HasRead c head b (own_slot c)
  pub waits : WaitsInside c

-- k words are dry, which may be all
pub record IsPast (c : Token) (b d : ℕ) (f : Search) (head k lost : ℕ) : Type 0 where
  pub more : k < words_in_use b → IsIn c b d f head k lost
  pub all : k ≡ words_in_use b → Searches c b d (dried f b head lost)

---- What it comes to

abbrev pub place : ℕ → ℕ → ℕ → Act
place b head i = acts.Place (block_address b head i) (block_size b / 16) layers.Lfh

-- Behind some readings block i of a subsegment is placed, and in hand.
pub record HasPlaced (old new : Token) (b head i : ℕ) : Type 0 where
  pub its : List Act
  pub are : AreReadings its
  pub below : i < block_count b
  pub moves : Moves old new (by old.number (its ++ place b head i ∷ [])) (λ before behind. behind ≡ block_place b head i old.number ∷ before)
  pub hint : ℕ
  pub stands : Stands new (record (stance old) { free = false; searched = true; owes = owed_by_place (is_out whats.Back old.out) b (own_slot old) hint old.owes })
  pub block : Always new (λ s. HasBlock (now s new) old.number b (block_address b head i))

-- The eighth claim is lost.
pub record IsBeaten (old new : Token) (b d lost : ℕ) : Type 0 where
  pub its : List Act
  pub are : AreReadings its
  pub went : Went old new its
  pub search : Search
  pub searching : Searches new b d search
  pub eight : search.lost ≡ 8
  pub picked : search.picked ≡ None
  pub count : lost + losses its ≡ 8
