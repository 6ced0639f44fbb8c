-- The own acts of a caller that belong to a search of the front end, and what they make of it.
use Rattle.std.specs.Prelude.{◌≡◌, ℕ, ◌+◌, ◌%◌, ◌<◌, Bool, true, false, List, [], ◌∷◌, None}
use Rattle.heap_model.specs.declared.Act.{Act}
use Rattle.heap_model.specs.declared.Act.TheVariants as acts
use Rattle.heap_model.specs.declared.Entry.{Entry}
use Rattle.heap_model.specs.Buckets.{valid_bits}
use Rattle.heap_model.specs.Bits.{pick}
use Rattle.heap_model.specs.CallState.{Search}
use Rattle.heap_model.specs.Search.{SearchKey, after_saw, after_lost, after_no_hint}
use Rattle.heap_soundness.specs.Sound.{IsOneOf}
use Rattle.search_laws.specs.Reading.{word_behind}
use Rattle.claim_rule.specs.Entries.{entry}

-- the acts, as entries of a caller
abbrev pub by : ℕ → List Act → List Entry
by n [] = []
by n (act ∷ rest) = entry n act ∷ by n rest

-- a reading of a bitmap word, a lost claim, an empty hint
abbrev pub is_reading : Act → Bool
is_reading (acts.Saw head word bits) = true
is_reading (acts.Lost head index) = true
is_reading (acts.NoHint bucket slot) = true
is_reading _ = false

-- each act of the list is one of these
abbrev pub AreReadings : List Act → Type 0
AreReadings [] = Unit {0}
AreReadings (act ∷ rest) = (is_reading act ≡ true) × AreReadings rest

-- what such an act makes of a search
abbrev pub after_act : SearchKey → Search → Act → Search
after_act g f (acts.Saw head word bits) = after_saw g f head word bits
after_act g f (acts.Lost head index) = after_lost f
after_act g f (acts.NoHint bucket slot) = after_no_hint f
after_act g f _ = f

abbrev pub after_acts : SearchKey → Search → List Act → Search
after_acts g f [] = f
after_acts g f (act ∷ rest) = after_acts g (after_act g f act) rest

-- how many claims were lost
abbrev pub losses : List Act → ℕ
losses [] = 0
losses (acts.Lost head index ∷ rest) = 1 + losses rest
losses (act ∷ rest) = losses rest

-- A reading among the acts showed no block in the word of a subsegment that is read behind k others.
pub record IsDry (g : SearchKey) (head k : ℕ) (its : List Act) : Type 0 where
  pub bits : ℕ
  pub read : IsOneOf (acts.Saw head (word_behind g k) bits) its
  pub none : pick bits (valid_bits g.bucket (word_behind g k)) (g.draw % 64) ≡ None

-- .. nor in any of the first n
abbrev pub AreDry : SearchKey → ℕ → ℕ → List Act → Type 0
AreDry g head n its = (k : ℕ) → k < n → IsDry g head k its
