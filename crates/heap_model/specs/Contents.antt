-- The words of blocks: they change by Stores alone, and what a reallocation keeps of them.
use Rattle.std.specs.Prelude.{◌≡◌, ◌⊎◌, ℕ, ◌+◌, ◌/◌, ◌<◌, ◌≤◌, ◌==◌, Bool, true, false, ◌&&◌, not, min, List, [], ◌∷◌, Some, if◌then◌else◌}
use Rattle.std.specs.List.{list_any}
use Rattle.heap_model.specs.declared.Act.{Act}
use Rattle.heap_model.specs.declared.Act.TheVariants as acts
use Rattle.heap_model.specs.declared.Entry.{Entry}
use Rattle.heap_model.specs.Geometry.{words_of}
use Rattle.heap_model.specs.State.{Setting, Place, Live, place_at}
use Rattle.heap_model.specs.CallState.{Configuration}
use Rattle.heap_model.specs.History.{configuration_after}
use Rattle.heap_model.specs.Moments.{Moment, acts_of, Before}
use Rattle.heap_model.specs.Shape.{is_resize}

-- what a word that was v is after an act, and after entries: what was stored to it last
abbrev pub word_after : ℕ → ℕ → Act → ℕ
word_after word v (acts.Store w value) = if word == w then value else v
word_after word v _ = v

abbrev pub last_stored : ℕ → ℕ → List Entry → ℕ
last_stored word v [] = v
last_stored word v (e ∷ es) = last_stored word (word_after word v e.act) es

abbrev pub is_store_to : ℕ → Act → Bool
is_store_to word (acts.Store w value) = word == w
is_store_to word _ = false

-- a caller other than c has stored to the word
abbrev pub is_stored_by_others : ℕ → ℕ → List Entry → Bool
is_stored_by_others c word es = list_any (λ e. not (e.caller == c) && is_store_to word e.act) es

-- c gives or resizes the block at b, with the size n
abbrev pub puts_back : ℕ → ℕ → Act → Bool
puts_back b n (acts.Give a size) = a == b && size == n
puts_back b n (acts.Resize a granules size) = a == b && size == n
puts_back b n _ = false

-- the entries up to the last that passes
abbrev pub up_to_last : (Entry → Bool) → List Entry → List Entry
up_to_last test [] = []
up_to_last test (e ∷ es) = if list_any test (e ∷ es) then e ∷ up_to_last test es else []

abbrev pub until_given : ℕ → ℕ → ℕ → List Entry → List Entry
until_given c b n es = up_to_last (λ e. e.caller == c && puts_back b n e.act) es

abbrev pub is_take_of : ℕ → ℕ → Act → Bool
is_take_of a size (acts.Take b n) = b == a && n == size
is_take_of a size _ = false

-- the block at a had this size: c took it with it, or it was live with it until it was resized
abbrev pub HadSize : ℕ → ℕ → ℕ → List Moment → Type 0
HadSize c a size xs =
    (list_any (is_take_of a size) (acts_of xs) ≡ true)
    ⊎ Before is_resize (λ st. (p : Place) × (place_at st c a ≡ Some p) × (p.status ≡ Live size)) xs

-- The words of a block at a of the size m, as many as n bytes have too, are those of the block at b once it is given: those that stood there when
-- the entries began, unless another caller has stored to either word in between.
pub record KeepsContents (s : Setting) (c : ℕ) (k : Configuration) (a m b n : ℕ) (es : List Entry) : Type 0 where
  pub word : (i : ℕ) → i < words_of (min m n) →
      is_stored_by_others c (a / 8 + i) (until_given c b n es) ≡ false → is_stored_by_others c (b / 8 + i) (until_given c b n es) ≡ false →
      (configuration_after s k (until_given c b n es)).state.words (b / 8 + i) ≡ k.state.words (a / 8 + i)

-- The words of the block at b from one on up to another are 0 once it is given, unless another caller has stored to them since the entries began.
pub record IsZeroed (s : Setting) (c : ℕ) (k : Configuration) (b n first last : ℕ) (es : List Entry) : Type 0 where
  pub word : (i : ℕ) → first ≤ i → i < last → is_stored_by_others c (b / 8 + i) (until_given c b n es) ≡ false →
      (configuration_after s k (until_given c b n es)).state.words (b / 8 + i) ≡ 0
