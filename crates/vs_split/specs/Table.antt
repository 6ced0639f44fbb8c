-- Header words and marks, as they are kept.
use Rattle.std.specs.Prelude.{◌≡◌, ℕ, suc, ◌*◌, ◌^◌, ◌<◌, Bool, true, false, ◌-◌, List, [], ◌∷◌, ◌++◌, length, replicate, slice_index, Option, None}
use Rattle.std.specs.List.{slice_index_or}
use Rattle.vs_headers.specs.declared.Head.{Head}
use Rattle.vs_headers.specs.Headers.{IsHead, encoded, decoded}
use Rattle.vs_split.specs.Chunks.{Chunks}

-- what a word and a mark tell of granule g
abbrev pub told : ℕ → ℕ → ℕ → Bool → Option Head
told key g word true = decoded word key (16 * g)
told key g word false = None

-- what words and marks tell, from granule g on
abbrev pub all_told : ℕ → ℕ → List ℕ → List Bool → List (Option Head)
all_told key g [] starts = []
all_told key g (w ∷ ws) [] = None ∷ all_told key (suc g) ws []
all_told key g (w ∷ ws) (s ∷ ss) = told key g w s ∷ all_told key (suc g) ws ss

abbrev pub chunks_told : ℕ → List ℕ → List Bool → Chunks
chunks_told key words starts = record { key = key; heads = all_told key 0 words starts }

-- a list of so many elements, those behind the ones that it has all equal
abbrev pub filled_up : {A : Type 0} → ℕ → A → List A → List A
filled_up n x xs = xs ++ replicate (n - length xs) x

-- .. where those behind the last that are kept count as 0 and as not marked
abbrev pub chunks_kept : ℕ → ℕ → List ℕ → List Bool → Chunks
chunks_kept key granules words starts = chunks_told key (filled_up granules 0 words) (filled_up granules false starts)

-- a marked word is that of a head, and one without a mark is 0
abbrev pub IsKeptAs : ℕ → ℕ → ℕ → Bool → Type 0
IsKeptAs key g word true = (h : Head) × (IsHead h × (encoded h key (16 * g) ≡ word))
IsKeptAs key g word false = word ≡ 0

pub record AreKept (key : ℕ) (words : List ℕ) (starts : List Bool) : Type 0 where
  pub as_long : length starts ≡ length words
  pub few : length words < 2 ^ 32
  pub each : (g : ℕ) → g < length words → IsKeptAs key g (slice_index words g) (slice_index_or starts g false)
