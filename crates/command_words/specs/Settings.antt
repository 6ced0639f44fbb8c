-- What the words of the program set, and which words are valid.
use Rattle.std.specs.Prelude.{◌≡◌, ℕ, ◌&&◌, nat_le, List, [], ◌∷◌, codes, Option, Some, None, option_and_then, option_map, if◌then◌else◌}
use Rattle.std.specs.Str.{bytes_eq}
use Rattle.heap_model.specs.declared.Limits.{Limits}
use Rattle.script_text.specs.Words.{is_number, value_of}
use Rattle.command_words.specs.declared.setting.Mode.{Mode}
use Rattle.command_words.specs.declared.setting.Mode.TheVariants.{Run, One, Gen}
use Rattle.command_words.specs.declared.setting.Setting.{Setting}
use Rattle.command_words.specs.Options.{Given, AreOptions, text_of}

abbrev pub names : List (List ℕ)
names = codes "mode" ∷ codes "segments" ∷ codes "large" ∷ codes "slots" ∷ codes "seed" ∷ codes "count" ∷ []

abbrev pub mode_of : List ℕ → Option Mode
mode_of word =
    if bytes_eq word (codes "run") then Some Run
    else if bytes_eq word (codes "one") then Some One
    else if bytes_eq word (codes "gen") then Some Gen
    else None

-- a number of 1 to 20 digits, from low to high
abbrev pub number_from : (low high : ℕ) → List ℕ → Option ℕ
number_from low high word = if is_number word && nat_le low (value_of word) && nat_le (value_of word) high then Some (value_of word) else None

-- the mode, and `run` where none is given
abbrev pub mode_in : Option (List ℕ) → Option Mode
mode_in None = Some Run
mode_in (Some word) = mode_of word

-- a number, and another one where none is given
abbrev pub number_in : (low high absent : ℕ) → Option (List ℕ) → Option ℕ
number_in low high absent None = Some absent
number_in low high absent (Some word) = number_from low high word

-- What values set, none where one is not valid.
abbrev pub setting_by : (mode segments large slots seed count : Option (List ℕ)) → Option Setting
setting_by mode segments large slots seed count =
    option_and_then (λ m. option_and_then (λ g. option_and_then (λ l. option_and_then (λ s. option_and_then (λ d. option_map (λ c.
    record { mode = m; segments = g; large_pages = l; slots = s; seed = d; count = c })
    (number_in 0 100000 10000 count)) (number_in 0 18446744073709551615 1 seed)) (number_in 1 16 4 slots)) (number_in 0 4096 1024 large))
    (number_in 1 16 16 segments)) (mode_in mode)

abbrev pub callers_of : Mode → ℕ
callers_of Run = 64
callers_of _ = 1

-- the limits of the heap
abbrev pub limits_of : Setting → Limits
limits_of s = record { segments = s.segments; large_pages = s.large_pages; slots = s.slots; callers = callers_of s.mode }

-- what options set
abbrev pub setting_given : List Given → Option Setting
setting_given given =
    setting_by (text_of given (codes "mode")) (text_of given (codes "segments")) (text_of given (codes "large"))
    (text_of given (codes "slots")) (text_of given (codes "seed")) (text_of given (codes "count"))

-- The words are valid, and set this.
pub record AreWords (words : List (List ℕ)) (setting : Setting) : Type 0 where
  pub given : List Given
  pub options : AreOptions names given words
  pub sets : setting_given given ≡ Some setting
