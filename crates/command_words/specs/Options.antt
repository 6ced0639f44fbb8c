-- The options that words give.
use Rattle.std.specs.Prelude.{◌≡◌, ◌⊎◌, ℕ, ◌==◌, Bool, true, false, not, ◌&&◌, List, [], ◌∷◌, ◌++◌, ◌||◌, codes, Option, option_map, is_some}
use Rattle.clap.specs.Lexer.{long_of}
use Rattle.std.specs.List.{find, list_any, list_all}
use Rattle.std.specs.Str.{bytes_eq}

-- an option that was given: its name and its value
pub record Given : Type 0 where
  pub name : List ℕ
  pub value : List ℕ

-- `--name`
abbrev pub dashed : List ℕ → List ℕ
dashed name = codes "--" ++ name

abbrev pub begins_dash : List ℕ → Bool
begins_dash [] = false
begins_dash (c ∷ cs) = c == 45

-- Words give options one after another: each stands as `--name=value` in one word, or as `--name` and its value in two. A value in a word of
-- its own does not begin with a dash.
abbrev pub IsSpelled : List Given → List (List ℕ) → Type 0
IsSpelled [] words = words ≡ []
IsSpelled (g ∷ gs) words =
    (rest : List (List ℕ))
    × ((words ≡ (dashed g.name ++ 61 ∷ g.value) ∷ rest) ⊎ ((words ≡ dashed g.name ∷ g.value ∷ rest) × (begins_dash g.value ≡ false)))
    × IsSpelled gs rest

abbrev pub is_given : List ℕ → List Given → Bool
is_given name gs = list_any (λ g. bytes_eq g.name name) gs

-- no name stands twice
abbrev pub are_once : List Given → Bool
are_once [] = true
are_once (g ∷ gs) = not (is_given g.name gs) && are_once gs

-- each name is one of these
abbrev pub are_among : List (List ℕ) → List Given → Bool
are_among names gs = list_all (λ g. list_any (λ n. bytes_eq n g.name) names) gs

-- the value of a name, where it was given
abbrev pub text_of : List Given → List ℕ → Option (List ℕ)
text_of gs name = option_map (λ g. g.value) (find (λ g. bytes_eq g.name name) gs)

-- These words give these options, of these names, each at most once.
pub record AreOptions (names : List (List ℕ)) (given : List Given) (words : List (List ℕ)) : Type 0 where
  pub spelled : IsSpelled given words
  pub known : are_among names given ≡ true
  pub once : are_once given ≡ true

-- a word that may be part of options: it begins with no dash, or with two and something behind them
abbrev pub is_ready : List ℕ → Bool
is_ready word = is_some (long_of word) || not (begins_dash word)
