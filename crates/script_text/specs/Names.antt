-- The names of a text, and their numbers.
use Rattle.std.specs.Prelude.{◌≡◌, ℕ, ◌+◌, Bool, true, ◌&&◌, false, nat_lt, List, [], ◌∷◌, ◌++◌, is_some, Option, Some, None, if◌then◌else◌}
use Rattle.std.specs.List.{list_any}
use Rattle.std.specs.Str.{bytes_eq}
use Rattle.std.specs.BTreeMap.{BTreeMap, get, btree_map_len}
use Rattle.script_text.specs.Lines.{field, fields_of}
use Rattle.script_text.specs.Words.{arguments, block_word, is_name}
use Rattle.script_text.specs.declared.words.Word.{Word}
use Rattle.script_text.specs.Keys.{key_of, key_cmp}

abbrev pub is_among : List (List ℕ) → List ℕ → Bool
is_among names x = list_any (bytes_eq x) names

-- how many different names there are
abbrev pub different : List (List ℕ) → ℕ
different [] = 0
different (x ∷ xs) = if is_among xs x then different xs else different xs + 1

-- what stands before the first place of a name
abbrev pub before_name : List ℕ → List (List ℕ) → List (List ℕ)
before_name x [] = []
before_name x (y ∷ ys) = if bytes_eq x y then [] else y ∷ before_name x ys

-- the number of a name: how many different names stand before its first place
abbrev pub number_of_name : List (List ℕ) → List ℕ → ℕ
number_of_name names x = different (before_name x names)

-- whether a block stands behind a word
abbrev pub takes_name : Option Word → Bool
takes_name None = false
takes_name (Some word) = nat_lt 0 (arguments word)

-- the name on a line: its first field behind a word that takes one, if that is a name
abbrev pub name_by : (word first : List ℕ) → List (List ℕ)
name_by word first = if is_some (block_word word) && is_name first then first ∷ [] else []

abbrev pub name_on : List (List ℕ) → List (List ℕ)
name_on fields = name_by (field 0 fields) (field 1 fields)

-- the names of lines, in their order
abbrev pub names_in : List (List ℕ) → List (List ℕ)
names_in [] = []
names_in (line ∷ lines) = name_on (fields_of line) ++ names_in lines

-- the number of the name on a line
abbrev pub number_on : List (List ℕ) → List (List ℕ) → ℕ
number_on names [] = 0
number_on names (x ∷ xs) = number_of_name names x

-- a map gives the names their numbers
pub record AreNumbered (numbers : BTreeMap (ℕ × ℕ) ℕ) (names : List (List ℕ)) : Type 0 where
  pub found : (x : List ℕ) → is_name x ≡ true → get key_cmp numbers (key_of x) ≡ (if is_among names x then Some (number_of_name names x) else None)
  pub count : btree_map_len numbers ≡ different names
