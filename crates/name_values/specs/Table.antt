-- What names stand for, as the thread of a script sees it.
use Rattle.std.specs.Prelude.{◌≡◌, ℕ, ◌==◌, List, [], ◌∷◌, Option, Some, None, slice_index_or, if◌then◌else◌}
use Rattle.std.specs.Option.{option_or}
use Rattle.script_text.specs.Values.{Answered, value_at, last_assigned, last_of_round}
use Rattle.name_values.specs.declared.Assigned.{Assigned}

-- the values by the numbers of the names, and what was assigned in this round, the first one first
pub record NameTable : Type 0 where
  pub values : List ℕ
  pub news : List Assigned

-- a name that is not in the table has the value 0
abbrev pub value_in : List ℕ → ℕ → ℕ
value_in values name = slice_index_or values name 0

abbrev pub given_by : Assigned → ℕ → Option ℕ
given_by a name = if a.name == name then Some a.value else None

-- the last assignment of a name
abbrev pub last_in : List Assigned → ℕ → Option ℕ
last_in [] name = None
last_in (a ∷ rest) name = option_or (last_in rest name) (given_by a name)

-- what one reply assigns, if it does
abbrev pub given_if : Option Assigned → ℕ → Option ℕ
given_if None name = None
given_if (Some a) name = given_by a name

-- The table has the values that names have behind these rounds and these commands of its own thread, and what those commands assigned.
pub record Tells (t : NameTable) (earlier : List (List (List Answered))) (own : List Answered) : Type 0 where
  pub value : (name : ℕ) → value_in t.values name ≡ value_at earlier own name
  pub news : (name : ℕ) → last_in t.news name ≡ last_assigned own name

-- these assignments leave what the threads of a round leave
abbrev pub TellsRound : List Assigned → List (List Answered) → Type 0
TellsRound news round = (name : ℕ) → last_in news name ≡ last_of_round round name
