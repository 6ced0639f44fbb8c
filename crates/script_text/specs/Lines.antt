-- The lines of a text, and the fields of a line.
use Rattle.std.specs.Prelude.{ℕ, ◌==◌, Bool, true, false, ◌||◌, List, [], ◌∷◌, filter, slice_index_or, if◌then◌else◌}
use Rattle.std.specs.List.{slice_split, onto_first}

-- what stands between line feeds. A last piece that is empty is no line
abbrev pub lines_of : List ℕ → List (List ℕ)
lines_of [] = []
lines_of (c ∷ cs) = if c == 10 then [] ∷ lines_of cs else onto_first c (lines_of cs)

-- a space, a tab or a carriage return
abbrev pub is_blank : ℕ → Bool
is_blank c = c == 32 || c == 9 || c == 13

abbrev pub has_bytes : List ℕ → Bool
has_bytes [] = false
has_bytes (c ∷ cs) = true

-- what stands between blanks, without the empty pieces
abbrev pub fields_of : List ℕ → List (List ℕ)
fields_of cs = filter has_bytes (slice_split is_blank cs)

-- the k-th field, empty where there is none
abbrev pub field : ℕ → List (List ℕ) → List ℕ
field k fields = slice_index_or fields k []
