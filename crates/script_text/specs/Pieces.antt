-- Lists cut at marks.
use Rattle.std.specs.Prelude.{Bool, List, [], ◌∷◌, if◌then◌else◌}
use Rattle.std.specs.List.{before_first, list_any}

-- each mark with what stands behind it, up to the next mark
abbrev pub marked_pieces : {X : Type 0} → (X → Bool) → List X → List (List X)
marked_pieces p [] = []
marked_pieces p (x ∷ xs) = if p x then (x ∷ before_first p xs) ∷ marked_pieces p xs else marked_pieces p xs

-- a list cut before each mark
abbrev pub cut_before : {X : Type 0} → (X → Bool) → List X → List (List X)
cut_before p [] = []
cut_before p (x ∷ xs) = (x ∷ before_first p xs) ∷ marked_pieces p xs

-- what stands behind the last mark, or all where there is none
abbrev pub behind_last : {X : Type 0} → (X → Bool) → List X → List X
behind_last p [] = []
behind_last p (x ∷ xs) = if list_any p (x ∷ xs) then behind_last p xs else x ∷ xs
