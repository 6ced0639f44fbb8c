-- Lists that stand one behind the other in one list: a mark for each, which tells where it begins.
use Rattle.std.specs.Prelude.{◌≡◌, ℕ, ◌-◌, ◌≤◌, List, [], ◌∷◌, take, drop, length}

-- where the first one begins, which is the end where there is none
abbrev pub first_mark : {M : Type 0} → (M → ℕ) → List M → ℕ → ℕ
first_mark place [] end = end
first_mark place (m ∷ ms) end = place m

-- what stands from each mark up to the next one, or up to the end, made with the mark into what it is
abbrev pub pieces : {M X Y : Type 0} → (M → ℕ) → (M → List X → Y) → List M → List X → List Y
pieces place made [] xs = []
pieces place made (m ∷ ms) xs = made m (take (first_mark place ms (length xs) - place m) (drop (place m) xs)) ∷ pieces place made ms xs

---- Marks that are places themselves

abbrev pub own_place : ℕ → ℕ
own_place m = m

abbrev pub own_piece : {X : Type 0} → ℕ → List X → List X
own_piece m xs = xs

-- a list cut at marks
abbrev pub cut_at : {X : Type 0} → List ℕ → List X → List (List X)
cut_at marks xs = pieces own_place own_piece marks xs

---- Where marks may stand

-- no mark is before the one ahead of it, the first one not before a place, and the last one not behind the end
abbrev pub Rise : {M : Type 0} → (M → ℕ) → ℕ → List M → ℕ → Type 0
Rise place low [] end = low ≤ end
Rise place low (m ∷ ms) end = (low ≤ place m) × Rise place (place m) ms end

-- marks that rise to the end, and nothing before the first one
pub record AreMarks {M : Type 0} (place : M → ℕ) (marks : List M) (end : ℕ) : Type 0 where
  pub begins : first_mark place marks end ≡ 0
  pub rise : Rise place 0 marks end
