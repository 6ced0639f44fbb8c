-- The search tree of the gaps. Each of its nodes has a number and a gap.
use Rattle.std.specs.Prelude.{◌≡◌, ◌≢◌, ℕ, suc, ◌+◌, ◌≤◌, max, true, List, [], ◌∷◌, ◌++◌}
use Rattle.std.specs.List.{AllByRecursion}
use Rattle.vs_free_tree.specs.Gaps.{is_before}

pub record Entry : Type 0 where
  pub number : ℕ
  pub gap : ℕ × ℕ

pub data Tree : Type 0 where
  leaf : Tree
  fork : Tree → Entry → Tree → Tree

-- its nodes, from left to right
abbrev pub entries : Tree → List Entry
entries leaf = []
entries (fork l e r) = entries l ++ e ∷ entries r

abbrev pub height : Tree → ℕ
height leaf = 0
height (fork l e r) = suc (max (height l) (height r))

-- the heights of the two sides of a node differ by at most 1
abbrev pub IsBalanced : Tree → Type 0
IsBalanced leaf = Unit {0}
IsBalanced (fork l e r) = (height l ≤ height r + 1) × (height r ≤ height l + 1) × IsBalanced l × IsBalanced r

abbrev pub AreBefore : List Entry → ℕ × ℕ → Type 0
AreBefore es g = AllByRecursion (λ x. is_before x.gap g ≡ true) es

abbrev pub AreBehind : List Entry → ℕ × ℕ → Type 0
AreBehind es g = AllByRecursion (λ x. is_before g x.gap ≡ true) es

-- the gaps on the left of a node come before its own, and those on the right behind it
abbrev pub IsSearchTree : Tree → Type 0
IsSearchTree leaf = Unit {0}
IsSearchTree (fork l e r) = AreBefore (entries l) e.gap × AreBehind (entries r) e.gap × IsSearchTree l × IsSearchTree r

-- each gap comes before those that follow
abbrev pub AreRising : List Entry → Type 0
AreRising [] = Unit {0}
AreRising (e ∷ es) = AreBehind es e.gap × AreRising es

-- none of the nodes has this number
abbrev pub Avoid : List Entry → ℕ → Type 0
Avoid es i = AllByRecursion (λ e. e.number ≢ i) es

-- none of the nodes has this gap
abbrev pub Lack : List Entry → ℕ × ℕ → Type 0
Lack es g = AllByRecursion (λ e. e.gap ≢ g) es
