-- The index, as contracts see it: its gaps, how many there is room for, how many nodes it has memory for, and its tree as the
-- answers of `root` and `node` tell it.
use Rattle.std.specs.Prelude.{◌≡◌, ◌≢◌, ℕ, ◌≤◌, List, map, length, Option, Some, None, refl, replicate}
use Rattle.std.specs.List.{AllByRecursion, slice_index_or}
use Rattle.std.specs.FinSet as set
use Rattle.std.specs.Coded.{Coded, code_by, coded×, coded_ℕ, coded_list, coded_option}
use Rattle.vs_free_tree.specs.declared.Node.{Node}
use Rattle.vs_free_tree.specs.Gaps.{Gaps, GapIndex}
use Rattle.vs_free_tree.specs.Tree.{Entry, Tree, leaf, fork, entries, height, IsBalanced, IsSearchTree, Avoid}

pub record GapTree : Type 0 where
  pub gaps : Gaps
  pub capacity : ℕ
  pub reserved : ℕ
  pub root : Option ℕ
  pub nodes : List (Option Node)

-- the gaps and the room alone
abbrev pub index_of : GapTree → GapIndex
index_of x = record { gaps = x.gaps; capacity = x.capacity }

abbrev pub node_code : Coded Node
node_code =
    code_by (ℕ × (ℕ × (Option ℕ × (Option ℕ × ℕ)))) (coded× coded_ℕ (coded× coded_ℕ (coded× (coded_option coded_ℕ) (coded× (coded_option coded_ℕ) coded_ℕ))))
    (λ n. (n.units, (n.at, (n.left, (n.right, n.height)))))
    (λ p. record { units = p.0; at = p.1.0; left = p.1.1.0; right = p.1.1.1.0; height = p.1.1.1.1 }) (λ _. refl)

abbrev pub gap_tree_code : Coded GapTree
gap_tree_code =
    code_by (Gaps × (ℕ × (ℕ × (Option ℕ × List (Option Node)))))
    (coded× (set.code (coded× coded_ℕ coded_ℕ)) (coded× coded_ℕ (coded× coded_ℕ (coded× (coded_option coded_ℕ) (coded_list (coded_option node_code))))))
    (λ x. (x.gaps, (x.capacity, (x.reserved, (x.root, x.nodes)))))
    (λ p. record { gaps = p.0; capacity = p.1.0; reserved = p.1.1.0; root = p.1.1.1.0; nodes = p.1.1.1.1 }) (λ _. refl)

abbrev pub empty_tree : ℕ → ℕ → GapTree
empty_tree capacity reserved = record { gaps = set.empty; capacity = capacity; reserved = reserved; root = None; nodes = replicate capacity None }

-- what `node` answers for a number
abbrev pub node_at : GapTree → ℕ → Option Node
node_at x i = slice_index_or x.nodes i None

abbrev pub number_of_root : Tree → Option ℕ
number_of_root leaf = None
number_of_root (fork l e r) = Some e.number

abbrev pub node_of : Tree → Entry → Tree → Node
node_of l e r = record { units = e.gap.0; at = e.gap.1; left = number_of_root l; right = number_of_root r; height = height (fork l e r) }

-- each node of the tree is answered
abbrev pub Answers : GapTree → Tree → Type 0
Answers x leaf = Unit {0}
Answers x (fork l e r) = (node_at x e.number ≡ Some (node_of l e r)) × Answers x l × Answers x r

-- The index is this tree: a balanced search tree of its gaps, with exact heights. No other node is answered.
pub record IsShownBy (x : GapTree) (t : Tree) : Type 0 where
  pub root : x.root ≡ number_of_root t
  pub nodes : Answers x t
  pub others : (i : ℕ) → Avoid (entries t) i → node_at x i ≡ None
  pub numbers : length x.nodes ≡ x.capacity
  pub gaps : x.gaps ≡ set.from_list (map (λ e. e.gap) (entries t))
  pub ordered : IsSearchTree t
  pub balanced : IsBalanced t

abbrev pub IsTreeOfGaps : GapTree → Type 0
IsTreeOfGaps x = (t : Tree) × IsShownBy x t

-- the height of the root, 0 where there is none
abbrev pub height_of : Option Node → ℕ
height_of None = 0
height_of (Some n) = n.height

abbrev pub height_from : GapTree → Option ℕ → ℕ
height_from x None = 0
height_from x (Some i) = height_of (node_at x i)

abbrev pub root_height : GapTree → ℕ
root_height x = height_from x x.root

-- `node` answers otherwise for at most n numbers
pub record DifferInAtMost (n : ℕ) (x y : GapTree) : Type 0 where
  pub numbers : List ℕ
  pub few : length numbers ≤ n
  pub same : (i : ℕ) → AllByRecursion (λ k. k ≢ i) numbers → node_at y i ≡ node_at x i
