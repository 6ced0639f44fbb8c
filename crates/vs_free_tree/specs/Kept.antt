-- What the fields of the index keep to: a tree of the gaps, and a list of the free nodes.
use Rattle.std.specs.List.{AllByRecursion}
use Rattle.std.specs.Prelude.{◌≡◌, ◌≢◌, ℕ, zero, suc, ◌+◌, ◌<◌, ◌==◌, List, [], ◌∷◌, map, length, Option, Some, None, if◌then◌else◌}
use Rattle.std.specs.FinSet as set
use Rattle.vs_free_tree.specs.declared.Node.{Node}
use Rattle.vs_free_tree.specs.declared.tree.Slot.{Slot}
use Rattle.vs_free_tree.specs.declared.tree.TheConstants.{NONE}
use Rattle.vs_free_tree.specs.Gaps.{Gaps}
use Rattle.vs_free_tree.specs.Tree.{Tree, leaf, fork, entries, Avoid}
use Rattle.vs_free_tree.specs.Index.{GapTree}
use Rattle.vs_free_tree.specs.Slots.{slot_at, height_at, entry_at, IsTreeAt}

-- the tree of so many levels under a node
unfoldable pub tree_under : List Slot → ℕ → ℕ → Tree
tree_under s zero i = leaf
tree_under s (suc n) i =
    if height_at s i == 0 then leaf else fork (tree_under s n (slot_at s i).left) (entry_at s i) (tree_under s n (slot_at s i).right)

unfoldable pub gaps_under : List Slot → ℕ → Gaps
gaps_under s i = set.from_list (map (λ e. e.gap) (entries (tree_under s (height_at s i) i)))

abbrev pub number_seen : ℕ → Option ℕ
number_seen i = if i == NONE then None else Some i

abbrev pub seen : Slot → Option Node
seen x =
    if x.height == 0 then None
    else Some (record { units = x.units; at = x.at; left = number_seen x.left; right = number_seen x.right; height = x.height })

abbrev pub seen_as : List Slot → ℕ → ℕ → GapTree
seen_as s root reserved = record { gaps = gaps_under s root; capacity = length s; reserved = reserved; root = number_seen root; nodes = map seen s }

-- the free nodes, from this one on
abbrev pub AreFree : List Slot → ℕ → List ℕ → Type 0
AreFree s i [] = i ≡ NONE
AreFree s i (k ∷ ks) = (i ≡ k) × (k < length s) × (height_at s k ≡ 0) × AreFree s (slot_at s k).left ks

-- none of the numbers is there twice
abbrev pub AreApart : List ℕ → Type 0
AreApart [] = Unit {0}
AreApart (k ∷ ks) = AllByRecursion (λ j. j ≢ k) ks × AreApart ks

pub record IsKept (s : List Slot) (root free spare : ℕ) : Type 0 where
  pub tree : Tree
  pub is_tree : IsTreeAt s root tree
  pub others : (i : ℕ) → Avoid (entries tree) i → height_at s i ≡ 0
  pub freed : List ℕ
  pub are_free : AreFree s free freed
  pub apart : AreApart freed
  pub spare_is : length freed ≡ spare
  pub counted : length (entries tree) + spare ≡ length s
