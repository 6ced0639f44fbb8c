-- The tree in an array: a slot for each number, and what the steps on it do.
use Rattle.std.specs.Prelude.{◌≡◌, ◌≢◌, ℕ, suc, ◌+◌, ◌*◌, ◌^◌, ◌<◌, ◌≤◌, max, List, ◌∷◌, ◌++◌, length, slice_set, Option, Some, None}
use Rattle.std.specs.List.{AllByRecursion, slice_index_or}
use Rattle.vs_free_tree.specs.declared.tree.Slot.{Slot}
use Rattle.vs_free_tree.specs.declared.removal.Taken.{Taken}
use Rattle.vs_free_tree.specs.declared.tree.TheConstants.{NONE}
use Rattle.vs_free_tree.specs.Tree.{Entry, Tree, leaf, fork, entries, height, IsBalanced, AreBefore, AreBehind, AreRising, Avoid, Lack}

abbrev pub slot_at : List Slot → ℕ → Slot
slot_at s i = slice_index_or s i (record { at = 0; left = 0; right = 0; units = 0; height = 0 })

abbrev pub height_at : List Slot → ℕ → ℕ
height_at s i = (slot_at s i).height

abbrev pub gap_at : List Slot → ℕ → ℕ × ℕ
gap_at s i = ((slot_at s i).units, (slot_at s i).at)

abbrev pub entry_at : List Slot → ℕ → Entry
entry_at s i = record { number = i; gap = gap_at s i }

---- A tree that the slots show

abbrev pub root_of : Tree → ℕ
root_of leaf = NONE
root_of (fork l e r) = e.number

abbrev pub slot_of : Tree → Entry → Tree → Slot
slot_of l e r = record { at = e.gap.1; left = root_of l; right = root_of r; units = e.gap.0; height = suc (max (height l) (height r)) }

abbrev pub Show : List Slot → Tree → Type 0
Show s leaf = Unit {0}
Show s (fork l e r) = (e.number < length s) × (slot_at s e.number ≡ slot_of l e r) × Show s l × Show s r

-- t is a balanced search tree in the slots, with this root
pub record IsTreeAt (s : List Slot) (i : ℕ) (t : Tree) : Type 0 where
  pub fits : length s < 2 ^ 32
  pub shown : Show s t
  pub root : i ≡ root_of t
  pub rising : AreRising (entries t)
  pub balanced : IsBalanced t

---- What changes

-- the slots of the numbers that no node of these has stay
abbrev pub IsSameBeside : List Entry → List Slot → List Slot → Type 0
IsSameBeside es s z = (j : ℕ) → Avoid es j → slot_at z j ≡ slot_at s j

pub record ChangeAtMost (n : ℕ) (s z : List Slot) : Type 0 where
  pub numbers : List ℕ
  pub few : length numbers ≤ n
  pub same : (j : ℕ) → AllByRecursion (λ k. k ≢ j) numbers → slot_at z j ≡ slot_at s j

---- Two trees become the sides of a node

pub record CanLink (s : List Slot) (k a b : ℕ) : Type 0 where
  pub within : k < length s
  pub left_low : height_at s a < 255
  pub right_low : height_at s b < 255

abbrev pub linked : List Slot → ℕ → ℕ → ℕ → List Slot
linked s k a b = slice_set s k (record (slot_at s k) { left = a; right = b; height = suc (max (height_at s a) (height_at s b)) })

pub record AreSides (s : List Slot) (k a b : ℕ) (l r : Tree) : Type 0 where
  pub within : k < length s
  pub left : IsTreeAt s a l
  pub right : IsTreeAt s b r
  pub before : AreBefore (entries l) (gap_at s k)
  pub behind : AreBehind (entries r) (gap_at s k)
  pub left_low : height l < 254
  pub right_low : height r < 254

pub record Joins (s z : List Slot) (k : ℕ) (l r : Tree) (i : ℕ) (t : Tree) : Type 0 where
  pub tree : IsTreeAt z i t
  pub long : length z ≡ length s
  pub holds : entries t ≡ entries l ++ entry_at s k ∷ entries r
  pub not_lower : max (height l) (height r) ≤ height t
  pub one_higher : height t ≤ suc (max (height l) (height r))
  pub level : height l ≤ height r + 1 → height r ≤ height l + 1 → height t ≡ suc (max (height l) (height r))
  pub beside : IsSameBeside (entries t) s z
  pub few : ChangeAtMost 3 s z

pub record CanJoin (s : List Slot) (k a b : ℕ) : Type 0 where
  pub l : Tree
  pub r : Tree
  pub sides : AreSides s k a b l r
  pub left_near : height l ≤ height r + 2
  pub right_near : height r ≤ height l + 2

abbrev pub IsJoined : List Slot → List Slot → ℕ → ℕ → ℕ → ℕ → Type 0
IsJoined s z k a b i =
    (l r : Tree) → AreSides s k a b l r → height l ≤ height r + 2 → height r ≤ height l + 2 → (t : Tree) × Joins s z k l r i t

pub record IsLeftHigh (s : List Slot) (k a b : ℕ) : Type 0 where
  pub l : Tree
  pub r : Tree
  pub sides : AreSides s k a b l r
  pub high : height l ≡ height r + 2

abbrev pub IsLowered : List Slot → List Slot → ℕ → ℕ → ℕ → ℕ → Type 0
IsLowered s z k a b i = (l r : Tree) → AreSides s k a b l r → height l ≡ height r + 2 → (t : Tree) × Joins s z k l r i t

pub record IsRightHigh (s : List Slot) (k a b : ℕ) : Type 0 where
  pub l : Tree
  pub r : Tree
  pub sides : AreSides s k a b l r
  pub high : height r ≡ height l + 2

abbrev pub IsRaised : List Slot → List Slot → ℕ → ℕ → ℕ → ℕ → Type 0
IsRaised s z k a b i = (l r : Tree) → AreSides s k a b l r → height r ≡ height l + 2 → (t : Tree) × Joins s z k l r i t

---- A gap is put in

pub record CanInsertInto (s : List Slot) (i : ℕ) (g : ℕ × ℕ) (k : ℕ) (t : Tree) : Type 0 where
  pub tree : IsTreeAt s i t
  pub few : length (entries t) + 1 < 2 ^ 32
  pub within : k < length s
  pub free : height_at s k ≡ 0
  pub absent : Lack (entries t) g

pub record Inserts (s z : List Slot) (g : ℕ × ℕ) (k : ℕ) (t : Tree) (i : ℕ) (u : Tree) : Type 0 where
  pub tree : IsTreeAt z i u
  pub long : length z ≡ length s
  pub front : List Entry
  pub back : List Entry
  pub was : entries t ≡ front ++ back
  pub holds : entries u ≡ front ++ record { number = k; gap = g } ∷ back
  pub not_lower : height t ≤ height u
  pub one_higher : height u ≤ height t + 1
  pub beside : IsSameBeside (entries u) s z
  pub few : ChangeAtMost (3 * height t + 1) s z

abbrev pub CanInsert : List Slot → ℕ → ℕ × ℕ → ℕ → Type 0
CanInsert s i g k = (t : Tree) × CanInsertInto s i g k t

abbrev pub IsInserted : List Slot → List Slot → ℕ → ℕ × ℕ → ℕ → ℕ → Type 0
IsInserted s z i g k j = (t : Tree) → CanInsertInto s i g k t → (u : Tree) × Inserts s z g k t j u

---- The best gap

pub record IsFirstFit (units : ℕ) (es : List Entry) (g : ℕ × ℕ) : Type 0 where
  pub front : List Entry
  pub entry : Entry
  pub back : List Entry
  pub holds : es ≡ front ++ entry ∷ back
  pub gap : entry.gap ≡ g
  pub smaller : AllByRecursion (λ e. e.gap.0 < units) front
  pub fits : units ≤ g.0

abbrev pub Finds : ℕ → List Entry → Option (ℕ × ℕ) → Type 0
Finds units es None = AllByRecursion (λ e. e.gap.0 < units) es
Finds units es (Some g) = IsFirstFit units es g

abbrev pub CanSearch : List Slot → ℕ → Type 0
CanSearch s i = (t : Tree) × IsTreeAt s i t

abbrev pub IsFound : List Slot → ℕ → ℕ → Option (ℕ × ℕ) → Type 0
IsFound s i units found = (t : Tree) → IsTreeAt s i t → Finds units (entries t) found

---- A node is taken out

pub record IsFewTreeAt (s : List Slot) (i : ℕ) (t : Tree) : Type 0 where
  pub tree : IsTreeAt s i t
  pub few : length (entries t) < 2 ^ 32

pub record TakesLeast (s z : List Slot) (t : Tree) (x : Taken) (u : Tree) : Type 0 where
  pub tree : IsTreeAt z x.root u
  pub long : length z ≡ length s
  pub least : Entry
  pub number : least.number ≡ x.node
  pub was : entries t ≡ least ∷ entries u
  pub not_higher : height u ≤ height t
  pub one_lower : height t ≤ height u + 1
  pub beside : IsSameBeside (entries u) s z
  pub few : ChangeAtMost (3 * height t) s z

pub record CanTakeLeast (s : List Slot) (i : ℕ) : Type 0 where
  pub l : Tree
  pub e : Entry
  pub r : Tree
  pub few_tree : IsFewTreeAt s i (fork l e r)

abbrev pub IsLeastTaken : List Slot → List Slot → ℕ → Taken → Type 0
IsLeastTaken s z i x = (l : Tree) (e : Entry) (r : Tree) → IsFewTreeAt s i (fork l e r) → (u : Tree) × TakesLeast s z (fork l e r) x u

pub record AreMergeable (s : List Slot) (a b : ℕ) (l r : Tree) : Type 0 where
  pub left : IsTreeAt s a l
  pub right : IsTreeAt s b r
  pub few : length (entries l) + length (entries r) < 2 ^ 32
  pub rising : AreRising (entries l ++ entries r)
  pub left_near : height l ≤ height r + 1
  pub right_near : height r ≤ height l + 1

pub record Merges (s z : List Slot) (l r : Tree) (i : ℕ) (u : Tree) : Type 0 where
  pub tree : IsTreeAt z i u
  pub long : length z ≡ length s
  pub holds : entries u ≡ entries l ++ entries r
  pub not_lower : max (height l) (height r) ≤ height u
  pub one_higher : height u ≤ suc (max (height l) (height r))
  pub beside : IsSameBeside (entries u) s z
  pub few : ChangeAtMost (3 * suc (max (height l) (height r))) s z

pub record CanMerge (s : List Slot) (a b : ℕ) : Type 0 where
  pub l : Tree
  pub r : Tree
  pub mergeable : AreMergeable s a b l r

abbrev pub IsMerged : List Slot → List Slot → ℕ → ℕ → ℕ → Type 0
IsMerged s z a b i = (l r : Tree) → AreMergeable s a b l r → (u : Tree) × Merges s z l r i u

pub record TakesOut (s z : List Slot) (g : ℕ × ℕ) (t : Tree) (x : Taken) (u : Tree) : Type 0 where
  pub tree : IsTreeAt z x.root u
  pub long : length z ≡ length s
  pub front : List Entry
  pub back : List Entry
  pub was : entries t ≡ front ++ record { number = x.node; gap = g } ∷ back
  pub holds : entries u ≡ front ++ back
  pub not_higher : height u ≤ height t
  pub one_lower : height t ≤ height u + 1
  pub beside : IsSameBeside (entries u) s z
  pub few : ChangeAtMost (3 * height t) s z

abbrev pub TakesOutIfThere : List Slot → List Slot → ℕ × ℕ → Tree → Option Taken → Type 0
TakesOutIfThere s z g t None = Lack (entries t) g × (z ≡ s)
TakesOutIfThere s z g t (Some x) = (u : Tree) × TakesOut s z g t x u

abbrev pub CanTakeOut : List Slot → ℕ → Type 0
CanTakeOut s i = (t : Tree) × IsFewTreeAt s i t

abbrev pub IsTakenOut : List Slot → List Slot → ℕ → ℕ × ℕ → Option Taken → Type 0
IsTakenOut s z i g x = (t : Tree) → IsFewTreeAt s i t → TakesOutIfThere s z g t x
