-- What `lower_left` owes at each of its steps, for any two sides of which the left is 2 higher.
use Rattle.std.proofs.Common.{◌≡◌, ℕ, ◌+◌, ◌<◌, ◌≤◌, List, length, arith}
use Rattle.vs_free_tree.specs.declared.tree.Slot.{Slot}
use Rattle.vs_free_tree.specs.Tree.{Tree, leaf, fork, height}
use Rattle.vs_free_tree.specs.Slots.{slot_at, height_at, linked, CanLink, AreSides, Joins}
use Rattle.vs_free_tree.proofs.LowerLeft.{a_within, inner_height, can_lower, can_raise, lowered}
use Rattle.vs_free_tree.proofs.LowerLeftTwice.{inner_within, can_first, can_second, can_third, lowered_twice}

module _ (s : List Slot) (k a b : ℕ) where
  abbrev inner : ℕ
  inner = (slot_at s a).right

  abbrev outer : ℕ
  outer = (slot_at s a).left

  abbrev middle : Slot
  middle = slot_at s inner

  pub record Once : Type 0 where
    pub within : CanLink s k inner b
    pub raise : CanLink (linked s k inner b) a outer k
    pub joins : (l r : Tree) → AreSides s k a b l r → height l ≡ height r + 2 → (t : Tree) × Joins s (linked (linked s k inner b) a outer k) k l r a t

  pub record Twice : Type 0 where
    pub inner_is : inner < length s
    pub first : CanLink s a outer middle.left
    pub second : CanLink (linked s a outer middle.left) k middle.right b
    pub third : CanLink (linked (linked s a outer middle.left) k middle.right b) inner a k
    pub joins : (l r : Tree) → AreSides s k a b l r → height l ≡ height r + 2
        → (t : Tree) × Joins s (linked (linked (linked s a outer middle.left) k middle.right b) inner a k) k l r inner t

  pub left_within : (l r : Tree) → AreSides s k a b l r → height l ≡ height r + 2 → a < length s
  left_within leaf r sides high = absurd (omega (arith, high))
  left_within (fork A x B) r sides high = a_within s k a b A B r x sides high

  joins_once : height_at s inner ≤ height_at s outer → (l r : Tree) → AreSides s k a b l r → height l ≡ height r + 2
      → (t : Tree) × Joins s (linked (linked s k inner b) a outer k) k l r a t
  joins_once low leaf r sides high = absurd (omega (arith, high))
  joins_once low (fork A x B) r sides high = (fork A x (fork B _ r), lowered s k a b A B r x sides high low)

  pub once : height_at s inner ≤ height_at s outer → (l r : Tree) → AreSides s k a b l r → height l ≡ height r + 2 → Once
  once low leaf r sides high = absurd (omega (arith, high))
  once low (fork A x B) r sides high = record {
    within = can_lower s k a b A B r x sides high low;
    raise = can_raise s k a b A B r x sides high low;
    joins = joins_once low;
  }

  joins_twice : height_at s outer < height_at s inner → (l r : Tree) → AreSides s k a b l r → height l ≡ height r + 2
      → (t : Tree) × Joins s (linked (linked (linked s a outer middle.left) k middle.right b) inner a k) k l r inner t
  joins_twice low leaf r sides high = absurd (omega (arith, high))
  joins_twice low (fork A x leaf) r sides high = absurd (omega (arith, low, inner_height s k a b A leaf r x sides high))
  joins_twice low (fork A x (fork B y C)) r sides high = (fork (fork A x B) y (fork C _ r), lowered_twice s k a b A B C r x y sides high low)

  pub twice : height_at s outer < height_at s inner → (l r : Tree) → AreSides s k a b l r → height l ≡ height r + 2 → Twice
  twice low leaf r sides high = absurd (omega (arith, high))
  twice low (fork A x leaf) r sides high = absurd (omega (arith, low, inner_height s k a b A leaf r x sides high))
  twice low (fork A x (fork B y C)) r sides high = record {
    inner_is = inner_within s k a b A B C r x y sides high;
    first = can_first s k a b A B C r x y sides high;
    second = can_second s k a b A B C r x y sides high;
    third = can_third s k a b A B C r x y sides high low;
    joins = joins_twice low;
  }
