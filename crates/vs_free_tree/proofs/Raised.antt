-- What `lower_right` owes at each of its steps, for any two sides of which the right is 2 higher.
use Rattle.std.proofs.Common.{◌≡◌, ℕ, ◌+◌, ◌<◌, ◌≤◌, List, length, arith}
use Rattle.vs_free_tree.specs.declared.tree.Slot.{Slot}
use Rattle.vs_free_tree.specs.Tree.{Tree, leaf, fork, height}
use Rattle.vs_free_tree.specs.Slots.{slot_at, height_at, linked, CanLink, AreSides, Joins}
use Rattle.vs_free_tree.proofs.LowerRight.{b_within, inner_height, can_lower, can_raise, raised}
use Rattle.vs_free_tree.proofs.LowerRightTwice.{inner_within, can_first, can_second, can_third, raised_twice}

module _ (s : List Slot) (k a b : ℕ) where
  abbrev inner : ℕ
  inner = (slot_at s b).left

  abbrev outer : ℕ
  outer = (slot_at s b).right

  abbrev middle : Slot
  middle = slot_at s inner

  pub record Once : Type 0 where
    pub within : CanLink s k a inner
    pub raise : CanLink (linked s k a inner) b k outer
    pub joins : (l r : Tree) → AreSides s k a b l r → height r ≡ height l + 2 → (t : Tree) × Joins s (linked (linked s k a inner) b k outer) k l r b t

  pub record Twice : Type 0 where
    pub inner_is : inner < length s
    pub first : CanLink s b middle.right outer
    pub second : CanLink (linked s b middle.right outer) k a middle.left
    pub third : CanLink (linked (linked s b middle.right outer) k a middle.left) inner k b
    pub joins : (l r : Tree) → AreSides s k a b l r → height r ≡ height l + 2
        → (t : Tree) × Joins s (linked (linked (linked s b middle.right outer) k a middle.left) inner k b) k l r inner t

  pub right_within : (l r : Tree) → AreSides s k a b l r → height r ≡ height l + 2 → b < length s
  right_within l leaf sides high = absurd (omega (arith, high))
  right_within l (fork B x A) sides high = b_within s k a b A B l x sides high

  joins_once : height_at s inner ≤ height_at s outer → (l r : Tree) → AreSides s k a b l r → height r ≡ height l + 2
      → (t : Tree) × Joins s (linked (linked s k a inner) b k outer) k l r b t
  joins_once low l leaf sides high = absurd (omega (arith, high))
  joins_once low l (fork B x A) sides high = (fork (fork l _ B) x A, raised s k a b A B l x sides high low)

  pub once : height_at s inner ≤ height_at s outer → (l r : Tree) → AreSides s k a b l r → height r ≡ height l + 2 → Once
  once low l leaf sides high = absurd (omega (arith, high))
  once low l (fork B x A) sides high = record {
    within = can_lower s k a b A B l x sides high low;
    raise = can_raise s k a b A B l x sides high low;
    joins = joins_once low;
  }

  joins_twice : height_at s outer < height_at s inner → (l r : Tree) → AreSides s k a b l r → height r ≡ height l + 2
      → (t : Tree) × Joins s (linked (linked (linked s b middle.right outer) k a middle.left) inner k b) k l r inner t
  joins_twice low l leaf sides high = absurd (omega (arith, high))
  joins_twice low l (fork leaf x A) sides high = absurd (omega (arith, low, inner_height s k a b A leaf l x sides high))
  joins_twice low l (fork (fork B y C) x A) sides high = (fork (fork l _ B) y (fork C x A), raised_twice s k a b A B C l x y sides high low)

  pub twice : height_at s outer < height_at s inner → (l r : Tree) → AreSides s k a b l r → height r ≡ height l + 2 → Twice
  twice low l leaf sides high = absurd (omega (arith, high))
  twice low l (fork leaf x A) sides high = absurd (omega (arith, low, inner_height s k a b A leaf l x sides high))
  twice low l (fork (fork B y C) x A) sides high = record {
    inner_is = inner_within s k a b A B C l x y sides high;
    first = can_first s k a b A B C l x y sides high;
    second = can_second s k a b A B C l x y sides high;
    third = can_third s k a b A B C l x y sides high low;
    joins = joins_twice low;
  }
