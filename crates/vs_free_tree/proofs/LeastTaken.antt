-- What `take_least` owes at each of its steps.
use Rattle.std.proofs.Common.{◌≡◌, ◌≢◌, ℕ, suc, ◌+◌, ◌*◌, ◌<◌, max, List, ◌∷◌, ◌++◌, length, refl, sym, ap, subst, ◌∙◌, arith, length-append}
use Rattle.std.specs.List.{AllByRecursion}
use Rattle.vs_free_tree.specs.declared.tree.Slot.{Slot}
use Rattle.vs_free_tree.specs.declared.removal.Taken.{Taken}
use Rattle.vs_free_tree.specs.declared.tree.TheConstants.{NONE}
use Rattle.vs_free_tree.specs.Tree.{Entry, Tree, leaf, fork, entries, height, AreBefore, Avoid}
use Rattle.vs_free_tree.specs.Slots.{slot_at, height_at, entry_at, IsTreeAt, AreSides, CanJoin, IsJoined, Joins, IsFewTreeAt, TakesLeast, CanTakeLeast, IsLeastTaken}
use Rattle.vs_free_tree.proofs.EntryLemmas.{all_split, all_weaker}
use Rattle.vs_free_tree.proofs.Sides.{IsWithin, shrunk_left, low_height, change_then, unchanged, left_tree, right_tree, lower_left_side, all_before, right_apart, entry_stays, left_sides}

module _ (s : List Slot) (i : ℕ) (L : Tree) (e : Entry) (R : Tree) (few : IsFewTreeAt s i (fork L e R)) where
  tree : IsTreeAt s i (fork L e R)
  tree = few.tree

  longer : length (entries (fork L e R)) ≡ length (entries L) + suc (length (entries R))
  longer = length-append (entries L) (e ∷ entries R)

  pub few_left : IsFewTreeAt s (slot_at s i).left L
  few_left = record { tree = left_tree s i L e R tree; few = omega (arith, longer, few.few) }

  pub few_right : IsFewTreeAt s (slot_at s i).right R
  few_right = record { tree = right_tree s i L e R tree; few = omega (arith, longer, few.few) }

  module _ (z : List Slot) (x : Taken) (u : Tree) (taken : TakesLeast s z L x u) where
    apart : AllByRecursion (λ y. Avoid (entries u) y.number) (e ∷ entries R)
    apart =
        all_weaker (λ (y : Entry). Avoid (entries L) y.number) (λ (y : Entry). Avoid (entries u) y.number) (λ y lacks. (subst (λ es. Avoid es y.number) taken.was lacks).1)
        (e ∷ entries R) (right_apart s i L e R tree)

    before : AreBefore (entries u) e.gap
    before = (subst (λ es. AreBefore es e.gap) taken.was (all_before s i L e R tree)).1

    low : height u < 254
    low = omega (arith, taken.not_higher, low_height L tree.balanced.2 few_left.few)

    sides : AreSides z i x.root (slot_at s i).right u R
    sides = left_sides s i L e R tree z x.root u taken.tree taken.long taken.beside low before apart (omega (arith, low_height R tree.balanced.3 few_right.few))

    pub can_join : CanJoin z i x.root (slot_at s i).right
    can_join = record {
      l = u;
      r = R;
      sides = sides;
      left_near = omega (arith, taken.not_higher, tree.balanced.0);
      right_near = omega (arith, taken.one_lower, tree.balanced.1);
    }

    module _ (w : List Slot) (m : ℕ) (t : Tree) (join : Joins z w i u R m t) where
      heights : IsWithin (max (height L) (height R)) (suc (max (height L) (height R))) (height t)
      heights =
          shrunk_left (height L) (height R) (height u) (height t) tree.balanced.0 tree.balanced.1 taken.not_higher taken.one_lower join.not_lower join.one_higher join.level

      taken_least : TakesLeast s w (fork L e R) (record { root = m; node = x.node }) t
      taken_least = record {
        tree = join.tree;
        long = join.long ∙ taken.long;
        least = taken.least;
        number = taken.number;
        was =
            ap (λ (es : List Entry). es ++ e ∷ entries R) taken.was
            ∙ ap (λ (y : Entry). taken.least ∷ (entries u ++ y ∷ entries R)) (sym (entry_stays s i L e R tree z x.root u taken.tree taken.long taken.beside low apart.0))
            ∙ ap (λ (es : List Entry). taken.least ∷ es) (sym join.holds);
        not_higher = heights.to;
        one_lower = omega (arith, heights.from);
        beside = λ n lacks.
            join.beside n lacks
            ∙ taken.beside n (all_split (λ (y : Entry). y.number ≢ n) (entries u) (entry_at z i ∷ entries R) (subst (λ es. Avoid es n) join.holds lacks)).0;
        few = change_then (3 * height L) 3 (3 * height (fork L e R)) s z w taken.few join.few (omega arith);
      }

    pub joined_least : (w : List Slot) (m : ℕ) → IsJoined z w i x.root (slot_at s i).right m → (t : Tree) × TakesLeast s w (fork L e R) (record { root = m; node = x.node }) t
    joined_least w m join =
        let all = join u R sides (omega (arith, taken.not_higher, tree.balanced.0)) (omega (arith, taken.one_lower, tree.balanced.1)) in
        (all.0, taken_least w m all.0 all.1)

---- Where the left side is empty, or not

-- the left side of the least node is empty
pub least_itself : (s : List Slot) (i : ℕ) → (slot_at s i).left ≡ NONE → IsLeastTaken s s i (record { root = (slot_at s i).right; node = i })
least_itself s i none leaf e R few = (
  R,
  record {
    tree = (few_right s i leaf e R few).tree;
    long = refl;
    least = e;
    number = sym few.tree.root;
    was = refl;
    not_higher = omega arith;
    one_lower = omega arith;
    beside = λ j lacks. refl;
    few = unchanged (3 * height (fork leaf e R)) s;
  },
)
least_itself s i none (fork A x B) e R few =
    let left = (few_left s i (fork A x B) e R few).tree in
    absurd (omega (arith, none, left.root, left.shown.0, left.fits))

module _ (s : List Slot) (i : ℕ) (some : (slot_at s i).left ≢ NONE) where
  left_of : (L : Tree) (e : Entry) (R : Tree) → IsFewTreeAt s i (fork L e R) → CanTakeLeast s (slot_at s i).left
  left_of leaf e R few = absurd (some (few_left s i leaf e R few).tree.root)
  left_of (fork A x B) e R few = record { l = A; e = x; r = B; few_tree = few_left s i (fork A x B) e R few }

  pub can_take_left : CanTakeLeast s i → CanTakeLeast s (slot_at s i).left
  can_take_left can = left_of can.l can.e can.r can.few_tree

  pub left_lower : CanTakeLeast s i → height_at s (slot_at s i).left < height_at s i
  left_lower can = lower_left_side s i can.l can.e can.r can.few_tree.tree

  module _ (z : List Slot) (x : Taken) (taken : IsLeastTaken s z (slot_at s i).left x) where
    join_of : (L : Tree) (e : Entry) (R : Tree) → IsFewTreeAt s i (fork L e R) → CanJoin z i x.root (slot_at s i).right
    join_of leaf e R few = absurd (some (few_left s i leaf e R few).tree.root)
    join_of (fork A y B) e R few =
        let rest = taken A y B (few_left s i (fork A y B) e R few) in
        can_join s i (fork A y B) e R few z x rest.0 rest.1

    pub can_join_of : CanTakeLeast s i → CanJoin z i x.root (slot_at s i).right
    can_join_of can = join_of can.l can.e can.r can.few_tree

    pub taken_of : (w : List Slot) (m : ℕ) → IsJoined z w i x.root (slot_at s i).right m → IsLeastTaken s w i (record { root = m; node = x.node })
    taken_of w m join leaf e R few = absurd (some (few_left s i leaf e R few).tree.root)
    taken_of w m join (fork A y B) e R few =
        let rest = taken A y B (few_left s i (fork A y B) e R few) in
        joined_least s i (fork A y B) e R few z x rest.0 rest.1 w m join
