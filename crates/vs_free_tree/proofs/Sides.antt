-- A node of a tree, one of whose sides was changed.
use Rattle.std.proofs.Common.{◌≡◌, ◌≢◌, ℕ, zero, suc, ◌+◌, ◌*◌, ◌^◌, ◌<◌, ◌≤◌, max, true, List, [], ◌∷◌, ◌++◌, length, refl, sym, ap, subst, ◌∙◌, arith, length-append, ◌⊎◌, inl, inr}
use Rattle.std.specs.List.{AllByRecursion}
use Rattle.std.proofs.lemmas.Bool.{cases_lt}
use Rattle.vs_free_tree.specs.declared.tree.Slot.{Slot}
use Rattle.vs_free_tree.specs.Gaps.{is_before}
use Rattle.vs_free_tree.specs.Tree.{Entry, Tree, leaf, fork, entries, height, IsBalanced, AreBefore, AreBehind, Avoid}
use Rattle.vs_free_tree.specs.Slots.{slot_at, height_at, gap_at, entry_at, root_of, slot_of, IsTreeAt, IsSameBeside, ChangeAtMost, AreSides}
use Rattle.vs_free_tree.proofs.EntryLemmas.{before_both, all_split, all_weaker, all_both, rising_cut}
use Rattle.vs_free_tree.proofs.SlotLemmas.{height_shown, HasItsGap, shown_gaps, other_number, IsAlone, alone, keep}

---- Heights

-- a balanced tree of height 2 m has 2 ^ m nodes but for one
many_nodes : (t : Tree) (m : ℕ) → IsBalanced t → 2 * m ≤ height t → 2 ^ m ≤ length (entries t) + 1
many_nodes t zero level low = omega arith
many_nodes leaf (suc m) level low = absurd (omega arith)
many_nodes (fork l e r) (suc m) level low =
    let left = many_nodes l m level.2 (omega (arith, level.0, level.1)) in
    let right = many_nodes r m level.3 (omega (arith, level.0, level.1)) in
    omega (arith, left, right, length-append (entries l) (e ∷ entries r), twice m)
  where
    twice : (n : ℕ) → 2 ^ suc n ≡ 2 ^ n + 2 ^ n
    twice n = omega arith

pub low_height : (t : Tree) → IsBalanced t → length (entries t) < 2 ^ 32 → height t < 66
low_height t level few = at_least (cases_lt (height t) 66)
  where
    at_least : (height t < 66) ⊎ (66 ≤ height t) → height t < 66
    at_least (inl l) = l
    at_least (inr h) = absurd (omega (arith, many_nodes t 33 level (omega arith)))

-- the height t of a node behind a join, where one of the two sides l and r has become u
pub record IsWithin (low high t : ℕ) : Type 0 where
  pub from : low ≤ t
  pub to : t ≤ high

pub grown_left : (l r u t : ℕ) → l ≤ r + 1 → r ≤ l + 1 → l ≤ u → u ≤ l + 1 → max u r ≤ t → t ≤ suc (max u r)
    → (u ≤ r + 1 → r ≤ u + 1 → t ≡ suc (max u r)) → IsWithin (suc (max l r)) (suc (max l r) + 1) t
grown_left l r u t a b c d low high level = elim (cases_lt (r + 1) u) [
  | inl far ↦ record { from = omega arith; to = omega arith }
  | inr near ↦ let e = level near (omega arith) in record { from = omega (arith, e); to = omega (arith, e) }
]

pub grown_right : (l r u t : ℕ) → l ≤ r + 1 → r ≤ l + 1 → r ≤ u → u ≤ r + 1 → max l u ≤ t → t ≤ suc (max l u)
    → (l ≤ u + 1 → u ≤ l + 1 → t ≡ suc (max l u)) → IsWithin (suc (max l r)) (suc (max l r) + 1) t
grown_right l r u t a b c d low high level = elim (cases_lt (l + 1) u) [
  | inl far ↦ record { from = omega arith; to = omega arith }
  | inr near ↦ let e = level (omega arith) near in record { from = omega (arith, e); to = omega (arith, e) }
]

pub shrunk_left : (l r u t : ℕ) → l ≤ r + 1 → r ≤ l + 1 → u ≤ l → l ≤ u + 1 → max u r ≤ t → t ≤ suc (max u r)
    → (u ≤ r + 1 → r ≤ u + 1 → t ≡ suc (max u r)) → IsWithin (max l r) (suc (max l r)) t
shrunk_left l r u t a b c d low high level = elim (cases_lt (u + 1) r) [
  | inl far ↦ record { from = omega arith; to = omega arith }
  | inr near ↦ let e = level (omega arith) near in record { from = omega (arith, e); to = omega (arith, e) }
]

pub shrunk_right : (l r u t : ℕ) → l ≤ r + 1 → r ≤ l + 1 → u ≤ r → r ≤ u + 1 → max l u ≤ t → t ≤ suc (max l u)
    → (l ≤ u + 1 → u ≤ l + 1 → t ≡ suc (max l u)) → IsWithin (max l r) (suc (max l r)) t
shrunk_right l r u t a b c d low high level = elim (cases_lt (u + 1) l) [
  | inl far ↦ record { from = omega arith; to = omega arith }
  | inr near ↦ let e = level near (omega arith) in record { from = omega (arith, e); to = omega (arith, e) }
]

---- What changed in two steps

pub change_then : (m n p : ℕ) (s z w : List Slot) → ChangeAtMost m s z → ChangeAtMost n z w → m + n ≤ p → ChangeAtMost p s w
change_then m n p s z w first second most = record {
  numbers = first.numbers ++ second.numbers;
  few = omega (arith, first.few, second.few, length-append first.numbers second.numbers);
  same = λ j lacks.
      let parts = all_split (λ (k : ℕ). k ≢ j) first.numbers second.numbers lacks in
      second.same j parts.1 ∙ first.same j parts.0;
}

pub unchanged : (n : ℕ) (s : List Slot) → ChangeAtMost n s s
unchanged n s = record { numbers = []; few = omega arith; same = λ j lacks. refl }

---- The node e with the sides L and R

module _ (s : List Slot) (i : ℕ) (L : Tree) (e : Entry) (R : Tree) (tree : IsTreeAt s i (fork L e R)) where
  here : slot_at s i ≡ slot_of L e R
  here = ap (slot_at s) tree.root ∙ tree.shown.1

  pub node_within : i < length s
  node_within = omega (arith, tree.root, tree.shown.0)

  pub node_gap : gap_at s i ≡ e.gap
  node_gap = ap (λ (x : Slot). let g : ℕ × ℕ = (x.units, x.at) in g) here

  pub left_tree : IsTreeAt s (slot_at s i).left L
  left_tree = record {
    fits = tree.fits;
    shown = tree.shown.2;
    root = ap (λ (x : Slot). x.left) here;
    rising = (rising_cut (entries L) e (entries R) tree.rising).front;
    balanced = tree.balanced.2;
  }

  pub right_tree : IsTreeAt s (slot_at s i).right R
  right_tree = record {
    fits = tree.fits;
    shown = tree.shown.3;
    root = ap (λ (x : Slot). x.right) here;
    rising = (rising_cut (entries L) e (entries R) tree.rising).back;
    balanced = tree.balanced.3;
  }

  pub lower_left_side : height_at s (slot_at s i).left < height_at s i
  lower_left_side =
      let own : height_at s i ≡ height (fork L e R) = ap (λ (x : Slot). x.height) here in
      omega (arith, own, ap (height_at s) left_tree.root, height_shown s L tree.fits tree.shown.2)

  pub lower_right_side : height_at s (slot_at s i).right < height_at s i
  lower_right_side =
      let own : height_at s i ≡ height (fork L e R) = ap (λ (x : Slot). x.height) here in
      omega (arith, own, ap (height_at s) right_tree.root, height_shown s R tree.fits tree.shown.3)

  pub all_before : AreBefore (entries L) e.gap
  all_before = (rising_cut (entries L) e (entries R) tree.rising).before

  pub all_behind : AreBehind (entries R) e.gap
  all_behind = (rising_cut (entries L) e (entries R) tree.rising).behind

  node_alone : IsAlone (entries L) e (entries R)
  node_alone = alone s (entries L) e (entries R) tree.rising (shown_gaps s (fork L e R) tree.shown)

  -- the numbers of the node and of its right side are none of the left side's
  pub right_apart : AllByRecursion (λ x. Avoid (entries L) x.number) (e ∷ entries R)
  right_apart = (
    node_alone.front,
    all_both (HasItsGap s) (λ x. is_before e.gap x.gap ≡ true) (λ x. Avoid (entries L) x.number)
        (λ x own behind.
        other_number s (λ g. is_before g e.gap) (entries L) x.number (shown_gaps s L tree.shown.2) all_before
        (ap (λ g. is_before g e.gap) own ∙ before_both e.gap x.gap behind))
        (entries R) (shown_gaps s R tree.shown.3) all_behind,
  )

  pub left_apart : AllByRecursion (λ x. Avoid (entries R) x.number) (e ∷ entries L)
  left_apart = (
    node_alone.back,
    all_both (HasItsGap s) (λ x. is_before x.gap e.gap ≡ true) (λ x. Avoid (entries R) x.number)
        (λ x own before.
        other_number s (λ g. is_before e.gap g) (entries R) x.number (shown_gaps s R tree.shown.3) all_behind
        (ap (λ g. is_before e.gap g) own ∙ before_both x.gap e.gap before))
        (entries L) (shown_gaps s L tree.shown.2) all_before,
  )

  module _ (z : List Slot) (j : ℕ) (u : Tree) (new : IsTreeAt z j u) (long : length z ≡ length s) (same : IsSameBeside (entries u) s z) (low : height u < 254) where
    stays : (t : Tree) → IsTreeAt s (root_of t) t → AllByRecursion (λ x. Avoid (entries u) x.number) (entries t) → IsTreeAt z (root_of t) t
    stays t old apart = record {
      fits = omega (arith, long, old.fits);
      shown =
          keep s z t old.shown long
          (all_weaker (λ (x : Entry). Avoid (entries u) x.number) (λ (x : Entry). slot_at z x.number ≡ slot_at s x.number) (λ x lacks. same x.number lacks) (entries t) apart);
      root = refl;
      rising = old.rising;
      balanced = old.balanced;
    }

    pub entry_stays : Avoid (entries u) e.number → entry_at z i ≡ e
    entry_stays lacks =
        let slots : slot_at z i ≡ slot_of L e R = same i (subst (Avoid (entries u)) (sym tree.root) lacks) ∙ here in
        same_parts (entry_at z i) e tree.root (ap (λ (x : Slot). let g : ℕ × ℕ = (x.units, x.at) in g) slots)
      where
        same_parts : (x y : Entry) → x.number ≡ y.number → x.gap ≡ y.gap → x ≡ y
        same_parts x y p q i = record { number = p i; gap = q i }

    pub left_sides : AreBefore (entries u) e.gap → AllByRecursion (λ x. Avoid (entries u) x.number) (e ∷ entries R) → height R < 254
        → AreSides z i j (slot_at s i).right u R
    left_sides before apart right_low =
        let own = ap (λ (x : Entry). x.gap) (entry_stays apart.0) in
        record {
          within = omega (arith, node_within, long);
          left = new;
          right =
              subst (λ n. IsTreeAt z n R) (sym right_tree.root) (stays R (subst (λ n. IsTreeAt s n R) right_tree.root right_tree) apart.1);
          before = subst (AreBefore (entries u)) (sym own) before;
          behind = subst (AreBehind (entries R)) (sym own) all_behind;
          left_low = low;
          right_low = right_low;
        }

    pub right_sides : AreBehind (entries u) e.gap → AllByRecursion (λ x. Avoid (entries u) x.number) (e ∷ entries L) → height L < 254
        → AreSides z i (slot_at s i).left j L u
    right_sides behind apart left_low =
        let own = ap (λ (x : Entry). x.gap) (entry_stays apart.0) in
        record {
          within = omega (arith, node_within, long);
          left = subst (λ n. IsTreeAt z n L) (sym left_tree.root) (stays L (subst (λ n. IsTreeAt s n L) left_tree.root left_tree) apart.1);
          right = new;
          before = subst (AreBefore (entries L)) (sym own) all_before;
          behind = subst (AreBehind (entries u)) (sym own) behind;
          left_low = left_low;
          right_low = low;
        }
