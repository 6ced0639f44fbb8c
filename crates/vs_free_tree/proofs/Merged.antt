-- What `merge` owes at each of its steps.
use Rattle.std.proofs.Common.{◌≡◌, ◌≢◌, ℕ, suc, ◌*◌, ◌^◌, ◌<◌, max, true, List, ◌∷◌, ◌++◌, length, refl, sym, ap, subst, ◌∙◌, arith}
use Rattle.std.specs.List.{AllByRecursion}
use Rattle.std.proofs.lemmas.List.{append-nil}
use Rattle.vs_free_tree.specs.declared.tree.Slot.{Slot}
use Rattle.vs_free_tree.specs.declared.removal.Taken.{Taken}
use Rattle.vs_free_tree.specs.declared.tree.TheConstants.{NONE}
use Rattle.vs_free_tree.specs.Gaps.{is_before}
use Rattle.vs_free_tree.specs.Tree.{Entry, Tree, leaf, fork, entries, height, AreBefore, AreBehind, AreRising, Avoid}
use Rattle.vs_free_tree.specs.Slots.{slot_at, gap_at, entry_at, IsTreeAt, AreSides, CanJoin, IsJoined, Joins, IsFewTreeAt, TakesLeast, CanTakeLeast, IsLeastTaken, AreMergeable, Merges, CanMerge, IsMerged}
use Rattle.vs_free_tree.proofs.EntryLemmas.{before_both, all_split, all_join, all_weaker, all_both, IsCutAt, rising_cut}
use Rattle.vs_free_tree.proofs.SlotLemmas.{HasItsGap, shown_gaps, shown_within, other_number, IsAlone, alone, keep}
use Rattle.vs_free_tree.proofs.Sides.{IsWithin, shrunk_right, low_height, change_then, unchanged}

module _ (s : List Slot) (a b : ℕ) (l r : Tree) (m : AreMergeable s a b l r) where
  few_left : length (entries l) < 2 ^ 32
  few_left = omega (arith, m.few)

  pub few_right : IsFewTreeAt s b r
  few_right = record { tree = m.right; few = omega (arith, m.few) }

  module _ (z : List Slot) (x : Taken) (u : Tree) (taken : TakesLeast s z r x u) where
    abbrev E : Entry
    E = taken.least

    rising : AreRising (entries l ++ E ∷ entries u)
    rising = subst (λ es. AreRising (entries l ++ es)) taken.was m.rising

    cut : IsCutAt (entries l) E (entries u)
    cut = rising_cut (entries l) E (entries u) rising

    gaps : AllByRecursion (HasItsGap s) (E ∷ entries u)
    gaps = subst (AllByRecursion (HasItsGap s)) taken.was (shown_gaps s r m.right.shown)

    middle_alone : IsAlone (entries l) E (entries u)
    middle_alone = alone s (entries l) E (entries u) rising (all_join (HasItsGap s) (entries l) (E ∷ entries u) (shown_gaps s l m.left.shown) gaps)

    -- the node that was taken, and the left tree, are as they were
    apart : AllByRecursion (λ y. Avoid (entries u) y.number) (entries l)
    apart =
        all_both (HasItsGap s) (λ (y : Entry). is_before y.gap E.gap ≡ true) (λ (y : Entry). Avoid (entries u) y.number)
        (λ y own before.
        other_number s (λ g. is_before E.gap g) (entries u) y.number gaps.1 cut.behind (ap (λ g. is_before E.gap g) own ∙ before_both y.gap E.gap before))
        (entries l) (shown_gaps s l m.left.shown) cut.before

    own : entry_at z x.node ≡ E
    own =
        let slots = taken.beside E.number middle_alone.back in
        ap (entry_at z) (sym taken.number) ∙ ap (λ (v : Slot). let e : Entry = record { number = E.number; gap = (v.units, v.at) } in e) slots
        ∙ ap (λ (g : ℕ × ℕ). let e : Entry = record { number = E.number; gap = g } in e) gaps.0

    own_gap : gap_at z x.node ≡ E.gap
    own_gap = ap (λ (e : Entry). e.gap) own

    within : x.node < length z
    within =
        let inside = (subst (AllByRecursion (λ (y : Entry). y.number < length s)) taken.was (shown_within s r m.right.shown)).0 in
        omega (arith, inside, taken.number, taken.long)

    left_stays : IsTreeAt z a l
    left_stays = record {
      fits = omega (arith, taken.long, m.left.fits);
      shown =
          keep s z l m.left.shown taken.long
          (all_weaker (λ (y : Entry). Avoid (entries u) y.number) (λ (y : Entry). slot_at z y.number ≡ slot_at s y.number) (λ y lacks. taken.beside y.number lacks) (entries l) apart);
      root = m.left.root;
      rising = m.left.rising;
      balanced = m.left.balanced;
    }

    sides : AreSides z x.node a x.root l u
    sides = record {
      within = within;
      left = left_stays;
      right = taken.tree;
      before = subst (AreBefore (entries l)) (sym own_gap) cut.before;
      behind = subst (AreBehind (entries u)) (sym own_gap) cut.behind;
      left_low = omega (arith, low_height l m.left.balanced few_left);
      right_low = omega (arith, taken.not_higher, low_height r m.right.balanced few_right.few);
    }

    pub can_join : CanJoin z x.node a x.root
    can_join = record {
      l = l;
      r = u;
      sides = sides;
      left_near = omega (arith, m.left_near, taken.one_lower);
      right_near = omega (arith, m.right_near, taken.not_higher);
    }

    module _ (w : List Slot) (i : ℕ) (t : Tree) (join : Joins z w x.node l u i t) where
      holds : entries t ≡ entries l ++ entries r
      holds = join.holds ∙ ap (λ (e : Entry). entries l ++ e ∷ entries u) own ∙ ap (λ (es : List Entry). entries l ++ es) (sym taken.was)

      heights : IsWithin (max (height l) (height r)) (suc (max (height l) (height r))) (height t)
      heights =
          shrunk_right (height l) (height r) (height u) (height t) m.left_near m.right_near taken.not_higher taken.one_lower join.not_lower join.one_higher join.level

      merged : Merges s w l r i t
      merged = record {
        tree = join.tree;
        long = join.long ∙ taken.long;
        holds = holds;
        not_lower = heights.from;
        one_higher = heights.to;
        beside = λ n lacks.
            join.beside n lacks
            ∙ taken.beside n (all_split (λ (y : Entry). y.number ≢ n) (entries l) (entry_at z x.node ∷ entries u) (subst (λ es. Avoid es n) join.holds lacks)).1.1;
        few = change_then (3 * height r) 3 (3 * suc (max (height l) (height r))) s z w taken.few join.few (omega arith);
      }

    pub joined_merge : (w : List Slot) (i : ℕ) → IsJoined z w x.node a x.root i → (t : Tree) × Merges s w l r i t
    joined_merge w i join =
        let all = join l u sides (omega (arith, m.left_near, taken.one_lower)) (omega (arith, m.right_near, taken.not_higher)) in
        (all.0, merged w i all.0 all.1)

---- Where the right tree is empty, or not

pub merged_left : (s : List Slot) (a b : ℕ) → b ≡ NONE → IsMerged s s a b a
merged_left s a b none l leaf m = (
  l,
  record {
    tree = m.left;
    long = refl;
    holds = sym (append-nil (entries l));
    not_lower = omega arith;
    one_higher = omega arith;
    beside = λ j lacks. refl;
    few = unchanged (3 * suc (max (height l) 0)) s;
  },
)
merged_left s a b none l (fork A x B) m = absurd (omega (arith, none, m.right.root, m.right.shown.0, m.right.fits))

module _ (s : List Slot) (a b : ℕ) (some : b ≢ NONE) where
  least_of : (l r : Tree) → AreMergeable s a b l r → CanTakeLeast s b
  least_of l leaf m = absurd (some m.right.root)
  least_of l (fork A x B) m = record { l = A; e = x; r = B; few_tree = few_right s a b l (fork A x B) m }

  pub can_take_least : CanMerge s a b → CanTakeLeast s b
  can_take_least can = least_of can.l can.r can.mergeable

  module _ (z : List Slot) (x : Taken) (taken : IsLeastTaken s z b x) where
    join_of : (l r : Tree) → AreMergeable s a b l r → CanJoin z x.node a x.root
    join_of l leaf m = absurd (some m.right.root)
    join_of l (fork A y B) m =
        let rest = taken A y B (few_right s a b l (fork A y B) m) in
        can_join s a b l (fork A y B) m z x rest.0 rest.1

    pub can_join_of : CanMerge s a b → CanJoin z x.node a x.root
    can_join_of can = join_of can.l can.r can.mergeable

    pub merged_of : (w : List Slot) (i : ℕ) → IsJoined z w x.node a x.root i → IsMerged s w a b i
    merged_of w i join l leaf m = absurd (some m.right.root)
    merged_of w i join l (fork A y B) m =
        let rest = taken A y B (few_right s a b l (fork A y B) m) in
        joined_merge s a b l (fork A y B) m z x rest.0 rest.1 w i join
