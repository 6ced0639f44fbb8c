-- What `take_out` owes at each of its steps.
use Rattle.std.proofs.Common.{◌≡◌, ◌≢◌, ℕ, suc, ◌*◌, ◌<◌, max, true, false, List, ◌∷◌, ◌++◌, length, Some, None, refl, sym, ap, subst, ◌∙◌, arith, true≢false, length-append, append_assoc}
use Rattle.std.specs.List.{AllByRecursion}
use Rattle.vs_free_tree.specs.declared.tree.Slot.{Slot}
use Rattle.vs_free_tree.specs.declared.removal.Taken.{Taken}
use Rattle.vs_free_tree.specs.declared.tree.TheConstants.{NONE}
use Rattle.vs_free_tree.specs.Gaps.{is_before}
use Rattle.vs_free_tree.specs.Tree.{Entry, Tree, leaf, fork, entries, height, AreBefore, AreBehind, Avoid, Lack}
use Rattle.vs_free_tree.specs.Slots.{slot_at, height_at, gap_at, entry_at, IsTreeAt, AreSides, CanJoin, IsJoined, Joins, IsFewTreeAt, AreMergeable, Merges, CanMerge, IsMerged, TakesOut, CanTakeOut, IsTakenOut}
use Rattle.vs_free_tree.proofs.EntryLemmas.{before_itself, before_along, same_gap, all_split, all_join, all_weaker, all_drop, rising_drop}
use Rattle.vs_free_tree.proofs.Sides.{IsWithin, shrunk_left, shrunk_right, low_height, change_then, node_within, node_gap, left_tree, right_tree, lower_left_side, lower_right_side, all_before, all_behind, right_apart, left_apart, entry_stays, left_sides, right_sides}
use Rattle.vs_free_tree.proofs.LeastTaken.{few_left, few_right}

-- nodes in front of one behind g, or behind one in front of it, have another gap
lack_behind : (es : List Entry) (g h : ℕ × ℕ) → is_before g h ≡ true → AreBehind es h → Lack es g
lack_behind es g h e behind =
    all_weaker (λ (x : Entry). is_before h x.gap ≡ true) (λ (x : Entry). x.gap ≢ g)
    (λ x b same. true≢false (sym (before_along g h x.gap e b) ∙ ap (is_before g) same ∙ before_itself g)) es behind

lack_before : (es : List Entry) (g h : ℕ × ℕ) → is_before h g ≡ true → AreBefore es h → Lack es g
lack_before es g h e before =
    all_weaker (λ (x : Entry). is_before x.gap h ≡ true) (λ (x : Entry). x.gap ≢ g)
    (λ x b same. true≢false (sym (before_along x.gap h g b e) ∙ ap (λ y. is_before y g) same ∙ before_itself g)) es before

other_before : (g h : ℕ × ℕ) → is_before g h ≡ true → h ≢ g
other_before g h e same = true≢false (sym e ∙ ap (is_before g) same ∙ before_itself g)

other_behind : (g h : ℕ × ℕ) → is_before h g ≡ true → h ≢ g
other_behind g h e same = true≢false (sym e ∙ ap (λ y. is_before y g) same ∙ before_itself g)

module _ (s : List Slot) (i : ℕ) (g : ℕ × ℕ) (L : Tree) (e : Entry) (R : Tree) (few : IsFewTreeAt s i (fork L e R)) where
  tree : IsTreeAt s i (fork L e R)
  tree = few.tree

  own : gap_at s i ≡ e.gap
  own = node_gap s i L e R tree

  lower : height L < 254
  lower = omega (arith, low_height L tree.balanced.2 (few_left s i L e R few).few)

  lower_right : height R < 254
  lower_right = omega (arith, low_height R tree.balanced.3 (few_right s i L e R few).few)

  pub lacks_left : is_before g (gap_at s i) ≡ true → Lack (entries L) g → Lack (entries (fork L e R)) g
  lacks_left smaller none =
      let here = sym (ap (is_before g) own) ∙ smaller in
      all_join (λ (x : Entry). x.gap ≢ g) (entries L) (e ∷ entries R) none (other_before g e.gap here, lack_behind (entries R) g e.gap here (all_behind s i L e R tree))

  pub lacks_right : is_before (gap_at s i) g ≡ true → Lack (entries R) g → Lack (entries (fork L e R)) g
  lacks_right larger none =
      let here = sym (ap (λ h. is_before h g) own) ∙ larger in
      all_join (λ (x : Entry). x.gap ≢ g) (entries L) (e ∷ entries R) (lack_before (entries L) g e.gap here (all_before s i L e R tree)) (other_behind g e.gap here, none)

  module _ (z : List Slot) (x : Taken) (u : Tree) where
    abbrev X : Entry
    X = record { number = x.node; gap = g }

    module _ (out : TakesOut s z g L x u) where
      apart : AllByRecursion (λ y. Avoid (entries u) y.number) (e ∷ entries R)
      apart =
          all_weaker (λ (y : Entry). Avoid (entries L) y.number) (λ (y : Entry). Avoid (entries u) y.number)
          (λ y lacks.
          subst (λ es. Avoid es y.number) (sym out.holds)
          (all_drop (λ (n : Entry). n.number ≢ y.number) out.front X out.back (subst (λ es. Avoid es y.number) out.was lacks)))
          (e ∷ entries R) (right_apart s i L e R tree)

      before : AreBefore (entries u) e.gap
      before =
          subst (λ es. AreBefore es e.gap) (sym out.holds)
          (all_drop (λ (n : Entry). is_before n.gap e.gap ≡ true) out.front X out.back (subst (λ es. AreBefore es e.gap) out.was (all_before s i L e R tree)))

      low : height u < 254
      low = omega (arith, out.not_higher, low_height L tree.balanced.2 (few_left s i L e R few).few)

      sides_left : AreSides z i x.root (slot_at s i).right u R
      sides_left = left_sides s i L e R tree z x.root u out.tree out.long out.beside low before apart lower_right

      pub can_join_left : CanJoin z i x.root (slot_at s i).right
      can_join_left = record {
        l = u;
        r = R;
        sides = sides_left;
        left_near = omega (arith, out.not_higher, tree.balanced.0);
        right_near = omega (arith, out.one_lower, tree.balanced.1);
      }

      module _ (w : List Slot) (m : ℕ) (t : Tree) (join : Joins z w i u R m t) where
        heights_left : IsWithin (max (height L) (height R)) (suc (max (height L) (height R))) (height t)
        heights_left =
            shrunk_left (height L) (height R) (height u) (height t) tree.balanced.0 tree.balanced.1 out.not_higher out.one_lower join.not_lower join.one_higher join.level

        taken_left : TakesOut s w g (fork L e R) (record { root = m; node = x.node }) t
        taken_left = record {
          tree = join.tree;
          long = join.long ∙ out.long;
          front = out.front;
          back = out.back ++ e ∷ entries R;
          was = ap (λ (es : List Entry). es ++ e ∷ entries R) out.was ∙ append_assoc out.front (X ∷ out.back) (e ∷ entries R);
          holds =
              join.holds
              ∙ ap (λ (y : Entry). entries u ++ y ∷ entries R) (entry_stays s i L e R tree z x.root u out.tree out.long out.beside low apart.0)
              ∙ ap (λ (es : List Entry). es ++ e ∷ entries R) out.holds
              ∙ append_assoc out.front out.back (e ∷ entries R);
          not_higher = heights_left.to;
          one_lower = omega (arith, heights_left.from);
          beside = λ n lacks.
              join.beside n lacks
              ∙ out.beside n (all_split (λ (y : Entry). y.number ≢ n) (entries u) (entry_at z i ∷ entries R) (subst (λ es. Avoid es n) join.holds lacks)).0;
          few = change_then (3 * height L) 3 (3 * height (fork L e R)) s z w out.few join.few (omega arith);
        }

      pub joined_left : (w : List Slot) (m : ℕ) → IsJoined z w i x.root (slot_at s i).right m → (t : Tree) × TakesOut s w g (fork L e R) (record { root = m; node = x.node }) t
      joined_left w m join =
          let all = join u R sides_left (omega (arith, out.not_higher, tree.balanced.0)) (omega (arith, out.one_lower, tree.balanced.1)) in
          (all.0, taken_left w m all.0 all.1)

    module _ (out : TakesOut s z g R x u) where
      apart_right : AllByRecursion (λ y. Avoid (entries u) y.number) (e ∷ entries L)
      apart_right =
          all_weaker (λ (y : Entry). Avoid (entries R) y.number) (λ (y : Entry). Avoid (entries u) y.number)
          (λ y lacks.
          subst (λ es. Avoid es y.number) (sym out.holds)
          (all_drop (λ (n : Entry). n.number ≢ y.number) out.front X out.back (subst (λ es. Avoid es y.number) out.was lacks)))
          (e ∷ entries L) (left_apart s i L e R tree)

      behind : AreBehind (entries u) e.gap
      behind =
          subst (λ es. AreBehind es e.gap) (sym out.holds)
          (all_drop (λ (n : Entry). is_before e.gap n.gap ≡ true) out.front X out.back (subst (λ es. AreBehind es e.gap) out.was (all_behind s i L e R tree)))

      low_right : height u < 254
      low_right = omega (arith, out.not_higher, low_height R tree.balanced.3 (few_right s i L e R few).few)

      sides_right : AreSides z i (slot_at s i).left x.root L u
      sides_right = right_sides s i L e R tree z x.root u out.tree out.long out.beside low_right behind apart_right lower

      pub can_join_right : CanJoin z i (slot_at s i).left x.root
      can_join_right = record {
        l = L;
        r = u;
        sides = sides_right;
        left_near = omega (arith, out.one_lower, tree.balanced.0);
        right_near = omega (arith, out.not_higher, tree.balanced.1);
      }

      module _ (w : List Slot) (m : ℕ) (t : Tree) (join : Joins z w i L u m t) where
        heights_right : IsWithin (max (height L) (height R)) (suc (max (height L) (height R))) (height t)
        heights_right =
            shrunk_right (height L) (height R) (height u) (height t) tree.balanced.0 tree.balanced.1 out.not_higher out.one_lower join.not_lower join.one_higher join.level

        taken_right : TakesOut s w g (fork L e R) (record { root = m; node = x.node }) t
        taken_right = record {
          tree = join.tree;
          long = join.long ∙ out.long;
          front = entries L ++ e ∷ out.front;
          back = out.back;
          was = ap (λ (es : List Entry). entries L ++ e ∷ es) out.was ∙ sym (append_assoc (entries L) (e ∷ out.front) (X ∷ out.back));
          holds =
              join.holds
              ∙ ap (λ (y : Entry). entries L ++ y ∷ entries u) (entry_stays s i L e R tree z x.root u out.tree out.long out.beside low_right apart_right.0)
              ∙ ap (λ (es : List Entry). entries L ++ e ∷ es) out.holds
              ∙ sym (append_assoc (entries L) (e ∷ out.front) out.back);
          not_higher = heights_right.to;
          one_lower = omega (arith, heights_right.from);
          beside = λ n lacks.
              join.beside n lacks
              ∙ out.beside n (all_split (λ (y : Entry). y.number ≢ n) (entries L) (entry_at z i ∷ entries u) (subst (λ es. Avoid es n) join.holds lacks)).1.1;
          few = change_then (3 * height R) 3 (3 * height (fork L e R)) s z w out.few join.few (omega arith);
        }

      pub joined_right : (w : List Slot) (m : ℕ) → IsJoined z w i (slot_at s i).left x.root m → (t : Tree) × TakesOut s w g (fork L e R) (record { root = m; node = x.node }) t
      joined_right w m join =
          let all = join L u sides_right (omega (arith, out.one_lower, tree.balanced.0)) (omega (arith, out.not_higher, tree.balanced.1)) in
          (all.0, taken_right w m all.0 all.1)

  pub mergeable : AreMergeable s (slot_at s i).left (slot_at s i).right L R
  mergeable = record {
    left = left_tree s i L e R tree;
    right = right_tree s i L e R tree;
    few = omega (arith, few.few, length-append (entries L) (e ∷ entries R));
    rising = rising_drop (entries L) e (entries R) tree.rising;
    left_near = tree.balanced.0;
    right_near = tree.balanced.1;
  }

  module _ (z : List Slot) (m : ℕ) (u : Tree) (merge : Merges s z L R m u) (here : gap_at s i ≡ g) where
    same_entry : e ≡ record { number = i; gap = g }
    same_entry = same_parts e (record { number = i; gap = g }) (sym tree.root) (sym own ∙ here)
      where
        same_parts : (x y : Entry) → x.number ≡ y.number → x.gap ≡ y.gap → x ≡ y
        same_parts x y p q j = record { number = p j; gap = q j }

    pub taken_itself : TakesOut s z g (fork L e R) (record { root = m; node = i }) u
    taken_itself = record {
      tree = merge.tree;
      long = merge.long;
      front = entries L;
      back = entries R;
      was = ap (λ (y : Entry). entries L ++ y ∷ entries R) same_entry;
      holds = merge.holds;
      not_higher = merge.one_higher;
      one_lower = omega (arith, merge.not_lower);
      beside = merge.beside;
      few = merge.few;
    }

---- For any tree with a node

pub taken_none : (s : List Slot) (i : ℕ) (g : ℕ × ℕ) → i ≡ NONE → IsTakenOut s s i g None
taken_none s i g none leaf few = (tt, refl)
taken_none s i g none (fork L e R) few = absurd (omega (arith, none, few.tree.root, few.tree.shown.0, few.tree.fits))

module _ (s : List Slot) (i : ℕ) (g : ℕ × ℕ) (some : i ≢ NONE) where
  pub within_of : CanTakeOut s i → i < length s
  within_of (leaf, few) = absurd (some few.tree.root)
  within_of (fork L e R, few) = node_within s i L e R few.tree

  pub left_of : CanTakeOut s i → CanTakeOut s (slot_at s i).left
  left_of (leaf, few) = absurd (some few.tree.root)
  left_of (fork L e R, few) = (L, few_left s i L e R few)

  pub right_of : CanTakeOut s i → CanTakeOut s (slot_at s i).right
  right_of (leaf, few) = absurd (some few.tree.root)
  right_of (fork L e R, few) = (R, few_right s i L e R few)

  pub left_lower : CanTakeOut s i → height_at s (slot_at s i).left < height_at s i
  left_lower (leaf, few) = absurd (some few.tree.root)
  left_lower (fork L e R, few) = lower_left_side s i L e R few.tree

  pub right_lower : CanTakeOut s i → height_at s (slot_at s i).right < height_at s i
  right_lower (leaf, few) = absurd (some few.tree.root)
  right_lower (fork L e R, few) = lower_right_side s i L e R few.tree

  pub can_merge : CanTakeOut s i → CanMerge s (slot_at s i).left (slot_at s i).right
  can_merge (leaf, few) = absurd (some few.tree.root)
  can_merge (fork L e R, few) = record { l = L; r = R; mergeable = mergeable s i g L e R few }

  pub merged_of : (z : List Slot) (m : ℕ) → is_before g (gap_at s i) ≡ false → is_before (gap_at s i) g ≡ false → IsMerged s z (slot_at s i).left (slot_at s i).right m
      → IsTakenOut s z i g (Some (record { root = m; node = i }))
  merged_of z m smaller larger merge leaf few = absurd (some few.tree.root)
  merged_of z m smaller larger merge (fork L e R) few =
      let all = merge L R (mergeable s i g L e R few) in
      (all.0, taken_itself s i g L e R few z m all.0 all.1 (same_gap (gap_at s i) g larger smaller))

  module _ (z : List Slot) where
    pub lacks_left_of : is_before g (gap_at s i) ≡ true → IsTakenOut s z (slot_at s i).left g None → IsTakenOut s z i g None
    lacks_left_of smaller out leaf few = absurd (some few.tree.root)
    lacks_left_of smaller out (fork L e R) few = let none = out L (few_left s i L e R few) in (lacks_left s i g L e R few smaller none.0, none.1)

    pub lacks_right_of : is_before (gap_at s i) g ≡ true → IsTakenOut s z (slot_at s i).right g None → IsTakenOut s z i g None
    lacks_right_of larger out leaf few = absurd (some few.tree.root)
    lacks_right_of larger out (fork L e R) few = let none = out R (few_right s i L e R few) in (lacks_right s i g L e R few larger none.0, none.1)

    module _ (x : Taken) where
      pub join_left_of : IsTakenOut s z (slot_at s i).left g (Some x) → CanTakeOut s i → CanJoin z i x.root (slot_at s i).right
      join_left_of out (leaf, few) = absurd (some few.tree.root)
      join_left_of out (fork L e R, few) = let rest = out L (few_left s i L e R few) in can_join_left s i g L e R few z x rest.0 rest.1

      pub join_right_of : IsTakenOut s z (slot_at s i).right g (Some x) → CanTakeOut s i → CanJoin z i (slot_at s i).left x.root
      join_right_of out (leaf, few) = absurd (some few.tree.root)
      join_right_of out (fork L e R, few) = let rest = out R (few_right s i L e R few) in can_join_right s i g L e R few z x rest.0 rest.1

      pub taken_left_of : (w : List Slot) (m : ℕ) → IsTakenOut s z (slot_at s i).left g (Some x) → IsJoined z w i x.root (slot_at s i).right m
          → IsTakenOut s w i g (Some (record { root = m; node = x.node }))
      taken_left_of w m out join leaf few = absurd (some few.tree.root)
      taken_left_of w m out join (fork L e R) few =
          let rest = out L (few_left s i L e R few) in joined_left s i g L e R few z x rest.0 rest.1 w m join

      pub taken_right_of : (w : List Slot) (m : ℕ) → IsTakenOut s z (slot_at s i).right g (Some x) → IsJoined z w i (slot_at s i).left x.root m
          → IsTakenOut s w i g (Some (record { root = m; node = x.node }))
      taken_right_of w m out join leaf few = absurd (some few.tree.root)
      taken_right_of w m out join (fork L e R) few =
          let rest = out R (few_right s i L e R few) in joined_right s i g L e R few z x rest.0 rest.1 w m join
