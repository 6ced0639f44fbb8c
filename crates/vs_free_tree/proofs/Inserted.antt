-- What `insert` owes at each of its steps.
use Rattle.std.proofs.Common.{◌≡◌, ◌≢◌, ℕ, suc, ◌+◌, ◌*◌, ◌^◌, ◌<◌, true, false, List, [], ◌∷◌, ◌++◌, length, refl, sym, ap, subst, ◌∙◌, arith, length-append, append_assoc, length-set, get_or-set_same, get_or-set_other, set}
use Rattle.std.specs.List.{AllByRecursion}
use Rattle.vs_free_tree.specs.declared.tree.Slot.{Slot}
use Rattle.vs_free_tree.specs.declared.tree.TheConstants.{NONE}
use Rattle.vs_free_tree.specs.Gaps.{is_before}
use Rattle.vs_free_tree.specs.Tree.{Entry, Tree, leaf, fork, entries, height, AreBefore, AreBehind, Avoid, Lack}
use Rattle.vs_free_tree.specs.Slots.{slot_at, height_at, gap_at, entry_at, IsTreeAt, AreSides, CanJoin, Joins, IsJoined, CanInsertInto, Inserts, CanInsert, IsInserted}
use Rattle.vs_free_tree.proofs.EntryLemmas.{behind_other, all_split, all_weaker, all_both, all_put}
use Rattle.vs_free_tree.proofs.SlotLemmas.{shown_heights}
use Rattle.vs_free_tree.proofs.Sides.{lower_left_side, lower_right_side, IsWithin, grown_left, grown_right, low_height, change_then, node_within, node_gap, left_tree, right_tree, all_before, all_behind, right_apart, left_apart, entry_stays, left_sides, right_sides}

abbrev put_entry : ℕ → ℕ × ℕ → Entry
put_entry k g = record { number = k; gap = g }

---- Into no tree

module _ (s : List Slot) (k : ℕ) (g : ℕ × ℕ) (can : CanInsertInto s NONE g k leaf) where
  abbrev alone_slot : Slot
  alone_slot = record { at = g.1; left = NONE; right = NONE; units = g.0; height = 1 }

  pub into_none : Inserts s (set s k alone_slot) g k leaf k (fork leaf (put_entry k g) leaf)
  into_none = record {
    tree = record {
      fits = omega (arith, length-set s k alone_slot, can.tree.fits);
      shown = (omega (arith, length-set s k alone_slot, can.within), get_or-set_same s k alone_slot _ can.within, tt, tt);
      root = refl;
      rising = (tt, tt);
      balanced = (omega arith, omega arith, tt, tt);
    };
    long = length-set s k alone_slot;
    front = [];
    back = [];
    was = refl;
    holds = refl;
    not_lower = omega arith;
    one_higher = omega arith;
    beside = λ j lacks. get_or-set_other s k j alone_slot _ (λ e. lacks.0 (sym e));
    few = record { numbers = k ∷ []; few = omega arith; same = λ j lacks. get_or-set_other s k j alone_slot _ (λ e. lacks.0 (sym e)) };
  }

---- Into a side of the node e

module _ (s : List Slot) (i : ℕ) (g : ℕ × ℕ) (k : ℕ) (L : Tree) (e : Entry) (R : Tree) (can : CanInsertInto s i g k (fork L e R)) where
  tree : IsTreeAt s i (fork L e R)
  tree = can.tree

  longer : length (entries (fork L e R)) ≡ length (entries L) + suc (length (entries R))
  longer = length-append (entries L) (e ∷ entries R)

  lacks_parts : Lack (entries L) g × Lack (e ∷ entries R) g
  lacks_parts = all_split (λ (x : Entry). x.gap ≢ g) (entries L) (e ∷ entries R) can.absent

  other_gap : gap_at s i ≢ g
  other_gap same = lacks_parts.1.0 (sym (node_gap s i L e R tree) ∙ same)

  few_left : length (entries L) < 2 ^ 32
  few_left = omega (arith, longer, can.few)

  few_right : length (entries R) < 2 ^ 32
  few_right = omega (arith, longer, can.few)

  -- the new number is none of the tree's
  fresh : AllByRecursion (λ x. k ≢ x.number) (entries L ++ e ∷ entries R)
  fresh =
      all_weaker (λ (x : Entry). height_at s x.number ≢ 0) (λ (x : Entry). k ≢ x.number) (λ x some same. some (ap (height_at s) (sym same) ∙ can.free))
      (entries L ++ e ∷ entries R) (shown_heights s (fork L e R) tree.shown)

  pub can_left : CanInsertInto s (slot_at s i).left g k L
  can_left = record {
    tree = left_tree s i L e R tree;
    few = omega (arith, longer, can.few);
    within = can.within;
    free = can.free;
    absent = lacks_parts.0;
  }

  pub can_right : CanInsertInto s (slot_at s i).right g k R
  can_right = record {
    tree = right_tree s i L e R tree;
    few = omega (arith, longer, can.few);
    within = can.within;
    free = can.free;
    absent = lacks_parts.1.1;
  }

  module _ (z : List Slot) (j : ℕ) (u : Tree) where
    module _ (smaller : is_before g (gap_at s i) ≡ true) (put : Inserts s z g k L j u) where
      apart : AllByRecursion (λ x. Avoid (entries u) x.number) (e ∷ entries R)
      apart =
          all_both (λ (x : Entry). Avoid (entries L) x.number) (λ (x : Entry). k ≢ x.number) (λ (x : Entry). Avoid (entries u) x.number)
          (λ x lacks other.
          subst (λ es. Avoid es x.number) (sym put.holds)
          (all_put (λ (y : Entry). y.number ≢ x.number) put.front (put_entry k g) put.back other (subst (λ es. Avoid es x.number) put.was lacks)))
          (e ∷ entries R) (right_apart s i L e R tree) (all_split (λ (x : Entry). k ≢ x.number) (entries L) (e ∷ entries R) fresh).1

      before : AreBefore (entries u) e.gap
      before =
          subst (λ es. AreBefore es e.gap) (sym put.holds)
          (all_put (λ (y : Entry). is_before y.gap e.gap ≡ true) put.front (put_entry k g) put.back
          (ap (is_before g) (sym (node_gap s i L e R tree)) ∙ smaller) (subst (λ es. AreBefore es e.gap) put.was (all_before s i L e R tree)))

      low : height u < 254
      low = omega (arith, put.one_higher, low_height L tree.balanced.2 few_left)

      right_low : height R < 254
      right_low = omega (arith, low_height R tree.balanced.3 few_right)

      sides_left : AreSides z i j (slot_at s i).right u R
      sides_left = left_sides s i L e R tree z j u put.tree put.long put.beside low before apart right_low

      pub can_join_left : CanJoin z i j (slot_at s i).right
      can_join_left = record {
        l = u;
        r = R;
        sides = sides_left;
        left_near = omega (arith, put.one_higher, tree.balanced.0);
        right_near = omega (arith, put.not_lower, tree.balanced.1);
      }

      module _ (w : List Slot) (m : ℕ) (t : Tree) (join : Joins z w i u R m t) where
        holds : entries t ≡ put.front ++ put_entry k g ∷ (put.back ++ e ∷ entries R)
        holds =
            join.holds
            ∙ ap (λ (x : Entry). entries u ++ x ∷ entries R) (entry_stays s i L e R tree z j u put.tree put.long put.beside low apart.0)
            ∙ ap (λ (es : List Entry). es ++ e ∷ entries R) put.holds
            ∙ append_assoc put.front (put_entry k g ∷ put.back) (e ∷ entries R)

        heights : IsWithin (height (fork L e R)) (height (fork L e R) + 1) (height t)
        heights = grown_left (height L) (height R) (height u) (height t) tree.balanced.0 tree.balanced.1 put.not_lower put.one_higher join.not_lower join.one_higher join.level

        pub inserted_left : Inserts s w g k (fork L e R) m t
        inserted_left = record {
          tree = join.tree;
          long = join.long ∙ put.long;
          front = put.front;
          back = put.back ++ e ∷ entries R;
          was = ap (λ (es : List Entry). es ++ e ∷ entries R) put.was ∙ append_assoc put.front put.back (e ∷ entries R);
          holds = holds;
          not_lower = heights.from;
          one_higher = heights.to;
          beside = λ n lacks.
              join.beside n lacks
              ∙ put.beside n (all_split (λ (y : Entry). y.number ≢ n) (entries u) (entry_at z i ∷ entries R) (subst (λ es. Avoid es n) join.holds lacks)).0;
          few = change_then (3 * height L + 1) 3 (3 * height (fork L e R) + 1) s z w put.few join.few (omega arith);
        }

    module _ (larger : is_before g (gap_at s i) ≡ false) (put : Inserts s z g k R j u) where
      apart_right : AllByRecursion (λ x. Avoid (entries u) x.number) (e ∷ entries L)
      apart_right =
          let parts = all_split (λ (x : Entry). k ≢ x.number) (entries L) (e ∷ entries R) fresh in
          all_both (λ (x : Entry). Avoid (entries R) x.number) (λ (x : Entry). k ≢ x.number) (λ (x : Entry). Avoid (entries u) x.number)
          (λ x lacks other.
          subst (λ es. Avoid es x.number) (sym put.holds)
          (all_put (λ (y : Entry). y.number ≢ x.number) put.front (put_entry k g) put.back other (subst (λ es. Avoid es x.number) put.was lacks)))
          (e ∷ entries L) (left_apart s i L e R tree) (parts.1.0, parts.0)

      behind : AreBehind (entries u) e.gap
      behind =
          subst (λ es. AreBehind es e.gap) (sym put.holds)
          (all_put (λ (y : Entry). is_before e.gap y.gap ≡ true) put.front (put_entry k g) put.back
          (ap (λ h. is_before h g) (sym (node_gap s i L e R tree)) ∙ behind_other (gap_at s i) g larger other_gap)
          (subst (λ es. AreBehind es e.gap) put.was (all_behind s i L e R tree)))

      low_right : height u < 254
      low_right = omega (arith, put.one_higher, low_height R tree.balanced.3 few_right)

      left_low : height L < 254
      left_low = omega (arith, low_height L tree.balanced.2 few_left)

      sides_right : AreSides z i (slot_at s i).left j L u
      sides_right = right_sides s i L e R tree z j u put.tree put.long put.beside low_right behind apart_right left_low

      pub can_join_right : CanJoin z i (slot_at s i).left j
      can_join_right = record {
        l = L;
        r = u;
        sides = sides_right;
        left_near = omega (arith, put.not_lower, tree.balanced.0);
        right_near = omega (arith, put.one_higher, tree.balanced.1);
      }

      module _ (w : List Slot) (m : ℕ) (t : Tree) (join : Joins z w i L u m t) where
        holds_right : entries t ≡ (entries L ++ e ∷ put.front) ++ put_entry k g ∷ put.back
        holds_right =
            join.holds
            ∙ ap (λ (x : Entry). entries L ++ x ∷ entries u) (entry_stays s i L e R tree z j u put.tree put.long put.beside low_right apart_right.0)
            ∙ ap (λ (es : List Entry). entries L ++ e ∷ es) put.holds
            ∙ sym (append_assoc (entries L) (e ∷ put.front) (put_entry k g ∷ put.back))

        heights_right : IsWithin (height (fork L e R)) (height (fork L e R) + 1) (height t)
        heights_right = grown_right (height L) (height R) (height u) (height t) tree.balanced.0 tree.balanced.1 put.not_lower put.one_higher join.not_lower join.one_higher join.level

        pub inserted_right : Inserts s w g k (fork L e R) m t
        inserted_right = record {
          tree = join.tree;
          long = join.long ∙ put.long;
          front = entries L ++ e ∷ put.front;
          back = put.back;
          was = ap (λ (es : List Entry). entries L ++ e ∷ es) put.was ∙ sym (append_assoc (entries L) (e ∷ put.front) put.back);
          holds = holds_right;
          not_lower = heights_right.from;
          one_higher = heights_right.to;
          beside = λ n lacks.
              join.beside n lacks
              ∙ put.beside n (all_split (λ (y : Entry). y.number ≢ n) (entries L) (entry_at z i ∷ entries u) (subst (λ es. Avoid es n) join.holds lacks)).1.1;
          few = change_then (3 * height R + 1) 3 (3 * height (fork L e R) + 1) s z w put.few join.few (omega arith);
        }

---- For any tree with a node

module _ (s : List Slot) (i : ℕ) (g : ℕ × ℕ) (k : ℕ) (some : i ≢ NONE) where
  pub within_of : CanInsert s i g k → i < length s
  within_of (leaf, can) = absurd (some can.tree.root)
  within_of (fork L e R, can) = node_within s i L e R can.tree

  pub left_of : CanInsert s i g k → CanInsert s (slot_at s i).left g k
  left_of (leaf, can) = absurd (some can.tree.root)
  left_of (fork L e R, can) = (L, can_left s i g k L e R can)

  pub right_of : CanInsert s i g k → CanInsert s (slot_at s i).right g k
  right_of (leaf, can) = absurd (some can.tree.root)
  right_of (fork L e R, can) = (R, can_right s i g k L e R can)

  pub left_lower : CanInsert s i g k → height_at s (slot_at s i).left < height_at s i
  left_lower (leaf, can) = absurd (some can.tree.root)
  left_lower (fork L e R, can) = lower_left_side s i L e R can.tree

  pub right_lower : CanInsert s i g k → height_at s (slot_at s i).right < height_at s i
  right_lower (leaf, can) = absurd (some can.tree.root)
  right_lower (fork L e R, can) = lower_right_side s i L e R can.tree

  module _ (z : List Slot) (j : ℕ) where
    pub join_left_of : is_before g (gap_at s i) ≡ true → IsInserted s z (slot_at s i).left g k j → CanInsert s i g k → CanJoin z i j (slot_at s i).right
    join_left_of smaller put (leaf, can) = absurd (some can.tree.root)
    join_left_of smaller put (fork L e R, can) =
        let new = put L (can_left s i g k L e R can) in
        can_join_left s i g k L e R can z j new.0 smaller new.1

    pub join_right_of : is_before g (gap_at s i) ≡ false → IsInserted s z (slot_at s i).right g k j → CanInsert s i g k → CanJoin z i (slot_at s i).left j
    join_right_of larger put (leaf, can) = absurd (some can.tree.root)
    join_right_of larger put (fork L e R, can) =
        let new = put R (can_right s i g k L e R can) in
        can_join_right s i g k L e R can z j new.0 larger new.1

    module _ (w : List Slot) (m : ℕ) where
      pub inserted_left_of : is_before g (gap_at s i) ≡ true → IsInserted s z (slot_at s i).left g k j → IsJoined z w i j (slot_at s i).right m → IsInserted s w i g k m
      unfolding can_join_left
      inserted_left_of smaller put join leaf can = absurd (some can.tree.root)
      inserted_left_of smaller put join (fork L e R) can =
          let new = put L (can_left s i g k L e R can) in
          let sides = can_join_left s i g k L e R can z j new.0 smaller new.1 in
          let all = join new.0 R sides.sides sides.left_near sides.right_near in
          (all.0, inserted_left s i g k L e R can z j new.0 smaller new.1 w m all.0 all.1)

      pub inserted_right_of : is_before g (gap_at s i) ≡ false → IsInserted s z (slot_at s i).right g k j → IsJoined z w i (slot_at s i).left j m → IsInserted s w i g k m
      unfolding can_join_right
      inserted_right_of larger put join leaf can = absurd (some can.tree.root)
      inserted_right_of larger put join (fork L e R) can =
          let new = put R (can_right s i g k L e R can) in
          let sides = can_join_right s i g k L e R can z j new.0 larger new.1 in
          let all = join L new.0 sides.sides sides.left_near sides.right_near in
          (all.0, inserted_right s i g k L e R can z j new.0 larger new.1 w m all.0 all.1)

-- into no tree
pub inserted_none : (s : List Slot) (i : ℕ) (g : ℕ × ℕ) (k : ℕ) → length s < 2 ^ 32 → i ≡ NONE
    → IsInserted s (set s k (record { at = g.1; left = NONE; right = NONE; units = g.0; height = 1 })) i g k k
inserted_none s i g k fits none leaf can =
    (fork leaf (put_entry k g) leaf, into_none s k g (subst (λ n. CanInsertInto s n g k leaf) none can))
inserted_none s i g k fits none (fork L e R) can = absurd (omega (arith, none, can.tree.root, can.tree.shown.0, can.tree.fits))
