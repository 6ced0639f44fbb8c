-- The same, where the inner side of the left one is the higher: its root becomes the root of all.
use Rattle.std.proofs.Common.{◌≡◌, ◌≢◌, ℕ, ◌+◌, ◌^◌, ◌<◌, ◌≤◌, List, [], ◌∷◌, ◌++◌, length, refl, sym, ap, subst, ◌∙◌, arith, append_assoc}
use Rattle.std.specs.List.{AllByRecursion}
use Rattle.vs_free_tree.specs.declared.tree.Slot.{Slot}
use Rattle.vs_free_tree.specs.Tree.{Entry, Tree, fork, entries, height, AreRising, Avoid}
use Rattle.vs_free_tree.specs.Slots.{slot_at, height_at, gap_at, entry_at, root_of, slot_of, Show, linked, IsSameBeside, CanLink, AreSides, Joins}
use Rattle.vs_free_tree.proofs.EntryLemmas.{all_split, all_join}
use Rattle.vs_free_tree.proofs.SlotLemmas.{height_shown, HasItsGap, IsAlone, alone, linked_long, linked_other, linked_keeps, linked_shows}
use Rattle.vs_free_tree.proofs.LowerLeft.{whole_rising, whole_gaps, middle_alone, inner_is, outer_is, inner_height, outer_height, a_within, turned}

abbrev IsNot : ℕ → Entry → Type 0
IsNot j e = e.number ≢ j

module _ (s : List Slot) (k a b : ℕ) (A B C D : Tree) (x y : Entry) (sides : AreSides s k a b (fork A x (fork B y C)) D) (high : height (fork A x (fork B y C)) ≡ height D + 2) where
  abbrev K : Entry
  K = entry_at s k

  abbrev inner : ℕ
  inner = (slot_at s a).right

  abbrev outer : ℕ
  outer = (slot_at s a).left

  abbrev middle : Slot
  middle = slot_at s inner

  fits : length s < 2 ^ 32
  fits = sides.left.fits

  ex : a ≡ x.number
  ex = sides.left.root

  ey : inner ≡ y.number
  ey = inner_is s k a b A (fork B y C) D x sides high

  shl : Show s (fork A x (fork B y C))
  shl = sides.left.shown

  at_inner : middle ≡ slot_of B y C
  at_inner = ap (slot_at s) ey ∙ shl.3.1

  pub inner_within : inner < length s
  inner_within = omega (arith, shl.3.0, ey)

  left_is : middle.left ≡ root_of B
  left_is = ap (λ (z : Slot). z.left) at_inner

  right_is : middle.right ≡ root_of C
  right_is = ap (λ (z : Slot). z.right) at_inner

  own_a : gap_at s a ≡ x.gap
  own_a = ap (λ (z : Slot). let g : ℕ × ℕ = (z.units, z.at) in g) (ap (slot_at s) ex ∙ shl.1)

  own_inner : gap_at s inner ≡ y.gap
  own_inner = ap (λ (z : Slot). let g : ℕ × ℕ = (z.units, z.at) in g) at_inner

  -- the order of the nodes after the turns
  pub turned_twice : (entries A ++ x ∷ (entries B ++ y ∷ entries C)) ++ K ∷ entries D ≡ (entries A ++ x ∷ entries B) ++ y ∷ (entries C ++ K ∷ entries D)
  turned_twice =
      ap (λ (es : List Entry). es ++ K ∷ entries D) (sym (append_assoc (entries A) (x ∷ entries B) (y ∷ entries C)))
      ∙ append_assoc (entries A ++ x ∷ entries B) (y ∷ entries C) (K ∷ entries D)

  rising : AreRising ((entries A ++ x ∷ entries B) ++ y ∷ (entries C ++ K ∷ entries D))
  rising = subst AreRising turned_twice (whole_rising s k a b (fork A x (fork B y C)) D sides)

  y_alone : IsAlone (entries A ++ x ∷ entries B) y (entries C ++ K ∷ entries D)
  y_alone =
      alone s (entries A ++ x ∷ entries B) y (entries C ++ K ∷ entries D) rising
      (subst (AllByRecursion (HasItsGap s)) turned_twice (whole_gaps s k a b (fork A x (fork B y C)) D sides))

  x_alone : IsAlone (entries A) x ((entries B ++ y ∷ entries C) ++ K ∷ entries D)
  x_alone =
      let e = turned s k a b A (fork B y C) D x sides high in
      alone s (entries A) x ((entries B ++ y ∷ entries C) ++ K ∷ entries D)
      (subst AreRising e (whole_rising s k a b (fork A x (fork B y C)) D sides))
      (subst (AllByRecursion (HasItsGap s)) e (whole_gaps s k a b (fork A x (fork B y C)) D sides))

  k_alone : IsAlone (entries A ++ x ∷ (entries B ++ y ∷ entries C)) K (entries D)
  k_alone = middle_alone s k a b (fork A x (fork B y C)) D sides

  -- which numbers the subtrees lack
  pub record AreApart : Type 0 where
    pub a_in_a : Avoid (entries A) a
    pub a_in_b : Avoid (entries B) a
    pub a_in_c : Avoid (entries C) a
    pub a_in_d : Avoid (entries D) a
    pub k_in_ab : Avoid (entries A ++ x ∷ entries B) k
    pub k_in_c : Avoid (entries C) k
    pub k_in_d : Avoid (entries D) k
    pub y_in_ab : Avoid (entries A ++ x ∷ entries B) inner
    pub y_in_cd : Avoid (entries C ++ K ∷ entries D) inner
    pub a_not_k : a ≢ k
    pub inner_not_a : inner ≢ a
    pub inner_not_k : inner ≢ k

  apart : AreApart
  apart =
      let xs = all_split (IsNot x.number) (entries B ++ y ∷ entries C) (K ∷ entries D) x_alone.back in
      let xi = all_split (IsNot x.number) (entries B) (y ∷ entries C) xs.0 in
      let ks = all_split (IsNot k) (entries A) (x ∷ (entries B ++ y ∷ entries C)) k_alone.front in
      let ki = all_split (IsNot k) (entries B) (y ∷ entries C) ks.1.1 in
      record {
        a_in_a = subst (Avoid (entries A)) (sym ex) x_alone.front;
        a_in_b = subst (Avoid (entries B)) (sym ex) xi.0;
        a_in_c = subst (Avoid (entries C)) (sym ex) xi.1.1;
        a_in_d = subst (Avoid (entries D)) (sym ex) xs.1.1;
        k_in_ab = all_join (IsNot k) (entries A) (x ∷ entries B) ks.0 (ks.1.0, ki.0);
        k_in_c = ki.1.1;
        k_in_d = k_alone.back;
        y_in_ab = subst (Avoid (entries A ++ x ∷ entries B)) (sym ey) y_alone.front;
        y_in_cd = subst (Avoid (entries C ++ K ∷ entries D)) (sym ey) y_alone.back;
        a_not_k = λ e. ks.1.0 (sym ex ∙ e);
        inner_not_a = λ e. xi.1.0 (sym ey ∙ e ∙ ex);
        inner_not_k = λ e. ki.1.0 (sym ey ∙ e);
      }

  pub can_first : CanLink s a outer middle.left
  can_first = record {
    within = a_within s k a b A (fork B y C) D x sides high;
    left_low = omega (arith, outer_height s k a b A (fork B y C) D x sides high, sides.left_low);
    right_low = omega (arith, ap (height_at s) left_is, height_shown s B fits shl.3.2, sides.left_low);
  }

  abbrev s1 : List Slot
  s1 = linked s a outer middle.left

  fits1 : length s1 < 2 ^ 32
  fits1 = omega (arith, linked_long s a outer middle.left, fits)

  shown_left : Show s1 (fork A x B)
  shown_left =
      linked_shows s a outer middle.left A B x fits can_first.within shl.2 shl.3.2 (outer_is s k a b A (fork B y C) D x sides high) left_is (sym ex) own_a apart.a_in_a apart.a_in_b

  shown_c : Show s1 C
  shown_c = linked_keeps s a outer middle.left C shl.3.3 apart.a_in_c

  shown_d : Show s1 D
  shown_d = linked_keeps s a outer middle.left D sides.right.shown apart.a_in_d

  own_k : gap_at s1 k ≡ K.gap
  own_k = ap (λ (z : Slot). let g : ℕ × ℕ = (z.units, z.at) in g) (linked_other s a outer middle.left k (λ e. apart.a_not_k (sym e)))

  pub can_second : CanLink s1 k middle.right b
  can_second = record {
    within = omega (arith, sides.within, linked_long s a outer middle.left);
    left_low = omega (arith, ap (height_at s1) right_is, height_shown s1 C fits1 shown_c, sides.left_low);
    right_low = omega (arith, ap (height_at s1) sides.right.root, height_shown s1 D fits1 shown_d, sides.right_low);
  }

  abbrev s2 : List Slot
  s2 = linked s1 k middle.right b

  fits2 : length s2 < 2 ^ 32
  fits2 = omega (arith, linked_long s1 k middle.right b, fits1)

  shown_right : Show s2 (fork C K D)
  shown_right =
      linked_shows s1 k middle.right b C D K fits1 can_second.within shown_c shown_d right_is sides.right.root refl own_k apart.k_in_c apart.k_in_d

  shown_left2 : Show s2 (fork A x B)
  shown_left2 = linked_keeps s1 k middle.right b (fork A x B) shown_left apart.k_in_ab

  own_inner2 : gap_at s2 inner ≡ y.gap
  own_inner2 =
      ap (λ (z : Slot). let g : ℕ × ℕ = (z.units, z.at) in g)
      (linked_other s1 k middle.right b inner apart.inner_not_k ∙ linked_other s a outer middle.left inner apart.inner_not_a)
      ∙ own_inner

  module _ (low : height_at s outer < height_at s inner) where
    -- the heights of the four subtrees
    pub record AreLow : Type 0 where
      pub a_is : height A ≡ height D
      pub b_near : (height B ≤ height D) × (height D ≤ height B + 1)
      pub c_near : (height C ≤ height D) × (height D ≤ height C + 1)

    lows : AreLow
    lows =
        let p = inner_height s k a b A (fork B y C) D x sides high in
        let q = outer_height s k a b A (fork B y C) D x sides high in
        let near = sides.left.balanced.1 in
        let bc = sides.left.balanced.3.0 in
        let cb = sides.left.balanced.3.1 in
        record {
          a_is = omega (arith, p, q, near, bc, cb, low, high);
          b_near = (omega (arith, p, q, near, bc, cb, low, high), omega (arith, p, q, near, bc, cb, low, high));
          c_near = (omega (arith, p, q, near, bc, cb, low, high), omega (arith, p, q, near, bc, cb, low, high));
        }

    pub can_third : CanLink s2 inner a k
    can_third = record {
      within = omega (arith, inner_within, linked_long s1 k middle.right b, linked_long s a outer middle.left);
      left_low = omega (arith, ap (height_at s2) ex, height_shown s2 (fork A x B) fits2 shown_left2, lows.a_is, lows.b_near.0, sides.right_low);
      right_low = omega (arith, height_shown s2 (fork C K D) fits2 shown_right, lows.c_near.0, sides.right_low);
    }

    abbrev s3 : List Slot
    s3 = linked s2 inner a k

    abbrev after : Tree
    after = fork (fork A x B) y (fork C K D)

    shown_after : Show s3 after
    shown_after =
        linked_shows s2 inner a k (fork A x B) (fork C K D) y fits2 can_third.within shown_left2 shown_right ex refl (sym ey) own_inner2 apart.y_in_ab apart.y_in_cd

    same_but : (j : ℕ) → a ≢ j → k ≢ j → inner ≢ j → slot_at s3 j ≡ slot_at s j
    same_but j na nk ni =
        linked_other s2 inner a k j (λ e. ni (sym e)) ∙ linked_other s1 k middle.right b j (λ e. nk (sym e)) ∙ linked_other s a outer middle.left j (λ e. na (sym e))

    beside : IsSameBeside (entries after) s s3
    beside j lacks =
        let parts = all_split (IsNot j) (entries A ++ x ∷ entries B) (y ∷ (entries C ++ K ∷ entries D)) lacks in
        let left = all_split (IsNot j) (entries A) (x ∷ entries B) parts.0 in
        let right = all_split (IsNot j) (entries C) (K ∷ entries D) parts.1.1 in
        same_but j (λ e. left.1.0 (sym ex ∙ e)) right.1.0 (λ e. parts.1.0 (sym ey ∙ e))

    pub lowered_twice : Joins s s3 k (fork A x (fork B y C)) D inner after
    lowered_twice =
        let ha = lows.a_is in
        let hb = lows.b_near in
        let hc = lows.c_near in
        record {
          tree = record {
            fits = omega (arith, linked_long s2 inner a k, fits2);
            shown = shown_after;
            root = ey;
            rising = rising;
            balanced =
                (omega (arith, ha, hb, hc), omega (arith, ha, hb, hc), (omega (arith, ha, hb), omega (arith, ha, hb), sides.left.balanced.2, sides.left.balanced.3.2), (omega (arith, hc), omega (arith, hc), sides.left.balanced.3.3, sides.right.balanced));
          };
          long = linked_long s2 inner a k ∙ linked_long s1 k middle.right b ∙ linked_long s a outer middle.left;
          holds = sym turned_twice;
          not_lower = omega (arith, ha, hb, hc, high);
          one_higher = omega (arith, ha, hb, hc, high);
          level = λ p q. absurd (omega (arith, p, high));
          beside = beside;
          few = record {
            numbers = a ∷ k ∷ inner ∷ [];
            few = omega arith;
            same = λ j lacks. same_but j lacks.0 lacks.1.0 lacks.1.1.0;
          };
        }
