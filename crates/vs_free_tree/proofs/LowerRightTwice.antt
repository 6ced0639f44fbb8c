-- The same, where the inner side of the right one is the higher: its root becomes the root of all.
use Rattle.std.proofs.Common.{◌≡◌, ◌≢◌, ℕ, ◌+◌, ◌^◌, ◌<◌, ◌≤◌, List, [], ◌∷◌, ◌++◌, length, refl, sym, ap, subst, ◌∙◌, arith, append_assoc}
use Rattle.std.specs.List.{AllByRecursion}
use Rattle.vs_free_tree.specs.declared.tree.Slot.{Slot}
use Rattle.vs_free_tree.specs.Tree.{Entry, Tree, fork, entries, height, AreRising, Avoid}
use Rattle.vs_free_tree.specs.Slots.{slot_at, height_at, gap_at, entry_at, root_of, slot_of, Show, linked, IsSameBeside, CanLink, AreSides, Joins}
use Rattle.vs_free_tree.proofs.EntryLemmas.{all_split, all_join}
use Rattle.vs_free_tree.proofs.SlotLemmas.{height_shown, HasItsGap, IsAlone, alone, linked_long, linked_other, linked_keeps, linked_shows}
use Rattle.vs_free_tree.proofs.LowerLeft.{whole_rising, whole_gaps, middle_alone}
use Rattle.vs_free_tree.proofs.LowerRight.{inner_is, outer_is, inner_height, outer_height, b_within, turned}

abbrev IsNot : ℕ → Entry → Type 0
IsNot j e = e.number ≢ j

module _ (s : List Slot) (k a b : ℕ) (A B C D : Tree) (x y : Entry) (sides : AreSides s k a b D (fork (fork B y C) x A)) (high : height (fork (fork B y C) x A) ≡ height D + 2) where
  abbrev K : Entry
  K = entry_at s k

  abbrev inner : ℕ
  inner = (slot_at s b).left

  abbrev outer : ℕ
  outer = (slot_at s b).right

  abbrev middle : Slot
  middle = slot_at s inner

  fits : length s < 2 ^ 32
  fits = sides.right.fits

  ex : b ≡ x.number
  ex = sides.right.root

  ey : inner ≡ y.number
  ey = inner_is s k a b A (fork B y C) D x sides high

  shr : Show s (fork (fork B y C) x A)
  shr = sides.right.shown

  at_inner : middle ≡ slot_of B y C
  at_inner = ap (slot_at s) ey ∙ shr.2.1

  pub inner_within : inner < length s
  inner_within = omega (arith, shr.2.0, ey)

  left_is : middle.left ≡ root_of B
  left_is = ap (λ (z : Slot). z.left) at_inner

  right_is : middle.right ≡ root_of C
  right_is = ap (λ (z : Slot). z.right) at_inner

  own_b : gap_at s b ≡ x.gap
  own_b = ap (λ (z : Slot). let g : ℕ × ℕ = (z.units, z.at) in g) (ap (slot_at s) ex ∙ shr.1)

  own_inner : gap_at s inner ≡ y.gap
  own_inner = ap (λ (z : Slot). let g : ℕ × ℕ = (z.units, z.at) in g) at_inner

  -- the order of the nodes after the turns
  pub turned_twice : entries D ++ K ∷ ((entries B ++ y ∷ entries C) ++ x ∷ entries A) ≡ (entries D ++ K ∷ entries B) ++ y ∷ (entries C ++ x ∷ entries A)
  turned_twice =
      ap (λ (es : List Entry). entries D ++ K ∷ es) (append_assoc (entries B) (y ∷ entries C) (x ∷ entries A))
      ∙ sym (append_assoc (entries D) (K ∷ entries B) (y ∷ (entries C ++ x ∷ entries A)))

  rising : AreRising ((entries D ++ K ∷ entries B) ++ y ∷ (entries C ++ x ∷ entries A))
  rising = subst AreRising turned_twice (whole_rising s k a b D (fork (fork B y C) x A) sides)

  y_alone : IsAlone (entries D ++ K ∷ entries B) y (entries C ++ x ∷ entries A)
  y_alone =
      alone s (entries D ++ K ∷ entries B) y (entries C ++ x ∷ entries A) rising
      (subst (AllByRecursion (HasItsGap s)) turned_twice (whole_gaps s k a b D (fork (fork B y C) x A) sides))

  x_alone : IsAlone (entries D ++ K ∷ (entries B ++ y ∷ entries C)) x (entries A)
  x_alone =
      let e = turned s k a b A (fork B y C) D x sides high in
      alone s (entries D ++ K ∷ (entries B ++ y ∷ entries C)) x (entries A)
      (subst AreRising e (whole_rising s k a b D (fork (fork B y C) x A) sides))
      (subst (AllByRecursion (HasItsGap s)) e (whole_gaps s k a b D (fork (fork B y C) x A) sides))

  k_alone : IsAlone (entries D) K ((entries B ++ y ∷ entries C) ++ x ∷ entries A)
  k_alone = middle_alone s k a b D (fork (fork B y C) x A) sides

  -- which numbers the subtrees lack
  pub record AreApart : Type 0 where
    pub b_in_a : Avoid (entries A) b
    pub b_in_b : Avoid (entries B) b
    pub b_in_c : Avoid (entries C) b
    pub b_in_d : Avoid (entries D) b
    pub k_in_ca : Avoid (entries C ++ x ∷ entries A) k
    pub k_in_b : Avoid (entries B) k
    pub k_in_d : Avoid (entries D) k
    pub y_in_db : Avoid (entries D ++ K ∷ entries B) inner
    pub y_in_ca : Avoid (entries C ++ x ∷ entries A) inner
    pub b_not_k : b ≢ k
    pub inner_not_b : inner ≢ b
    pub inner_not_k : inner ≢ k

  apart : AreApart
  apart =
      let xs = all_split (IsNot x.number) (entries D) (K ∷ (entries B ++ y ∷ entries C)) x_alone.front in
      let xi = all_split (IsNot x.number) (entries B) (y ∷ entries C) xs.1.1 in
      let ks = all_split (IsNot k) (entries B ++ y ∷ entries C) (x ∷ entries A) k_alone.back in
      let ki = all_split (IsNot k) (entries B) (y ∷ entries C) ks.0 in
      record {
        b_in_a = subst (Avoid (entries A)) (sym ex) x_alone.back;
        b_in_b = subst (Avoid (entries B)) (sym ex) xi.0;
        b_in_c = subst (Avoid (entries C)) (sym ex) xi.1.1;
        b_in_d = subst (Avoid (entries D)) (sym ex) xs.0;
        k_in_ca = all_join (IsNot k) (entries C) (x ∷ entries A) ki.1.1 ks.1;
        k_in_b = ki.0;
        k_in_d = k_alone.front;
        y_in_db = subst (Avoid (entries D ++ K ∷ entries B)) (sym ey) y_alone.front;
        y_in_ca = subst (Avoid (entries C ++ x ∷ entries A)) (sym ey) y_alone.back;
        b_not_k = λ e. ks.1.0 (sym ex ∙ e);
        inner_not_b = λ e. xi.1.0 (sym ey ∙ e ∙ ex);
        inner_not_k = λ e. ki.1.0 (sym ey ∙ e);
      }

  pub can_first : CanLink s b middle.right outer
  can_first = record {
    within = b_within s k a b A (fork B y C) D x sides high;
    left_low = omega (arith, ap (height_at s) right_is, height_shown s C fits shr.2.3, sides.right_low);
    right_low = omega (arith, outer_height s k a b A (fork B y C) D x sides high, sides.right_low);
  }

  abbrev s1 : List Slot
  s1 = linked s b middle.right outer

  fits1 : length s1 < 2 ^ 32
  fits1 = omega (arith, linked_long s b middle.right outer, fits)

  shown_right : Show s1 (fork C x A)
  shown_right =
      linked_shows s b middle.right outer C A x fits can_first.within shr.2.3 shr.3 right_is (outer_is s k a b A (fork B y C) D x sides high) (sym ex) own_b apart.b_in_c apart.b_in_a

  shown_b : Show s1 B
  shown_b = linked_keeps s b middle.right outer B shr.2.2 apart.b_in_b

  shown_d : Show s1 D
  shown_d = linked_keeps s b middle.right outer D sides.left.shown apart.b_in_d

  own_k : gap_at s1 k ≡ K.gap
  own_k = ap (λ (z : Slot). let g : ℕ × ℕ = (z.units, z.at) in g) (linked_other s b middle.right outer k (λ e. apart.b_not_k (sym e)))

  pub can_second : CanLink s1 k a middle.left
  can_second = record {
    within = omega (arith, sides.within, linked_long s b middle.right outer);
    left_low = omega (arith, ap (height_at s1) sides.left.root, height_shown s1 D fits1 shown_d, sides.left_low);
    right_low = omega (arith, ap (height_at s1) left_is, height_shown s1 B fits1 shown_b, sides.right_low);
  }

  abbrev s2 : List Slot
  s2 = linked s1 k a middle.left

  fits2 : length s2 < 2 ^ 32
  fits2 = omega (arith, linked_long s1 k a middle.left, fits1)

  shown_left : Show s2 (fork D K B)
  shown_left =
      linked_shows s1 k a middle.left D B K fits1 can_second.within shown_d shown_b sides.left.root left_is refl own_k apart.k_in_d apart.k_in_b

  shown_right2 : Show s2 (fork C x A)
  shown_right2 = linked_keeps s1 k a middle.left (fork C x A) shown_right apart.k_in_ca

  own_inner2 : gap_at s2 inner ≡ y.gap
  own_inner2 =
      ap (λ (z : Slot). let g : ℕ × ℕ = (z.units, z.at) in g)
      (linked_other s1 k a middle.left inner apart.inner_not_k ∙ linked_other s b middle.right outer inner apart.inner_not_b)
      ∙ own_inner

  module _ (low : height_at s outer < height_at s inner) where
    -- the heights of the four subtrees
    pub record AreLow : Type 0 where
      pub a_is : height A ≡ height D
      pub b_near : (height B ≤ height D) × (height D ≤ height B + 1)
      pub c_near : (height C ≤ height D) × (height D ≤ height C + 1)

    lows : AreLow
    lows =
        let p = inner_height s k a b A (fork B y C) D x sides high in
        let q = outer_height s k a b A (fork B y C) D x sides high in
        let near = sides.right.balanced.0 in
        let bc = sides.right.balanced.2.0 in
        let cb = sides.right.balanced.2.1 in
        record {
          a_is = omega (arith, p, q, near, bc, cb, low, high);
          b_near = (omega (arith, p, q, near, bc, cb, low, high), omega (arith, p, q, near, bc, cb, low, high));
          c_near = (omega (arith, p, q, near, bc, cb, low, high), omega (arith, p, q, near, bc, cb, low, high));
        }

    pub can_third : CanLink s2 inner k b
    can_third = record {
      within = omega (arith, inner_within, linked_long s1 k a middle.left, linked_long s b middle.right outer);
      left_low = omega (arith, height_shown s2 (fork D K B) fits2 shown_left, lows.b_near.0, sides.left_low);
      right_low = omega (arith, ap (height_at s2) ex, height_shown s2 (fork C x A) fits2 shown_right2, lows.a_is, lows.c_near.0, sides.left_low);
    }

    abbrev s3 : List Slot
    s3 = linked s2 inner k b

    abbrev after : Tree
    after = fork (fork D K B) y (fork C x A)

    shown_after : Show s3 after
    shown_after =
        linked_shows s2 inner k b (fork D K B) (fork C x A) y fits2 can_third.within shown_left shown_right2 refl ex (sym ey) own_inner2 apart.y_in_db apart.y_in_ca

    same_but : (j : ℕ) → b ≢ j → k ≢ j → inner ≢ j → slot_at s3 j ≡ slot_at s j
    same_but j nb nk ni =
        linked_other s2 inner k b j (λ e. ni (sym e)) ∙ linked_other s1 k a middle.left j (λ e. nk (sym e)) ∙ linked_other s b middle.right outer j (λ e. nb (sym e))

    beside : IsSameBeside (entries after) s s3
    beside j lacks =
        let parts = all_split (IsNot j) (entries D ++ K ∷ entries B) (y ∷ (entries C ++ x ∷ entries A)) lacks in
        let left = all_split (IsNot j) (entries D) (K ∷ entries B) parts.0 in
        let right = all_split (IsNot j) (entries C) (x ∷ entries A) parts.1.1 in
        same_but j (λ e. right.1.0 (sym ex ∙ e)) left.1.0 (λ e. parts.1.0 (sym ey ∙ e))

    pub raised_twice : Joins s s3 k D (fork (fork B y C) x A) inner after
    raised_twice =
        let ha = lows.a_is in
        let hb = lows.b_near in
        let hc = lows.c_near in
        record {
          tree = record {
            fits = omega (arith, linked_long s2 inner k b, fits2);
            shown = shown_after;
            root = ey;
            rising = rising;
            balanced =
                (omega (arith, ha, hb, hc), omega (arith, ha, hb, hc), (omega (arith, hb), omega (arith, hb), sides.left.balanced, sides.right.balanced.2.2), (omega (arith, ha, hc), omega (arith, ha, hc), sides.right.balanced.2.3, sides.right.balanced.3));
          };
          long = linked_long s2 inner k b ∙ linked_long s1 k a middle.left ∙ linked_long s b middle.right outer;
          holds = sym turned_twice;
          not_lower = omega (arith, ha, hb, hc, high);
          one_higher = omega (arith, ha, hb, hc, high);
          level = λ p q. absurd (omega (arith, q, high));
          beside = beside;
          few = record {
            numbers = b ∷ k ∷ inner ∷ [];
            few = omega arith;
            same = λ j lacks. same_but j lacks.0 lacks.1.0 lacks.1.1.0;
          };
        }
