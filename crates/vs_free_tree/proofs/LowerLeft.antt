-- A node whose left side is 2 higher than its right one, turned to the right.
use Rattle.std.proofs.Common.{◌≡◌, ◌≢◌, ℕ, ◌+◌, ◌^◌, ◌<◌, ◌≤◌, List, [], ◌∷◌, ◌++◌, length, refl, sym, ap, subst, ◌∙◌, arith, append_assoc}
use Rattle.std.specs.List.{AllByRecursion}
use Rattle.vs_free_tree.specs.declared.tree.Slot.{Slot}
use Rattle.vs_free_tree.specs.Tree.{Entry, Tree, fork, entries, height, AreRising, Avoid}
use Rattle.vs_free_tree.specs.Slots.{slot_at, height_at, gap_at, entry_at, root_of, slot_of, Show, linked, IsSameBeside, CanLink, AreSides, Joins}
use Rattle.vs_free_tree.proofs.EntryLemmas.{all_split, all_join, rising_join}
use Rattle.vs_free_tree.proofs.SlotLemmas.{height_shown, HasItsGap, shown_gaps, IsAlone, alone, linked_long, linked_other, linked_keeps, linked_shows}

-- the nodes of two sides and the one between them
module _ (s : List Slot) (k a b : ℕ) (l r : Tree) (sides : AreSides s k a b l r) where
  pub whole_rising : AreRising (entries l ++ entry_at s k ∷ entries r)
  whole_rising = rising_join (entries l) (entry_at s k) (entries r) sides.before sides.behind sides.left.rising sides.right.rising

  pub whole_gaps : AllByRecursion (HasItsGap s) (entries l ++ entry_at s k ∷ entries r)
  whole_gaps = all_join (HasItsGap s) (entries l) (entry_at s k ∷ entries r) (shown_gaps s l sides.left.shown) (refl, shown_gaps s r sides.right.shown)

  pub middle_alone : IsAlone (entries l) (entry_at s k) (entries r)
  middle_alone = alone s (entries l) (entry_at s k) (entries r) whole_rising whole_gaps

module _ (s : List Slot) (k a b : ℕ) (A B C : Tree) (x : Entry) (sides : AreSides s k a b (fork A x B) C) (high : height (fork A x B) ≡ height C + 2) where
  abbrev K : Entry
  K = entry_at s k

  abbrev inner : ℕ
  inner = (slot_at s a).right

  abbrev outer : ℕ
  outer = (slot_at s a).left

  fits : length s < 2 ^ 32
  fits = sides.left.fits

  ex : a ≡ x.number
  ex = sides.left.root

  shl : Show s (fork A x B)
  shl = sides.left.shown

  at_a : slot_at s a ≡ slot_of A x B
  at_a = ap (slot_at s) ex ∙ shl.1

  pub inner_is : inner ≡ root_of B
  inner_is = ap (λ (y : Slot). y.right) at_a

  pub outer_is : outer ≡ root_of A
  outer_is = ap (λ (y : Slot). y.left) at_a

  pub a_within : a < length s
  a_within = omega (arith, shl.0, ex)

  own_a : gap_at s a ≡ x.gap
  own_a = ap (λ (y : Slot). let g : ℕ × ℕ = (y.units, y.at) in g) at_a

  pub inner_height : height_at s inner ≡ height B
  inner_height = ap (height_at s) inner_is ∙ height_shown s B fits shl.3

  pub outer_height : height_at s outer ≡ height A
  outer_height = ap (height_at s) outer_is ∙ height_shown s A fits shl.2

  b_height : height_at s b ≡ height C
  b_height = ap (height_at s) sides.right.root ∙ height_shown s C fits sides.right.shown

  -- the order of the nodes after the turn
  pub turned : (entries A ++ x ∷ entries B) ++ K ∷ entries C ≡ entries A ++ x ∷ (entries B ++ K ∷ entries C)
  turned = append_assoc (entries A) (x ∷ entries B) (K ∷ entries C)

  rising : AreRising (entries A ++ x ∷ (entries B ++ K ∷ entries C))
  rising = subst AreRising turned (whole_rising s k a b (fork A x B) C sides)

  gaps : AllByRecursion (HasItsGap s) (entries A ++ x ∷ (entries B ++ K ∷ entries C))
  gaps = subst (AllByRecursion (HasItsGap s)) turned (whole_gaps s k a b (fork A x B) C sides)

  x_alone : IsAlone (entries A) x (entries B ++ K ∷ entries C)
  x_alone = alone s (entries A) x (entries B ++ K ∷ entries C) rising gaps

  k_alone : IsAlone (entries A ++ x ∷ entries B) K (entries C)
  k_alone = middle_alone s k a b (fork A x B) C sides

  module _ (low : height_at s inner ≤ height_at s outer) where
    pub can_lower : CanLink s k inner b
    can_lower = record { within = sides.within; left_low = omega (arith, inner_height, sides.left_low); right_low = omega (arith, b_height, sides.right_low) }

    abbrev s1 : List Slot
    s1 = linked s k inner b

    shown_low : Show s1 (fork B K C)
    shown_low =
        let apart = all_split (λ (e : Entry). e.number ≢ k) (entries A) (x ∷ entries B) k_alone.front in
        linked_shows s k inner b B C K fits sides.within shl.3 sides.right.shown inner_is sides.right.root refl refl apart.1.1 k_alone.back

    shown_outer : Show s1 A
    shown_outer = linked_keeps s k inner b A shl.2 (all_split (λ (e : Entry). e.number ≢ k) (entries A) (x ∷ entries B) k_alone.front).0

    fits1 : length s1 < 2 ^ 32
    fits1 = omega (arith, linked_long s k inner b, fits)

    a_not_k : a ≢ k
    a_not_k e = (all_split (λ (y : Entry). y.number ≢ k) (entries A) (x ∷ entries B) k_alone.front).1.0 (sym ex ∙ e)

    own_a1 : gap_at s1 a ≡ x.gap
    own_a1 = ap (λ (y : Slot). let g : ℕ × ℕ = (y.units, y.at) in g) (linked_other s k inner b a a_not_k) ∙ own_a

    pub can_raise : CanLink s1 a outer k
    can_raise = record {
      within = omega (arith, a_within, linked_long s k inner b);
      left_low = omega (arith, ap (height_at s1) outer_is, height_shown s1 A fits1 shown_outer, sides.left_low);
      right_low = omega (arith, height_shown s1 (fork B K C) fits1 shown_low, sides.left_low, inner_height, outer_height, high);
    }

    abbrev s2 : List Slot
    s2 = linked s1 a outer k

    abbrev after : Tree
    after = fork A x (fork B K C)

    shown_after : Show s2 after
    shown_after =
        linked_shows s1 a outer k A (fork B K C) x fits1 can_raise.within shown_outer shown_low outer_is refl (sym ex) own_a1
        (subst (Avoid (entries A)) (sym ex) x_alone.front) (subst (Avoid (entries B ++ K ∷ entries C)) (sym ex) x_alone.back)

    beside : IsSameBeside (entries after) s s2
    beside j apart =
        let parts = all_split (λ (e : Entry). e.number ≢ j) (entries A) (x ∷ (entries B ++ K ∷ entries C)) apart in
        let rest = all_split (λ (e : Entry). e.number ≢ j) (entries B) (K ∷ entries C) parts.1.1 in
        linked_other s1 a outer k j (λ e. parts.1.0 (sym ex ∙ sym e)) ∙ linked_other s k inner b j (λ e. rest.1.0 (sym e))

    pub lowered : Joins s s2 k (fork A x B) C a after
    lowered = record {
      tree = record {
        fits = omega (arith, linked_long s1 a outer k, fits1);
        shown = shown_after;
        root = ex;
        rising = rising;
        balanced = (omega (arith, sides.left.balanced.0, sides.left.balanced.1, inner_height, outer_height, low, high), omega (arith, sides.left.balanced.0, sides.left.balanced.1, inner_height, outer_height, low, high), sides.left.balanced.2, (omega (arith, sides.left.balanced.0, sides.left.balanced.1, inner_height, outer_height, low, high), omega (arith, sides.left.balanced.0, sides.left.balanced.1, inner_height, outer_height, low, high), sides.left.balanced.3, sides.right.balanced));
      };
      long = linked_long s1 a outer k ∙ linked_long s k inner b;
      holds = sym turned;
      not_lower = omega (arith, sides.left.balanced.0, sides.left.balanced.1, inner_height, outer_height, low, high);
      one_higher = omega (arith, sides.left.balanced.0, sides.left.balanced.1, inner_height, outer_height, low, high);
      level = λ p q. absurd (omega (arith, p, high));
      beside = beside;
      few = record {
        numbers = a ∷ k ∷ [];
        few = omega arith;
        same = λ j apart. linked_other s1 a outer k j (λ e. apart.0 (sym e)) ∙ linked_other s k inner b j (λ e. apart.1.0 (sym e));
      };
    }
