-- A node whose right side is 2 higher than its left one, turned to the left.
use Rattle.std.proofs.Common.{◌≡◌, ◌≢◌, ℕ, ◌+◌, ◌^◌, ◌<◌, ◌≤◌, List, [], ◌∷◌, ◌++◌, length, refl, sym, ap, subst, ◌∙◌, arith, append_assoc}
use Rattle.std.specs.List.{AllByRecursion}
use Rattle.vs_free_tree.specs.declared.tree.Slot.{Slot}
use Rattle.vs_free_tree.specs.Tree.{Entry, Tree, fork, entries, height, AreRising, Avoid}
use Rattle.vs_free_tree.specs.Slots.{slot_at, height_at, gap_at, entry_at, root_of, slot_of, Show, linked, IsSameBeside, CanLink, AreSides, Joins}
use Rattle.vs_free_tree.proofs.EntryLemmas.{all_split}
use Rattle.vs_free_tree.proofs.SlotLemmas.{height_shown, HasItsGap, IsAlone, alone, linked_long, linked_other, linked_keeps, linked_shows}
use Rattle.vs_free_tree.proofs.LowerLeft.{whole_rising, whole_gaps, middle_alone}

module _ (s : List Slot) (k a b : ℕ) (A B C : Tree) (x : Entry) (sides : AreSides s k a b C (fork B x A)) (high : height (fork B x A) ≡ height C + 2) where
  abbrev K : Entry
  K = entry_at s k

  abbrev inner : ℕ
  inner = (slot_at s b).left

  abbrev outer : ℕ
  outer = (slot_at s b).right

  fits : length s < 2 ^ 32
  fits = sides.right.fits

  ex : b ≡ x.number
  ex = sides.right.root

  shr : Show s (fork B x A)
  shr = sides.right.shown

  at_b : slot_at s b ≡ slot_of B x A
  at_b = ap (slot_at s) ex ∙ shr.1

  pub inner_is : inner ≡ root_of B
  inner_is = ap (λ (y : Slot). y.left) at_b

  pub outer_is : outer ≡ root_of A
  outer_is = ap (λ (y : Slot). y.right) at_b

  pub b_within : b < length s
  b_within = omega (arith, shr.0, ex)

  own_b : gap_at s b ≡ x.gap
  own_b = ap (λ (y : Slot). let g : ℕ × ℕ = (y.units, y.at) in g) at_b

  pub inner_height : height_at s inner ≡ height B
  inner_height = ap (height_at s) inner_is ∙ height_shown s B fits shr.2

  pub outer_height : height_at s outer ≡ height A
  outer_height = ap (height_at s) outer_is ∙ height_shown s A fits shr.3

  a_height : height_at s a ≡ height C
  a_height = ap (height_at s) sides.left.root ∙ height_shown s C fits sides.left.shown

  -- the order of the nodes after the turn
  pub turned : entries C ++ K ∷ (entries B ++ x ∷ entries A) ≡ (entries C ++ K ∷ entries B) ++ x ∷ entries A
  turned = sym (append_assoc (entries C) (K ∷ entries B) (x ∷ entries A))

  rising : AreRising ((entries C ++ K ∷ entries B) ++ x ∷ entries A)
  rising = subst AreRising turned (whole_rising s k a b C (fork B x A) sides)

  gaps : AllByRecursion (HasItsGap s) ((entries C ++ K ∷ entries B) ++ x ∷ entries A)
  gaps = subst (AllByRecursion (HasItsGap s)) turned (whole_gaps s k a b C (fork B x A) sides)

  x_alone : IsAlone (entries C ++ K ∷ entries B) x (entries A)
  x_alone = alone s (entries C ++ K ∷ entries B) x (entries A) rising gaps

  k_alone : IsAlone (entries C) K (entries B ++ x ∷ entries A)
  k_alone = middle_alone s k a b C (fork B x A) sides

  module _ (low : height_at s inner ≤ height_at s outer) where
    pub can_lower : CanLink s k a inner
    can_lower = record { within = sides.within; left_low = omega (arith, a_height, sides.left_low); right_low = omega (arith, inner_height, sides.right_low) }

    abbrev s1 : List Slot
    s1 = linked s k a inner

    shown_low : Show s1 (fork C K B)
    shown_low =
        let apart = all_split (λ (e : Entry). e.number ≢ k) (entries B) (x ∷ entries A) k_alone.back in
        linked_shows s k a inner C B K fits sides.within sides.left.shown shr.2 sides.left.root inner_is refl refl k_alone.front apart.0

    shown_outer : Show s1 A
    shown_outer = linked_keeps s k a inner A shr.3 (all_split (λ (e : Entry). e.number ≢ k) (entries B) (x ∷ entries A) k_alone.back).1.1

    fits1 : length s1 < 2 ^ 32
    fits1 = omega (arith, linked_long s k a inner, fits)

    b_not_k : b ≢ k
    b_not_k e = (all_split (λ (y : Entry). y.number ≢ k) (entries B) (x ∷ entries A) k_alone.back).1.0 (sym ex ∙ e)

    own_b1 : gap_at s1 b ≡ x.gap
    own_b1 = ap (λ (y : Slot). let g : ℕ × ℕ = (y.units, y.at) in g) (linked_other s k a inner b b_not_k) ∙ own_b

    pub can_raise : CanLink s1 b k outer
    can_raise = record {
      within = omega (arith, b_within, linked_long s k a inner);
      left_low = omega (arith, height_shown s1 (fork C K B) fits1 shown_low, sides.right_low, inner_height, outer_height, high);
      right_low = omega (arith, ap (height_at s1) outer_is, height_shown s1 A fits1 shown_outer, sides.right_low);
    }

    abbrev s2 : List Slot
    s2 = linked s1 b k outer

    abbrev after : Tree
    after = fork (fork C K B) x A

    shown_after : Show s2 after
    shown_after =
        linked_shows s1 b k outer (fork C K B) A x fits1 can_raise.within shown_low shown_outer refl outer_is (sym ex) own_b1
        (subst (Avoid (entries C ++ K ∷ entries B)) (sym ex) x_alone.front) (subst (Avoid (entries A)) (sym ex) x_alone.back)

    beside : IsSameBeside (entries after) s s2
    beside j apart =
        let parts = all_split (λ (e : Entry). e.number ≢ j) (entries C ++ K ∷ entries B) (x ∷ entries A) apart in
        let rest = all_split (λ (e : Entry). e.number ≢ j) (entries C) (K ∷ entries B) parts.0 in
        linked_other s1 b k outer j (λ e. parts.1.0 (sym ex ∙ sym e)) ∙ linked_other s k a inner j (λ e. rest.1.0 (sym e))

    pub raised : Joins s s2 k C (fork B x A) b after
    raised = record {
      tree = record {
        fits = omega (arith, linked_long s1 b k outer, fits1);
        shown = shown_after;
        root = ex;
        rising = rising;
        balanced = (omega (arith, sides.right.balanced.0, sides.right.balanced.1, inner_height, outer_height, low, high), omega (arith, sides.right.balanced.0, sides.right.balanced.1, inner_height, outer_height, low, high), (omega (arith, sides.right.balanced.0, sides.right.balanced.1, inner_height, outer_height, low, high), omega (arith, sides.right.balanced.0, sides.right.balanced.1, inner_height, outer_height, low, high), sides.left.balanced, sides.right.balanced.2), sides.right.balanced.3);
      };
      long = linked_long s1 b k outer ∙ linked_long s k a inner;
      holds = sym turned;
      not_lower = omega (arith, sides.right.balanced.0, sides.right.balanced.1, inner_height, outer_height, low, high);
      one_higher = omega (arith, sides.right.balanced.0, sides.right.balanced.1, inner_height, outer_height, low, high);
      level = λ p q. absurd (omega (arith, q, high));
      beside = beside;
      few = record {
        numbers = b ∷ k ∷ [];
        few = omega arith;
        same = λ j apart. linked_other s1 b k outer j (λ e. apart.0 (sym e)) ∙ linked_other s k a inner j (λ e. apart.1.0 (sym e));
      };
    }
