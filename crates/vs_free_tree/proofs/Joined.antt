-- A node between two sides that are level.
use Rattle.std.proofs.Common.{◌≡◌, ℕ, ◌+◌, ◌≤◌, List, [], ◌∷◌, refl, sym, ap, ◌∙◌, arith}
use Rattle.vs_free_tree.specs.declared.tree.Slot.{Slot}
use Rattle.vs_free_tree.specs.Tree.{Entry, Tree, fork, entries, height}
use Rattle.vs_free_tree.specs.Slots.{height_at, entry_at, linked, CanLink, AreSides, Joins}
use Rattle.vs_free_tree.proofs.EntryLemmas.{all_split}
use Rattle.vs_free_tree.proofs.SlotLemmas.{height_shown, linked_long, linked_other, linked_shows}
use Rattle.vs_free_tree.proofs.LowerLeft.{whole_rising, middle_alone}

module _ (s : List Slot) (k a b : ℕ) (l r : Tree) (sides : AreSides s k a b l r) where
  pub left_height : height_at s a ≡ height l
  left_height = ap (height_at s) sides.left.root ∙ height_shown s l sides.left.fits sides.left.shown

  pub right_height : height_at s b ≡ height r
  right_height = ap (height_at s) sides.right.root ∙ height_shown s r sides.right.fits sides.right.shown

  pub can_link : CanLink s k a b
  can_link = record { within = sides.within; left_low = omega (arith, left_height, sides.left_low); right_low = omega (arith, right_height, sides.right_low) }

  pub joined : height l ≤ height r + 1 → height r ≤ height l + 1 → Joins s (linked s k a b) k l r k (fork l (entry_at s k) r)
  joined near other =
      let apart = middle_alone s k a b l r sides in
      record {
        tree = record {
          fits = omega (arith, linked_long s k a b, sides.left.fits);
          shown =
              linked_shows s k a b l r (entry_at s k) sides.left.fits sides.within sides.left.shown sides.right.shown sides.left.root sides.right.root refl refl apart.front apart.back;
          root = refl;
          rising = whole_rising s k a b l r sides;
          balanced = (near, other, sides.left.balanced, sides.right.balanced);
        };
        long = linked_long s k a b;
        holds = refl;
        not_lower = omega arith;
        one_higher = omega arith;
        level = λ p q. refl;
        beside = λ j lacks.
            linked_other s k a b j (λ e. (all_split (λ (x : Entry). x.number ≡ j → ⊥) (entries l) (entry_at s k ∷ entries r) lacks).1.0 (sym e));
        few = record { numbers = k ∷ []; few = omega arith; same = λ j lacks. linked_other s k a b j (λ e. lacks.0 (sym e)) };
      }
