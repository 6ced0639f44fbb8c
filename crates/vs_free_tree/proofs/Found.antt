-- What `best` owes at each of its steps.
use Rattle.std.proofs.Common.{◌≡◌, ◌≢◌, ℕ, ◌<◌, ◌≤◌, true, List, ◌∷◌, ◌++◌, length, Option, Some, None, refl, sym, ap, ◌∙◌, subst, arith, append_assoc}
use Rattle.std.specs.List.{AllByRecursion}
use Rattle.std.proofs.lemmas.Bool.Decides.{nat_tests}
use Rattle.vs_free_tree.specs.declared.tree.Slot.{Slot}
use Rattle.vs_free_tree.specs.declared.tree.TheConstants.{NONE}
use Rattle.vs_free_tree.specs.Gaps.{is_before}
use Rattle.vs_free_tree.specs.Tree.{Entry, leaf, fork, entries, AreBefore}
use Rattle.vs_free_tree.specs.Slots.{slot_at, height_at, gap_at, Finds, CanSearch, IsFound}
use Rattle.vs_free_tree.proofs.EntryLemmas.{all_join, all_weaker}
use Rattle.vs_free_tree.proofs.Sides.{node_within, node_gap, left_tree, right_tree, lower_left_side, lower_right_side, all_before}

not_larger : (g h : ℕ × ℕ) → is_before g h ≡ true → g.0 ≤ h.0
not_larger g h e = grind (arith, nat_tests)

-- the gaps in front of one that is too small are too small
all_smaller : (es : List Entry) (g : ℕ × ℕ) (units : ℕ) → AreBefore es g → g.0 < units → AllByRecursion (λ x. x.gap.0 < units) es
all_smaller es g units before small =
    all_weaker (λ (x : Entry). is_before x.gap g ≡ true) (λ (x : Entry). x.gap.0 < units) (λ x b. let low = not_larger x.gap g b in omega arith) es before

module _ (units : ℕ) (front : List Entry) (e : Entry) (back : List Entry) where
  from_right : (found : Option (ℕ × ℕ)) → AllByRecursion (λ x. x.gap.0 < units) front → e.gap.0 < units → Finds units back found → Finds units (front ++ e ∷ back) found
  from_right None smaller small none = all_join (λ (x : Entry). x.gap.0 < units) front (e ∷ back) smaller (small, none)
  from_right (Some g) smaller small f = record {
    front = front ++ e ∷ f.front;
    entry = f.entry;
    back = f.back;
    holds = ap (λ (es : List Entry). front ++ e ∷ es) f.holds ∙ sym (append_assoc front (e ∷ f.front) (f.entry ∷ f.back));
    gap = f.gap;
    smaller = all_join (λ (x : Entry). x.gap.0 < units) front (e ∷ f.front) smaller (small, f.smaller);
    fits = f.fits;
  }

  from_left : (g : ℕ × ℕ) → Finds units front (Some g) → Finds units (front ++ e ∷ back) (Some g)
  from_left g f = record {
    front = f.front;
    entry = f.entry;
    back = f.back ++ e ∷ back;
    holds = ap (λ (es : List Entry). es ++ e ∷ back) f.holds ∙ append_assoc f.front (f.entry ∷ f.back) (e ∷ back);
    gap = f.gap;
    smaller = f.smaller;
    fits = f.fits;
  }

  itself : (g : ℕ × ℕ) → e.gap ≡ g → units ≤ g.0 → Finds units front None → Finds units (front ++ e ∷ back) (Some g)
  itself g same fits smaller = record { front = front; entry = e; back = back; holds = refl; gap = same; smaller = smaller; fits = fits }

pub found_none : (s : List Slot) (i units : ℕ) → i ≡ NONE → IsFound s i units None
found_none s i units none leaf tree = tt
found_none s i units none (fork L e R) tree = absurd (omega (arith, none, tree.root, tree.shown.0, tree.fits))

module _ (s : List Slot) (i units : ℕ) (some : i ≢ NONE) where
  pub within_of : CanSearch s i → i < length s
  within_of (leaf, tree) = absurd (some tree.root)
  within_of (fork L e R, tree) = node_within s i L e R tree

  pub left_of : CanSearch s i → CanSearch s (slot_at s i).left
  left_of (leaf, tree) = absurd (some tree.root)
  left_of (fork L e R, tree) = (L, left_tree s i L e R tree)

  pub right_of : CanSearch s i → CanSearch s (slot_at s i).right
  right_of (leaf, tree) = absurd (some tree.root)
  right_of (fork L e R, tree) = (R, right_tree s i L e R tree)

  pub left_lower : CanSearch s i → height_at s (slot_at s i).left < height_at s i
  left_lower (leaf, tree) = absurd (some tree.root)
  left_lower (fork L e R, tree) = lower_left_side s i L e R tree

  pub right_lower : CanSearch s i → height_at s (slot_at s i).right < height_at s i
  right_lower (leaf, tree) = absurd (some tree.root)
  right_lower (fork L e R, tree) = lower_right_side s i L e R tree

  pub found_right : (found : Option (ℕ × ℕ)) → (slot_at s i).units < units → IsFound s (slot_at s i).right units found → IsFound s i units found
  found_right found small right leaf tree = absurd (some tree.root)
  found_right found small right (fork L e R) tree =
      let low : e.gap.0 < units = subst (λ n. n < units) (ap (λ (g : ℕ × ℕ). g.0) (node_gap s i L e R tree)) small in
      from_right units (entries L) e (entries R) found (all_smaller (entries L) e.gap units (all_before s i L e R tree) low) low (right R (right_tree s i L e R tree))

  pub found_left : (g : ℕ × ℕ) → IsFound s (slot_at s i).left units (Some g) → IsFound s i units (Some g)
  found_left g left leaf tree = absurd (some tree.root)
  found_left g left (fork L e R) tree = from_left units (entries L) e (entries R) g (left L (left_tree s i L e R tree))

  pub found_itself : units ≤ (slot_at s i).units → IsFound s (slot_at s i).left units None → IsFound s i units (Some (gap_at s i))
  found_itself fits left leaf tree = absurd (some tree.root)
  found_itself fits left (fork L e R) tree =
      itself units (entries L) e (entries R) (gap_at s i) (sym (node_gap s i L e R tree)) fits (left L (left_tree s i L e R tree))
