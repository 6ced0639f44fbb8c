-- What contracts see of the slots of a tree.
use Rattle.std.proofs.Common.{◌≡◌, ◌≢◌, ℕ, zero, suc, ◌^◌, ◌<◌, ◌≤◌, max, Bool, true, false, List, length, Option, Some, None, refl, sym, ap, ◌∙◌, arith, eq-eqb}
use Rattle.std.specs.Prelude.{◌==◌, if◌then◌else◌}
use Rattle.std.proofs.Math.ListN.{get_or-map}
use Rattle.std.proofs.lemmas.Bool.{eqb-true}
use Rattle.std.proofs.lemmas.List.{length-map}
use Rattle.vs_free_tree.specs.declared.Node.{Node}
use Rattle.vs_free_tree.specs.declared.tree.Slot.{Slot}
use Rattle.vs_free_tree.specs.declared.tree.TheConstants.{NONE}
use Rattle.vs_free_tree.specs.Tree.{Entry, Tree, leaf, fork, entries, height, Avoid}
use Rattle.vs_free_tree.specs.Index.{node_at, number_of_root, node_of, Answers, IsShownBy, height_of, height_from, root_height, DifferInAtMost}
use Rattle.vs_free_tree.specs.Slots.{slot_at, height_at, gap_at, entry_at, root_of, Show, IsTreeAt, ChangeAtMost}
use Rattle.vs_free_tree.specs.Kept.{tree_under, gaps_under, number_seen, seen, seen_as}
use Rattle.vs_free_tree.proofs.SlotLemmas.{height_shown}
use Rattle.vs_free_tree.proofs.GapLemmas.{gaps_of, is_search_tree}

then_if : {X : Type 0} (n k : ℕ) (a b : X) → n ≡ k → (if n == k then a else b) ≡ a
then_if n k a b e = ap (λ m. if m == k then a else b) e ∙ same k
  where
    same : (m : ℕ) → (if m == m then a else b) ≡ a
    same m = ap (λ t. if t then a else b) (eq-eqb m m refl)

else_if : {X : Type 0} (n k : ℕ) (a b : X) → n ≢ k → (if n == k then a else b) ≡ b
else_if n k a b other = by (n == k) refl
  where
    by : (t : Bool) → (n == k) ≡ t → (if t then a else b) ≡ b
    by true f = absurd (other (eqb-true n k f))
    by false f = refl

---- The tree that is told back from the slots

pub tree_told : (s : List Slot) (n : ℕ) (t : Tree) → length s < 2 ^ 32 → Show s t → height t ≤ n → tree_under s n (root_of t) ≡ t
unfolding tree_under
tree_told s zero leaf fits sh low = refl
tree_told s zero (fork l e r) fits sh low = absurd (omega arith)
tree_told s (suc n) leaf fits sh low = then_if (height_at s NONE) 0 leaf _ (height_shown s leaf fits sh)
tree_told s (suc n) (fork l e r) fits sh low =
    let own : height_at s e.number ≡ height (fork l e r) = height_shown s (fork l e r) fits sh in
    let left = ap (λ (x : Slot). tree_under s n x.left) sh.1 ∙ tree_told s n l fits sh.2 (omega arith) in
    let right = ap (λ (x : Slot). tree_under s n x.right) sh.1 ∙ tree_told s n r fits sh.3 (omega arith) in
    let gap : gap_at s e.number ≡ e.gap = ap (λ (x : Slot). let g : ℕ × ℕ = (x.units, x.at) in g) sh.1 in
    else_if (height_at s e.number) 0 leaf _ (omega (arith, own)) ∙ all_three left gap right
  where
    all_three : {a b c d : Tree} → a ≡ b → gap_at s e.number ≡ e.gap → c ≡ d → fork a (entry_at s e.number) c ≡ fork b e d
    all_three p q r i = fork (p i) (record { number = e.number; gap = q i }) (r i)

pub gaps_told : (s : List Slot) (root : ℕ) (t : Tree) → IsTreeAt s root t → gaps_under s root ≡ gaps_of (entries t)
unfolding gaps_under
gaps_told s root t tree =
    ap (λ n. gaps_of (entries (tree_under s (height_at s n) n))) tree.root
    ∙ ap (λ (u : Tree). gaps_of (entries u))
    (tree_told s (height_at s (root_of t)) t tree.fits tree.shown (let own = height_shown s t tree.fits tree.shown in omega (arith, own)))

---- The nodes

pub seen_free : (x : Slot) → x.height ≡ 0 → seen x ≡ None
seen_free x e = then_if x.height 0 None _ e

number_is : (s : List Slot) (t : Tree) → length s < 2 ^ 32 → Show s t → number_seen (root_of t) ≡ number_of_root t
number_is s leaf fits sh = refl
number_is s (fork l e r) fits sh = else_if e.number NONE None (Some e.number) (omega (arith, sh.0))

seen_node : (s : List Slot) (l : Tree) (e : Entry) (r : Tree) → length s < 2 ^ 32 → Show s (fork l e r) → seen (slot_at s e.number) ≡ Some (node_of l e r)
seen_node s l e r fits sh =
    ap seen sh.1
    ∙ else_if (suc (max (height l) (height r))) 0 None _ (omega arith)
    ∙ both (number_is s l fits sh.2) (number_is s r fits sh.3)
  where
    with_sides : Option ℕ → Option ℕ → Node
    with_sides a b = record { units = e.gap.0; at = e.gap.1; left = a; right = b; height = suc (max (height l) (height r)) }

    both : {a b c d : Option ℕ} → a ≡ b → c ≡ d → Some (with_sides a c) ≡ Some (with_sides b d)
    both p q i = Some (with_sides (p i) (q i))

pub node_seen : (s : List Slot) (root reserved i : ℕ) → node_at (seen_as s root reserved) i ≡ seen (slot_at s i)
node_seen s root reserved i = get_or-map seen s i (record { at = 0; left = 0; right = 0; units = 0; height = 0 })

module _ (s : List Slot) (root reserved : ℕ) where
  answers : (t : Tree) → length s < 2 ^ 32 → Show s t → Answers (seen_as s root reserved) t
  answers leaf fits sh = tt
  answers (fork l e r) fits sh =
      (node_seen s root reserved e.number ∙ seen_node s l e r fits sh, answers l fits sh.2, answers r fits sh.3)

  pub shown_by : (t : Tree) → IsTreeAt s root t → ((i : ℕ) → Avoid (entries t) i → height_at s i ≡ 0) → IsShownBy (seen_as s root reserved) t
  shown_by t tree others = record {
    root = ap number_seen tree.root ∙ number_is s t tree.fits tree.shown;
    nodes = answers t tree.fits tree.shown;
    others = λ i lacks. node_seen s root reserved i ∙ seen_free (slot_at s i) (others i lacks);
    numbers = length-map s seen;
    gaps = gaps_told s root t tree;
    ordered = is_search_tree t tree.rising;
    balanced = tree.balanced;
  }

  pub height_seen : (t : Tree) → IsTreeAt s root t → root_height (seen_as s root reserved) ≡ height t
  height_seen t tree =
      ap (height_from (seen_as s root reserved)) (ap number_seen tree.root ∙ number_is s t tree.fits tree.shown) ∙ by t tree.fits tree.shown
    where
      by : (t : Tree) → length s < 2 ^ 32 → Show s t → height_from (seen_as s root reserved) (number_of_root t) ≡ height t
      by leaf fits sh = refl
      by (fork l e r) fits sh = ap height_of (node_seen s root reserved e.number ∙ seen_node s l e r fits sh)

pub differ : (n m : ℕ) (s z : List Slot) (a b c d : ℕ) → ChangeAtMost n s z → n ≤ m → DifferInAtMost m (seen_as s a b) (seen_as z c d)
differ n m s z a b c d change most = record {
  numbers = change.numbers;
  few = omega (arith, change.few);
  same = λ i lacks. node_seen z c d i ∙ ap seen (change.same i lacks) ∙ sym (node_seen s a b i);
}
