-- From what the index keeps to what contracts see.
use Rattle.std.proofs.Common.{◌≡◌, ℕ, ◌+◌, ◌-◌, ◌*◌, ◌<◌, ◌≤◌, true, false, Some, None, List, ◌++◌, length, take, drop, map, get_or, set as set_slot, Option, sym, ap, subst, ◌∙◌, arith, length-set}
use Rattle.std.proofs.Math.Seq.{take-append_seam}
use Rattle.std.proofs.lemmas.List.{get_or_read}
use Rattle.std.specs.FinSet as set
use Rattle.std.specs.Vec.{vec_capacity}
use Rattle.vs_free_tree.specs.declared.FreeIndex.TheInside.{Inside}
use Rattle.vs_free_tree.proofs.SetLemmas.{untouched}
use Rattle.vs_free_tree.specs.declared.Node.{Node}
use Rattle.vs_free_tree.specs.declared.tree.Slot.{Slot}
use Rattle.vs_free_tree.specs.Gaps.{Gaps}
use Rattle.vs_free_tree.specs.Tree.{Tree, entries, height, Lack}
use Rattle.vs_free_tree.specs.Index.{GapTree, root_height, DifferInAtMost}
use Rattle.vs_free_tree.specs.Slots.{IsTreeAt, ChangeAtMost, CanInsertInto, CanInsert, IsInserted, TakesOut, CanTakeOut, IsTakenOut}
use Rattle.vs_free_tree.specs.Kept.{gaps_under, number_seen, seen, seen_as, IsKept}
use Rattle.vs_free_tree.proofs.SeenLemmas.{height_seen, differ}
use Rattle.vs_free_tree.proofs.GapLemmas.{absent_if_lack}
use Rattle.vs_free_tree.proofs.KeptLemmas.{total, gaps_are, can_insert, kept_put, gaps_put, few_tree, node_within, kept_out, held_out, gaps_out, few_out}
use Rattle.vs_free_tree.specs.declared.removal.Taken.{Taken}
use Rattle.vs_free_tree.specs.declared.tree.TheConstants.{NONE}

-- the items of a Vec after a call that wrote all of them
written : (n : ℕ) (s z : List Slot) → n ≡ length s → length z ≡ length s → take n (z ++ drop (length z) s) ≡ z
written n s z e long = ap (λ m. take m (z ++ drop (length z) s)) (e ∙ sym long) ∙ take-append_seam z (drop (length z) s)

same_but : (g h : Gaps) (c d r q : ℕ) (root : Option ℕ) (nodes : List (Option Node)) → g ≡ h → c ≡ d → r ≡ q
    → (let x : GapTree = record { gaps = g; capacity = c; reserved = r; root = root; nodes = nodes } in x)
    ≡ (let y : GapTree = record { gaps = h; capacity = d; reserved = q; root = root; nodes = nodes } in y)
same_but g h c d r q root nodes a b e i = record { gaps = a i; capacity = b i; reserved = e i; root = root; nodes = nodes }

-- the nodes that differ, where at most 3 for each level and one more were written
changed : (s z : List Slot) (root reserved j : ℕ) (t : Tree) (x : GapTree) → IsTreeAt s root t → seen_as s root reserved ≡ x → ChangeAtMost (3 * height t + 1) s z
    → DifferInAtMost (3 * root_height x + 4) x (seen_as z j reserved)
changed s z root reserved j t x tree e few =
    subst (λ (y : GapTree). DifferInAtMost (3 * root_height y + 4) y (seen_as z j reserved)) e
    (differ (3 * height t + 1) (3 * root_height (seen_as s root reserved) + 4) s z root reserved j reserved few
    (let own = height_seen s root reserved t tree in omega (arith, own)))

-- what the fields are after a call: w are the slots, and h the set of the gaps
pub record BecomesFrom (x : GapTree) (reserved : ℕ) (w : List Slot) (root free spare : ℕ) (h : Gaps) : Type 0 where
  pub keeps : IsKept w root free spare
  pub gaps : seen_as w root reserved ≡ record x { gaps = h; root = number_seen root; nodes = map seen w }
  pub changes : DifferInAtMost (3 * root_height x + 4) x (seen_as w root reserved)

module _ (a : Inside) (x : GapTree) (kept : IsKept a.nodes.items a.root a.free a.spare) (view : seen_as a.nodes.items a.root (vec_capacity a.nodes) ≡ x) (g : ℕ × ℕ) where
  abbrev s : List Slot
  s = a.nodes.items

  -- the slots after a call that was lent all of them and left them as z
  abbrev pub left_as : List Slot → List Slot
  left_as z = take a.nodes.len (z ++ drop (length z) s)

  is_left : (z : List Slot) → length z ≡ length s → left_as z ≡ z
  is_left z long = written a.nodes.len s z a.nodes.ok.0 long

  ---- A gap is put in

  module _ (room : set.len x.gaps < x.capacity) (absent : set.contains x.gaps g ≡ false) where
    some : 0 < a.spare
    some =
        omega (arith, room, total s a.root a.free a.spare kept, ap (λ (y : GapTree). set.len y.gaps) view, ap (λ (y : GapTree). y.capacity) view)

    can : CanInsertInto s a.root g a.free kept.tree
    can = can_insert s a.root a.free a.spare kept some g (ap (λ (y : GapTree). set.contains y.gaps g) view ∙ absent)

    pub spare_some : 1 ≤ a.spare
    spare_some = omega (arith, some)

    pub free_within : a.free < a.nodes.len
    free_within = omega (arith, can.within, a.nodes.ok.0)

    pub can_put : (d : List Slot) → d ≡ s → CanInsert d a.root g a.free
    can_put d e = subst (λ (y : List Slot). CanInsert y a.root g a.free) (sym e) (kept.tree, can)

    pub put_in : (d z : List Slot) (j : ℕ) (next : Slot) → d ≡ s → IsInserted d z a.root g a.free j → next ≡ get_or s a.free next
        → BecomesFrom x (vec_capacity a.nodes) (left_as z) j next.left (a.spare - 1) (set.insert x.gaps g)
    put_in d z j next e inserted read =
        let new = subst (λ (y : List Slot). IsInserted y z a.root g a.free j) e inserted kept.tree can in
        let all = is_left z new.1.long in
        let left = ap (λ (v : Slot). v.left) (get_or_read s a.free next can.within read (record { at = 0; left = 0; right = 0; units = 0; height = 0 })) in
        record {
          keeps =
              subst (λ (w : List Slot). IsKept w j next.left (a.spare - 1)) (sym all)
              (subst (λ n. IsKept z j n (a.spare - 1)) (sym left) (kept_put s a.root a.free a.spare kept some g z j new.0 new.1));
          gaps =
              same_but _ _ _ _ _ _ _ _
              (ap (λ (w : List Slot). gaps_under w j) all ∙ gaps_put s a.root a.free a.spare kept some g z j new.0 new.1 ∙ ap (λ (y : GapTree). set.insert y.gaps g) view)
              (ap (λ (w : List Slot). length w) all ∙ new.1.long ∙ ap (λ (y : GapTree). y.capacity) view)
              (ap (λ (y : GapTree). y.reserved) view);
          changes =
              subst (λ (w : List Slot). DifferInAtMost (3 * root_height x + 4) x (seen_as w j (vec_capacity a.nodes))) (sym all)
              (changed s z a.root (vec_capacity a.nodes) j kept.tree x kept.is_tree view new.1.few);
        }

  ---- A gap is taken out, or is not there

  pub can_take : (d : List Slot) → d ≡ s → CanTakeOut d a.root
  can_take d e = subst (λ (y : List Slot). CanTakeOut y a.root) (sym e) (kept.tree, few_tree s a.root a.free a.spare kept)

  module _ (d z : List Slot) (e : d ≡ s) where
    module _ (out : IsTakenOut d z a.root g None) where
      none : Lack (entries kept.tree) g × (z ≡ s)
      none = subst (λ (y : List Slot). IsTakenOut y z a.root g None) e out kept.tree (few_tree s a.root a.free a.spare kept)

      pub absent_gap : set.contains x.gaps g ≡ false
      absent_gap =
          sym (ap (λ (y : GapTree). set.contains y.gaps g) view) ∙ ap (λ v. set.contains v g) (gaps_are s a.root a.free a.spare kept)
          ∙ absent_if_lack (entries kept.tree) g none.0

      pub untaken : seen_as (left_as z) a.root (vec_capacity a.nodes) ≡ record x { gaps = set.remove x.gaps g; root = number_seen a.root; nodes = map seen (left_as z) }
      untaken =
          let all = is_left z (ap (λ (y : List Slot). length y) none.1) ∙ none.1 in
          same_but _ _ _ _ _ _ _ _
          (ap (λ (w : List Slot). gaps_under w a.root) all ∙ ap (λ (y : GapTree). y.gaps) view ∙ sym (untouched x.gaps g absent_gap))
          (ap (λ (w : List Slot). length w) all ∙ ap (λ (y : GapTree). y.capacity) view)
          (ap (λ (y : GapTree). y.reserved) view)

    module _ (t : Taken) (out : IsTakenOut d z a.root g (Some t)) where
      rest : (u : Tree) × TakesOut s z g kept.tree t u
      rest = subst (λ (y : List Slot). IsTakenOut y z a.root g (Some t)) e out kept.tree (few_tree s a.root a.free a.spare kept)

      pub taken_within : t.node < a.nodes.len
      taken_within = omega (arith, node_within s a.root a.free a.spare kept g z t rest.0 rest.1, a.nodes.ok.0)

      pub held_gap : set.contains x.gaps g ≡ true
      held_gap = sym (ap (λ (y : GapTree). set.contains y.gaps g) view) ∙ held_out s a.root a.free a.spare kept g z t rest.0 rest.1

      -- v is the slot of a free node
      pub taken_out : (v : Slot) → v ≡ record { at = 0; left = a.free; right = NONE; units = 0; height = 0 }
          → BecomesFrom x (vec_capacity a.nodes) (set_slot (left_as z) t.node v) t.root t.node (a.spare + 1) (set.remove x.gaps g)
      taken_out v ev =
          let all : set_slot (left_as z) t.node v ≡ set_slot z t.node (record { at = 0; left = a.free; right = NONE; units = 0; height = 0 }) =
          ap (λ (w : List Slot). set_slot w t.node v) (is_left z rest.1.long) ∙ ap (set_slot z t.node) ev in
          record {
            keeps =
                subst (λ (w : List Slot). IsKept w t.root t.node (a.spare + 1)) (sym all) (kept_out s a.root a.free a.spare kept g z t rest.0 rest.1);
            gaps =
                same_but _ _ _ _ _ _ _ _
                (ap (λ (w : List Slot). gaps_under w t.root) all ∙ gaps_out s a.root a.free a.spare kept g z t rest.0 rest.1 ∙ ap (λ (y : GapTree). set.remove y.gaps g) view)
                (ap (λ (w : List Slot). length w) all ∙ length-set z t.node _ ∙ rest.1.long ∙ ap (λ (y : GapTree). y.capacity) view)
                (ap (λ (y : GapTree). y.reserved) view);
            changes =
                subst (λ (w : List Slot). DifferInAtMost (3 * root_height x + 4) x (seen_as w t.root (vec_capacity a.nodes))) (sym all)
                (changed s _ a.root (vec_capacity a.nodes) t.root kept.tree x kept.is_tree view (few_out s a.root a.free a.spare kept g z t rest.0 rest.1));
          }
