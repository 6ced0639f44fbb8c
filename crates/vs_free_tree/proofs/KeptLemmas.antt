-- What the index keeps over each call.
use Rattle.std.proofs.Common.{◌≡◌, ◌≢◌, ℕ, ◌+◌, ◌-◌, ◌*◌, ◌<◌, ◌≤◌, true, false, inl, inr, List, [], ◌∷◌, ◌++◌, length, set, refl, sym, ap, subst, ◌∙◌, arith, length-append, length-set, get_or-set_same, get_or-set_other}
use Rattle.std.specs.List.{AllByRecursion}
use Rattle.std.specs.FinSet as finset
use Rattle.std.proofs.lemmas.Bool.{cases_eq}
use Rattle.vs_free_tree.specs.declared.tree.Slot.{Slot}
use Rattle.vs_free_tree.specs.declared.tree.TheConstants.{NONE}
use Rattle.vs_free_tree.specs.declared.removal.Taken.{Taken}
use Rattle.vs_free_tree.specs.Tree.{Entry, Tree, entries, height, Avoid, AreRising}
use Rattle.vs_free_tree.specs.Slots.{slot_at, height_at, Show, IsTreeAt, ChangeAtMost, CanInsertInto, Inserts, IsFewTreeAt, TakesOut}
use Rattle.vs_free_tree.specs.Kept.{gaps_under, AreFree, AreApart, IsKept}
use Rattle.vs_free_tree.proofs.EntryLemmas.{all_split, all_join, all_weaker, all_both, all_put, all_drop}
use Rattle.vs_free_tree.proofs.SlotLemmas.{shown_heights, shown_gaps, shown_within, HasItsGap, alone, keep}
use Rattle.vs_free_tree.proofs.Sides.{change_then}
use Rattle.vs_free_tree.proofs.GapLemmas.{gaps_of, counted, lack_if_absent, of_put, of_held, of_taken}
use Rattle.vs_free_tree.proofs.SeenLemmas.{gaps_told}

---- The free nodes

pub record HasFree (s : List Slot) (i : ℕ) (ks : List ℕ) : Type 0 where
  pub rest : List ℕ
  pub is : ks ≡ i ∷ rest
  pub within : i < length s
  pub zero_high : height_at s i ≡ 0
  pub behind : AreFree s (slot_at s i).left rest

has_free : (s : List Slot) (i : ℕ) (ks : List ℕ) → AreFree s i ks → 0 < length ks → HasFree s i ks
has_free s i [] f some = absurd (omega arith)
has_free s i (k ∷ ks) f some = record {
  rest = ks;
  is = ap (λ (n : ℕ). n ∷ ks) (sym f.0);
  within = omega (arith, f.0, f.1);
  zero_high = ap (height_at s) f.0 ∙ f.2;
  behind = subst (λ n. AreFree s (slot_at s n).left ks) (sym f.0) f.3;
}

free_low : (s : List Slot) (i : ℕ) (ks : List ℕ) → AreFree s i ks → AllByRecursion (λ k. height_at s k ≡ 0) ks
free_low s i [] f = tt
free_low s i (k ∷ ks) f = (f.2, free_low s (slot_at s k).left ks f.3)

pub keep_free : (s z : List Slot) (i : ℕ) (ks : List ℕ) → AreFree s i ks → length s ≤ length z → AllByRecursion (λ k. slot_at z k ≡ slot_at s k) ks → AreFree z i ks
keep_free s z i [] f long same = f
keep_free s z i (k ∷ ks) f long same = (
  f.0,
  omega (arith, f.1, long),
  ap (λ (x : Slot). x.height) same.0 ∙ f.2,
  subst (λ n. AreFree z n ks) (sym (ap (λ (x : Slot). x.left) same.0)) (keep_free s z (slot_at s k).left ks f.3 long same.1),
)

-- a free node is none of the tree's
free_apart : (s : List Slot) (t : Tree) (k : ℕ) → Show s t → height_at s k ≡ 0 → Avoid (entries t) k
free_apart s t k sh low =
    all_weaker (λ (x : Entry). height_at s x.number ≢ 0) (λ (x : Entry). x.number ≢ k) (λ x some same. some (ap (height_at s) same ∙ low)) (entries t) (shown_heights s t sh)

module _ (s : List Slot) (root free spare : ℕ) (kept : IsKept s root free spare) where
  tree : Tree
  tree = kept.tree

  pub gaps_are : gaps_under s root ≡ gaps_of (entries kept.tree)
  gaps_are = gaps_told s root kept.tree kept.is_tree

  pub total : spare + finset.len (gaps_under s root) ≡ length s
  total = omega (arith, ap finset.len gaps_are, counted (entries kept.tree) kept.is_tree.rising, kept.counted)

  all_apart : AllByRecursion (λ k. Avoid (entries kept.tree) k) kept.freed
  all_apart =
      all_weaker (λ (k : ℕ). height_at s k ≡ 0) (λ (k : ℕ). Avoid (entries kept.tree) k) (λ k low. free_apart s kept.tree k kept.is_tree.shown low) kept.freed
      (free_low s free kept.freed kept.are_free)

  ---- A gap is put in

  module _ (some : 0 < spare) where
    pub first : HasFree s free kept.freed
    first = has_free s free kept.freed kept.are_free (omega (arith, kept.spare_is))

    rest_apart : AllByRecursion (λ k. k ≢ free) first.rest × AreApart first.rest
    rest_apart = subst AreApart first.is kept.apart

    pub can_insert : (g : ℕ × ℕ) → finset.contains (gaps_under s root) g ≡ false → CanInsertInto s root g free kept.tree
    can_insert g absent = record {
      tree = kept.is_tree;
      few = omega (arith, kept.counted, kept.is_tree.fits);
      within = first.within;
      free = first.zero_high;
      absent = lack_if_absent (entries kept.tree) g (sym (ap (λ s. finset.contains s g) gaps_are) ∙ absent);
    }

    module _ (g : ℕ × ℕ) (z : List Slot) (j : ℕ) (u : Tree) (put : Inserts s z g free kept.tree j u) where
      abbrev X : Entry
      X = record { number = free; gap = g }

      with_new : (k : ℕ) → free ≢ k → Avoid (entries kept.tree) k → Avoid (entries u) k
      with_new k other lacks =
          subst (λ es. Avoid es k) (sym put.holds) (all_put (λ (y : Entry). y.number ≢ k) put.front X put.back other (subst (λ es. Avoid es k) put.was lacks))

      without_new : (k : ℕ) → Avoid (entries u) k → Avoid (entries kept.tree) k
      without_new k lacks =
          subst (λ es. Avoid es k) (sym put.was) (all_drop (λ (y : Entry). y.number ≢ k) put.front X put.back (subst (λ es. Avoid es k) put.holds lacks))

      longer : length (entries u) ≡ length (entries kept.tree) + 1
      longer = omega (arith, ap length put.holds, ap length put.was, length-append put.front (X ∷ put.back), length-append put.front put.back)

      pub kept_put : IsKept z j (slot_at s free).left (spare - 1)
      kept_put = record {
        tree = u;
        is_tree = put.tree;
        others = λ k lacks. ap (λ (x : Slot). x.height) (put.beside k lacks) ∙ kept.others k (without_new k lacks);
        freed = first.rest;
        are_free =
            keep_free s z (slot_at s free).left first.rest first.behind (omega (arith, put.long))
            (all_both (λ (k : ℕ). k ≢ free) (λ (k : ℕ). Avoid (entries kept.tree) k) (λ (k : ℕ). slot_at z k ≡ slot_at s k)
            (λ k other lacks. put.beside k (with_new k (λ e. other (sym e)) lacks)) first.rest rest_apart.0
            (subst (AllByRecursion (λ k. Avoid (entries kept.tree) k)) first.is all_apart).1);
        apart = rest_apart.1;
        spare_is = omega (arith, kept.spare_is, ap length first.is);
        counted = omega (arith, longer, kept.counted, put.long);
      }

      pub gaps_put : gaps_under z j ≡ finset.insert (gaps_under s root) g
      gaps_put =
          gaps_told z j u put.tree
          ∙ ap gaps_of put.holds
          ∙ of_put put.front X put.back
          ∙ ap (λ (es : List Entry). finset.insert (gaps_of es) g) (sym put.was)
          ∙ ap (λ s. finset.insert s g) (sym gaps_are)

  ---- A gap is taken out

  pub few_tree : IsFewTreeAt s root kept.tree
  few_tree = record { tree = kept.is_tree; few = omega (arith, kept.counted, kept.is_tree.fits) }

  module _ (g : ℕ × ℕ) (z : List Slot) (x : Taken) (u : Tree) (out : TakesOut s z g kept.tree x u) where
    abbrev Y : Entry
    Y = record { number = x.node; gap = g }

    abbrev freed_slot : Slot
    freed_slot = record { at = 0; left = free; right = NONE; units = 0; height = 0 }

    abbrev after : List Slot
    after = set z x.node freed_slot

    rising : AreRising (out.front ++ Y ∷ out.back)
    rising = subst AreRising out.was kept.is_tree.rising

    -- the number is none of the new tree's
    gone : Avoid (entries u) x.node
    gone =
        let it = alone s out.front Y out.back rising (subst (AllByRecursion (HasItsGap s)) out.was (shown_gaps s kept.tree kept.is_tree.shown)) in
        subst (λ es. Avoid es x.node) (sym out.holds) (all_join (λ (y : Entry). y.number ≢ x.node) out.front out.back it.front it.back)

    pub node_within : x.node < length s
    node_within =
        (all_split (λ (y : Entry). y.number < length s) out.front (Y ∷ out.back) (subst (AllByRecursion (λ (y : Entry). y.number < length s)) out.was (shown_within s kept.tree kept.is_tree.shown))).1.0

    with_old : (k : ℕ) → x.node ≢ k → Avoid (entries u) k → Avoid (entries kept.tree) k
    with_old k other lacks =
        subst (λ es. Avoid es k) (sym out.was) (all_put (λ (y : Entry). y.number ≢ k) out.front Y out.back other (subst (λ es. Avoid es k) out.holds lacks))

    without_old : (k : ℕ) → Avoid (entries kept.tree) k → (x.node ≢ k) × Avoid (entries u) k
    without_old k lacks =
        let all = subst (λ es. Avoid es k) out.was lacks in (
          (all_split (λ (y : Entry). y.number ≢ k) out.front (Y ∷ out.back) all).1.0,
          subst (λ es. Avoid es k) (sym out.holds) (all_drop (λ (y : Entry). y.number ≢ k) out.front Y out.back all),
        )

    long_after : length after ≡ length s
    long_after = length-set z x.node freed_slot ∙ out.long

    other_slot : (k : ℕ) → x.node ≢ k → slot_at after k ≡ slot_at z k
    other_slot k other = get_or-set_other z x.node k freed_slot _ (λ e. other (sym e))

    own_slot : slot_at after x.node ≡ freed_slot
    own_slot = get_or-set_same z x.node freed_slot _ (omega (arith, node_within, out.long))

    tree_after : IsTreeAt after x.root u
    tree_after = record {
      fits = omega (arith, long_after, kept.is_tree.fits);
      shown =
          keep z after u out.tree.shown (length-set z x.node freed_slot)
          (all_weaker (λ (y : Entry). y.number ≢ x.node) (λ (y : Entry). slot_at after y.number ≡ slot_at z y.number) (λ y other. other_slot y.number (λ e. other (sym e))) (entries u) gone);
      root = out.tree.root;
      rising = out.tree.rising;
      balanced = out.tree.balanced;
    }

    low_after : (k : ℕ) → Avoid (entries u) k → height_at after k ≡ 0
    low_after k lacks = elim (cases_eq k x.node) [
      | inl e ↦ ap (height_at after) e ∙ ap (λ (v : Slot). v.height) own_slot
      | inr other ↦
          ap (λ (v : Slot). v.height) (other_slot k (λ e. other (sym e)) ∙ out.beside k lacks) ∙ kept.others k (with_old k (λ e. other (sym e)) lacks)
    ]

    shorter : length (entries kept.tree) ≡ length (entries u) + 1
    shorter = omega (arith, ap length out.was, ap length out.holds, length-append out.front (Y ∷ out.back), length-append out.front out.back)

    pub kept_out : IsKept after x.root x.node (spare + 1)
    kept_out = record {
      tree = u;
      is_tree = tree_after;
      others = low_after;
      freed = x.node ∷ kept.freed;
      are_free = (
        refl,
        omega (arith, node_within, long_after),
        ap (λ (v : Slot). v.height) own_slot,
        subst (λ n. AreFree after n kept.freed) (sym (ap (λ (v : Slot). v.left) own_slot))
            (keep_free s after free kept.freed kept.are_free (omega (arith, long_after))
            (all_weaker (λ (k : ℕ). Avoid (entries kept.tree) k) (λ (k : ℕ). slot_at after k ≡ slot_at s k)
            (λ k lacks. let parts = without_old k lacks in other_slot k parts.0 ∙ out.beside k parts.1) kept.freed all_apart)),
      );
      apart = (all_weaker (λ (k : ℕ). Avoid (entries kept.tree) k) (λ (k : ℕ). k ≢ x.node) (λ k lacks e. (without_old k lacks).0 (sym e)) kept.freed all_apart, kept.apart);
      spare_is = omega (arith, kept.spare_is);
      counted = omega (arith, shorter, kept.counted, long_after);
    }

    pub held_out : finset.contains (gaps_under s root) g ≡ true
    held_out =
        ap (λ v. finset.contains v g) gaps_are ∙ ap (λ (es : List Entry). finset.contains (gaps_of es) g) out.was ∙ of_held out.front Y out.back

    pub gaps_out : gaps_under after x.root ≡ finset.remove (gaps_under s root) g
    gaps_out =
        gaps_told after x.root u tree_after
        ∙ ap gaps_of out.holds
        ∙ of_taken out.front Y out.back rising
        ∙ ap (λ (es : List Entry). finset.remove (gaps_of es) g) (sym out.was)
        ∙ ap (λ v. finset.remove v g) (sym gaps_are)

    pub few_out : ChangeAtMost (3 * height kept.tree + 1) s after
    few_out =
        change_then (3 * height kept.tree) 1 (3 * height kept.tree + 1) s z after out.few
        (record { numbers = x.node ∷ []; few = omega arith; same = λ j lacks. other_slot j lacks.0 }) (omega arith)
