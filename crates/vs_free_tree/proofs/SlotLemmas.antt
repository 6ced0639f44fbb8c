-- Trees in slots, and what a write to one slot leaves of them.
use Rattle.std.proofs.Common.{◌≡◌, ◌≢◌, ℕ, suc, ◌^◌, ◌<◌, max, Bool, true, false, List, ◌∷◌, ◌++◌, length, sym, ap, ◌∙◌, arith, true≢false, get_or-set_other, get_or-set_same, length-set}
use Rattle.std.specs.List.{AllByRecursion}
use Rattle.std.proofs.lemmas.List.{get_or_past}
use Rattle.vs_free_tree.specs.declared.tree.Slot.{Slot}
use Rattle.vs_free_tree.specs.Gaps.{is_before}
use Rattle.vs_free_tree.specs.Tree.{Entry, Tree, leaf, fork, entries, height, AreRising, Avoid}
use Rattle.vs_free_tree.specs.Slots.{slot_at, height_at, gap_at, root_of, slot_of, Show, linked}
use Rattle.vs_free_tree.proofs.EntryLemmas.{before_itself, all_split, all_join, all_weaker, all_both, rising_cut}

pub height_shown : (s : List Slot) (t : Tree) → length s < 2 ^ 32 → Show s t → height_at s (root_of t) ≡ height t
height_shown s leaf fits sh = ap (λ (x : Slot). x.height) (get_or_past s 4294967295 _ (omega arith))
height_shown s (fork l e r) fits sh = ap (λ (x : Slot). x.height) sh.1

---- Numbers

abbrev pub HasItsGap : List Slot → Entry → Type 0
HasItsGap s e = gap_at s e.number ≡ e.gap

pub shown_gaps : (s : List Slot) (t : Tree) → Show s t → AllByRecursion (HasItsGap s) (entries t)
shown_gaps s leaf sh = tt
shown_gaps s (fork l e r) sh =
    all_join (HasItsGap s) (entries l) (e ∷ entries r) (shown_gaps s l sh.2)
    (ap (λ (x : Slot). let g : ℕ × ℕ = (x.units, x.at) in g) sh.1, shown_gaps s r sh.3)

-- a number has one gap, so it stands at one place of a rising list
pub other_number : (s : List Slot) (P : ℕ × ℕ → Bool) (es : List Entry) (i : ℕ) → AllByRecursion (HasItsGap s) es → AllByRecursion (λ e. P e.gap ≡ true) es
    → P (gap_at s i) ≡ false → Avoid es i
other_number s P es i has all other =
    all_both (HasItsGap s) (λ e. P e.gap ≡ true) (λ e. e.number ≢ i)
    (λ e own yes same. true≢false (sym yes ∙ ap P (sym own) ∙ ap (λ n. P (gap_at s n)) same ∙ other)) es has all

pub shown_within : (s : List Slot) (t : Tree) → Show s t → AllByRecursion (λ e. e.number < length s) (entries t)
shown_within s leaf sh = tt
shown_within s (fork l e r) sh =
    all_join (λ (x : Entry). x.number < length s) (entries l) (e ∷ entries r) (shown_within s l sh.2) (sh.0, shown_within s r sh.3)

-- a node of a tree is not free
pub shown_heights : (s : List Slot) (t : Tree) → Show s t → AllByRecursion (λ e. height_at s e.number ≢ 0) (entries t)
shown_heights s leaf sh = tt
shown_heights s (fork l e r) sh =
    all_join (λ (x : Entry). height_at s x.number ≢ 0) (entries l) (e ∷ entries r) (shown_heights s l sh.2)
    ((λ none. let some = ap (λ (x : Slot). x.height) sh.1 in omega (arith, none, some)), shown_heights s r sh.3)

pub record IsAlone (a : List Entry) (e : Entry) (b : List Entry) : Type 0 where
  pub front : Avoid a e.number
  pub back : Avoid b e.number

pub alone : (s : List Slot) (a : List Entry) (e : Entry) (b : List Entry) → AreRising (a ++ e ∷ b) → AllByRecursion (HasItsGap s) (a ++ e ∷ b) → IsAlone a e b
alone s a e b up has =
    let cut = rising_cut a e b up in
    let parts = all_split (HasItsGap s) a (e ∷ b) has in
    record {
      front = other_number s (λ g. is_before g e.gap) a e.number parts.0 cut.before (ap (λ g. is_before g e.gap) parts.1.0 ∙ before_itself e.gap);
      back = other_number s (λ g. is_before e.gap g) b e.number parts.1.1 cut.behind (ap (λ g. is_before e.gap g) parts.1.0 ∙ before_itself e.gap);
    }

---- What stays

pub keep : (s z : List Slot) (t : Tree) → Show s t → length z ≡ length s → AllByRecursion (λ e. slot_at z e.number ≡ slot_at s e.number) (entries t) → Show z t
keep s z leaf sh long same = tt
keep s z (fork l e r) sh long same =
    let parts = all_split (λ (x : Entry). slot_at z x.number ≡ slot_at s x.number) (entries l) (e ∷ entries r) same in
    let inside : e.number < length z = omega (arith, sh.0, long) in
    (inside, parts.1.0 ∙ sh.1, keep s z l sh.2 long parts.0, keep s z r sh.3 long parts.1.1)

---- After two trees have become the sides of the node k

module _ (s : List Slot) (k a b : ℕ) where
  pub linked_long : length (linked s k a b) ≡ length s
  linked_long = length-set s k _

  pub linked_other : (j : ℕ) → j ≢ k → slot_at (linked s k a b) j ≡ slot_at s j
  linked_other j other = get_or-set_other s k j _ _ other

  pub linked_here : k < length s → slot_at (linked s k a b) k ≡ record (slot_at s k) { left = a; right = b; height = suc (max (height_at s a) (height_at s b)) }
  linked_here within = get_or-set_same s k _ _ within

  pub linked_keeps : (t : Tree) → Show s t → Avoid (entries t) k → Show (linked s k a b) t
  linked_keeps t sh apart =
      keep s (linked s k a b) t sh linked_long
      (all_weaker (λ (e : Entry). e.number ≢ k) (λ (e : Entry). slot_at (linked s k a b) e.number ≡ slot_at s e.number) (λ e other. linked_other e.number other) (entries t) apart)

  pub linked_shows : (l r : Tree) (e : Entry) → length s < 2 ^ 32 → k < length s → Show s l → Show s r → a ≡ root_of l → b ≡ root_of r
      → e.number ≡ k → gap_at s k ≡ e.gap → Avoid (entries l) k → Avoid (entries r) k → Show (linked s k a b) (fork l e r)
  linked_shows l r e fits within shl shr ea eb here own apart_l apart_r =
      let inside : e.number < length (linked s k a b) = omega (arith, here, linked_long) in
      let left_height : height_at s a ≡ height l = ap (height_at s) ea ∙ height_shown s l fits shl in
      let right_height : height_at s b ≡ height r = ap (height_at s) eb ∙ height_shown s r fits shr in
      (inside, ap (slot_at (linked s k a b)) here ∙ linked_here within ∙ at_once left_height right_height, linked_keeps l shl apart_l, linked_keeps r shr apart_r)
    where
      at_once : height_at s a ≡ height l → height_at s b ≡ height r
          → record (slot_at s k) { left = a; right = b; height = suc (max (height_at s a) (height_at s b)) } ≡ slot_of l e r
      at_once p q i = record {
        at = (own i).1;
        left = ea i;
        right = eb i;
        units = (own i).0;
        height = suc (max (p i) (q i));
      }
