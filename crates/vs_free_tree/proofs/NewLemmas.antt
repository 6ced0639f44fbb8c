-- The slots of an empty index, as `new` makes them one after another.
use Rattle.std.proofs.Common.{◌≡◌, ◌≢◌, ℕ, zero, suc, ◌+◌, ◌^◌, ◌<◌, List, [], ◌∷◌, ◌++◌, map, length, replicate, Option, None, refl, sym, ap, subst, ◌∙◌, arith, length-append}
use Rattle.std.proofs.Math.ListN.{get_or-append}
use Rattle.std.proofs.Math.Seq.{get_or-append_seam}
use Rattle.std.specs.List.{AllByRecursion}
use Rattle.std.specs.FinSet as set
use Rattle.vs_free_tree.specs.declared.Node.{Node}
use Rattle.vs_free_tree.specs.declared.tree.Slot.{Slot}
use Rattle.vs_free_tree.specs.declared.tree.TheConstants.{NONE}
use Rattle.vs_free_tree.specs.Tree.{leaf}
use Rattle.vs_free_tree.specs.Index.{empty_tree}
use Rattle.vs_free_tree.specs.Slots.{slot_at, height_at, IsTreeAt}
use Rattle.vs_free_tree.specs.Kept.{AreFree, AreApart, seen, seen_as, IsKept, gaps_under}
use Rattle.vs_free_tree.proofs.EntryLemmas.{all_join, all_weaker}
use Rattle.vs_free_tree.proofs.KeptLemmas.{keep_free}
use Rattle.vs_free_tree.proofs.SeenLemmas.{seen_free, gaps_told}

-- n slots, all of them free
pub record AreNew (s : List Slot) (free n : ℕ) : Type 0 where
  pub chain : List ℕ
  pub are_free : AreFree s free chain
  pub apart : AreApart chain
  pub below : AllByRecursion (λ k. k < n) chain
  pub count : length chain ≡ n
  pub long : length s ≡ n
  pub low : AllByRecursion (λ (x : Slot). x.height ≡ 0) s

pub new_none : (s : List Slot) → s ≡ [] → AreNew s NONE 0
new_none s e = subst (λ (z : List Slot). AreNew z NONE 0) (sym e) (record { chain = []; are_free = refl; apart = tt; below = tt; count = refl; long = refl; low = tt })

pub new_more : (s z : List Slot) (free n : ℕ) → AreNew s free n → z ≡ s ++ record { at = 0; left = free; right = NONE; units = 0; height = 0 } ∷ [] → AreNew z n (n + 1)
new_more s z free n new e = subst (λ (y : List Slot). AreNew y n (n + 1)) (sym e) (record {
  chain = n ∷ new.chain;
  are_free = (
    refl,
    omega (arith, longer, new.long),
    ap (λ (v : Slot). v.height) last,
    subst (λ i. AreFree all i new.chain) (sym (ap (λ (v : Slot). v.left) last))
        (keep_free s all free new.chain new.are_free (omega (arith, longer))
        (all_weaker (λ (k : ℕ). k < n) (λ (k : ℕ). slot_at all k ≡ slot_at s k) (λ k low. get_or-append s (x ∷ []) _ k (omega (arith, low, new.long))) new.chain new.below)),
  );
  apart = (all_weaker (λ (k : ℕ). k < n) (λ (k : ℕ). k ≢ n) (λ k low same. omega (arith, low, same)) new.chain new.below, new.apart);
  below = (omega arith, all_weaker (λ (k : ℕ). k < n) (λ (k : ℕ). k < n + 1) (λ k low. omega arith) new.chain new.below);
  count = omega (arith, new.count);
  long = omega (arith, longer, new.long);
  low = all_join (λ (v : Slot). v.height ≡ 0) s (x ∷ []) new.low (refl, tt);
})
  where
    x : Slot
    x = record { at = 0; left = free; right = NONE; units = 0; height = 0 }

    all : List Slot
    all = s ++ x ∷ []

    longer : length all ≡ length s + 1
    longer = length-append s (x ∷ [])

    last : slot_at all n ≡ x
    last = ap (slot_at all) (sym new.long) ∙ get_or-append_seam s x [] _

low_everywhere : (s : List Slot) (i : ℕ) → AllByRecursion (λ (x : Slot). x.height ≡ 0) s → height_at s i ≡ 0
low_everywhere [] i low = refl
low_everywhere (x ∷ s) zero low = low.0
low_everywhere (x ∷ s) (suc i) low = low_everywhere s i low.1

none_seen : (s : List Slot) → AllByRecursion (λ (x : Slot). x.height ≡ 0) s → map seen s ≡ replicate (length s) None
none_seen [] low = refl
none_seen (x ∷ s) low = both (seen_free x low.0) (none_seen s low.1)
  where
    both : {a b : Option Node} {c d : List (Option Node)} → a ≡ b → c ≡ d → a ∷ c ≡ b ∷ d
    both p q i = p i ∷ q i

module _ (s : List Slot) (free n : ℕ) (fits : n < 2 ^ 32) (new : AreNew s free n) where
  no_tree : IsTreeAt s NONE leaf
  no_tree = record { fits = omega (arith, new.long, fits); shown = tt; root = refl; rising = tt; balanced = tt }

  pub kept_new : IsKept s NONE free n
  kept_new = record {
    tree = leaf;
    is_tree = no_tree;
    others = λ i lacks. low_everywhere s i new.low;
    freed = new.chain;
    are_free = new.are_free;
    apart = new.apart;
    spare_is = new.count;
    counted = omega (arith, new.long);
  }

  pub seen_new : (reserved : ℕ) → seen_as s NONE reserved ≡ empty_tree n reserved
  seen_new reserved = by (gaps_told s NONE leaf no_tree) new.long (none_seen s new.low ∙ ap (λ m. replicate m None) new.long)
    where
      by : gaps_under s NONE ≡ set.empty → length s ≡ n → map seen s ≡ replicate n None → seen_as s NONE reserved ≡ empty_tree n reserved
      by a b c i = record { gaps = a i; capacity = b i; reserved = reserved; root = None; nodes = c i }
