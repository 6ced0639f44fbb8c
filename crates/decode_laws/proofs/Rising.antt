-- Blocks in the order of their addresses: two such lists with the same blocks are one.
use Rattle.std.proofs.Common.{◌≡◌, ℕ, ◌+◌, ◌*◌, ◌<◌, ◌≤◌, List, [], ◌∷◌, ◌++◌, refl, sym, ap, ◌∙◌, arith, inl, inr, ◌⊎◌}
use Rattle.std.specs.Prelude.{flat_map}
use Rattle.std.specs.List.{AllByRecursion}
use Rattle.heap_model.specs.declared.Block.{Block}
use Rattle.heap_model.specs.declared.Run.{Run}
use Rattle.page_ranges.specs.Ranges.{AreRuns}
use Rattle.page_ranges.proofs.Runs.{runs_le}
use Rattle.heap_soundness.specs.Sound.{IsOneOf, IsInFrontOf, AreInOrderBlocks}
use Rattle.heap_soundness.proofs.Lists.{all_at, all_weaker, all_append}

abbrev pub IsBelow : Block → Block → Type 0
IsBelow b d = b.addr < d.addr

abbrev pub ByAddress : List Block → Type 0
ByAddress [] = Unit {0}
ByAddress (b ∷ bs) = AllByRecursion (IsBelow b) bs × ByAddress bs

-- blocks that lie one behind the other
pub in_order : (bs : List Block) → AreInOrderBlocks bs → ByAddress bs
in_order [] a = tt
in_order (b ∷ bs) a = (all_weaker (IsInFrontOf b) (IsBelow b) bs (λ d i h. h.0) a.0, in_order bs a.1)

-- blocks of some addresses in front of blocks of higher ones
pub joined_order : (high : ℕ) (bs ds : List Block) → ByAddress bs → ByAddress ds → AllByRecursion (λ b. b.addr < high) bs → AllByRecursion (λ d. high ≤ d.addr) ds → ByAddress (bs ++ ds)
joined_order high [] ds a c l h = c
joined_order high (b ∷ bs) ds a c l h =
    let low = l.0 in
    (all_append (IsBelow b) bs ds a.0 (all_weaker (λ d. high ≤ d.addr) (IsBelow b) ds (λ d i k. omega arith) h), joined_order high bs ds a.1 c l.1 h)

-- the addresses of a run
abbrev pub LiesIn : Run → Block → Type 0
LiesIn r b = (4096 * r.first ≤ b.addr) × (b.addr < 4096 * (r.first + r.pages))

-- the blocks of runs that follow each other
flat_above : (f : Run → List Block) (words : List ℕ) (from to : ℕ) (rs : List Run) → AreRuns words from to rs → ((r : Run) → IsOneOf r rs → AllByRecursion (LiesIn r) (f r)) →
    AllByRecursion (λ b. 4096 * from ≤ b.addr) (flat_map f rs)
flat_above f words from to [] a l = tt
flat_above f words from to (r ∷ rs) a l =
    let first = a.0 in
    all_append (λ b. 4096 * from ≤ b.addr) (f r) (flat_map f rs)
    (all_weaker (LiesIn r) (λ b. 4096 * from ≤ b.addr) (f r) (λ b i k. let k0 = k.0 in omega arith) (l r (inl refl)))
    (all_weaker (λ b. 4096 * (from + r.pages) ≤ b.addr) (λ b. 4096 * from ≤ b.addr) (flat_map f rs) (λ b i k. omega arith) (flat_above f words (from + r.pages) to rs a.2 (λ q i. l q (inr i))))

-- no block of a run lies behind the end
pub flat_below : (f : Run → List Block) (words : List ℕ) (from to : ℕ) (rs : List Run) → AreRuns words from to rs → ((r : Run) → IsOneOf r rs → AllByRecursion (LiesIn r) (f r)) →
    AllByRecursion (λ b. b.addr < 4096 * to) (flat_map f rs)
flat_below f words from to [] a l = tt
flat_below f words from to (r ∷ rs) a l =
    let first = a.0 in
    let end = runs_le words (from + r.pages) to rs a.2 in
    all_append (λ b. b.addr < 4096 * to) (f r) (flat_map f rs)
    (all_weaker (LiesIn r) (λ b. b.addr < 4096 * to) (f r) (λ b i k. let k1 = k.1 in omega arith) (l r (inl refl)))
    (flat_below f words (from + r.pages) to rs a.2 (λ q i. l q (inr i)))

pub flat_order : (f : Run → List Block) (words : List ℕ) (from to : ℕ) (rs : List Run) → AreRuns words from to rs → ((r : Run) → IsOneOf r rs → AllByRecursion (LiesIn r) (f r)) →
    ((r : Run) → IsOneOf r rs → ByAddress (f r)) → ByAddress (flat_map f rs)
flat_order f words from to [] a l o = tt
flat_order f words from to (r ∷ rs) a l o =
    let first = a.0 in
    joined_order (4096 * (from + r.pages)) (f r) (flat_map f rs) (o r (inl refl)) (flat_order f words (from + r.pages) to rs a.2 (λ q i. l q (inr i)) (λ q i. o q (inr i)))
    (all_weaker (LiesIn r) (λ b. b.addr < 4096 * (from + r.pages)) (f r) (λ b i k. let k1 = k.1 in omega arith) (l r (inl refl)))
    (flat_above f words (from + r.pages) to rs a.2 (λ q i. l q (inr i)))

-- one element is the other, or behind it
behind : (b d : Block) (ds : List Block) → AllByRecursion (IsBelow d) ds → IsOneOf b (d ∷ ds) → (d ≡ b) ⊎ (d.addr < b.addr)
behind b d ds a (inl e) = inl e
behind b d ds a (inr i) = inr (all_at (IsBelow d) b ds a i)

-- an element behind the first of a list is one of the rest
rest_of : (x d : Block) (ds : List Block) → d.addr < x.addr → IsOneOf x (d ∷ ds) → IsOneOf x ds
rest_of x d ds l (inl e) = let f : d.addr ≡ x.addr = ap (λ (b : Block). b.addr) e in absurd (omega arith)
rest_of x d ds l (inr i) = i

pub same_blocks : (bs ds : List Block) → ByAddress bs → ByAddress ds → ((b : Block) → IsOneOf b bs → IsOneOf b ds) → ((b : Block) → IsOneOf b ds → IsOneOf b bs) → bs ≡ ds
same_blocks [] [] a c f g = refl
same_blocks [] (d ∷ ds) a c f g = absurd (g d (inl refl))
same_blocks (b ∷ bs) [] a c f g = absurd (f b (inl refl))
same_blocks (b ∷ bs) (d ∷ ds) a c f g =
    let front : b ≡ d = by_order (behind b d ds c.0 (f b (inl refl))) (behind d b bs a.0 (g d (inl refl))) in
    let addr : b.addr ≡ d.addr = ap (λ (x : Block). x.addr) front in
    let rest : bs ≡ ds =
    same_blocks bs ds a.1 c.1
    (λ x i. let l = all_at (IsBelow b) x bs a.0 i in rest_of x d ds (omega (arith, l, addr)) (f x (inr i)))
    (λ x i. let l = all_at (IsBelow d) x ds c.0 i in rest_of x b bs (omega (arith, l, addr)) (g x (inr i))) in
    ap (λ (x : Block). x ∷ bs) front ∙ ap (λ (xs : List Block). d ∷ xs) rest
  where
    by_order : (d ≡ b) ⊎ (d.addr < b.addr) → (b ≡ d) ⊎ (b.addr < d.addr) → b ≡ d
    by_order (inl e) k = sym e
    by_order (inr l) (inl e) = e
    by_order (inr l) (inr k) = absurd (omega arith)
