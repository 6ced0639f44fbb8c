-- Blocks that are laid in the area, each behind the one before.
use Rattle.std.proofs.Common.{ℕ, ◌+◌, ◌*◌, ◌≤◌, List, [], ◌∷◌, ◌++◌, length, arith}
use Rattle.std.specs.Prelude.{sum_by}
use Rattle.std.proofs.lemmas.List.Sums.{sum_by-cons}
use Rattle.heap_model.specs.declared.Limits.{Limits}
use Rattle.heap_model.specs.Geometry.{pages_of}
use Rattle.large_blocks.specs.declared.LargeBlock.{LargeBlock}
use Rattle.large_blocks.specs.Table.{with_bytes}
use Rattle.large_blocks.specs.Sound.{page_of, end_of, IsLaid, AreLaid, page_behind}

pub some_pages : (n : ℕ) → 520193 ≤ n → 128 ≤ pages_of n
some_pages n h = omega arith

pub laid_lower : (l : Limits) (low from : ℕ) (bs : List LargeBlock) → low ≤ from → AreLaid l from bs → AreLaid l low bs
laid_lower l low from [] h a = tt
laid_lower l low from (b ∷ bs) h a = let k = a.0.behind in (record { huge = a.0.huge; behind = omega arith; aligned = a.0.aligned; inside = a.0.inside }, a.1)

-- the block between two others, and what stands behind it
pub laid_at : (l : Limits) (from : ℕ) (xs : List LargeBlock) (b : LargeBlock) (ys : List LargeBlock) → AreLaid l from (xs ++ b ∷ ys) → IsLaid l from b × AreLaid l (end_of l b) ys
laid_at l from [] b ys a = a
laid_at l from (x ∷ xs) b ys a =
    let r = laid_at l (end_of l x) xs b ys a.1 in
    let n = some_pages x.size a.0.huge in
    let k = r.0.behind in
    let m = a.0.behind in
    (record { huge = r.0.huge; behind = omega arith; aligned = r.0.aligned; inside = r.0.inside }, r.1)

-- no block begins before the first page
pub behind_all : (l : Limits) (from : ℕ) (bs : List LargeBlock) → from ≤ l.large_pages → AreLaid l from bs → from ≤ page_behind l bs
behind_all l from [] f a = f
behind_all l from (b ∷ bs) f a = a.0.behind

pub laid_behind : (l : Limits) (from to : ℕ) (bs : List LargeBlock) → to ≤ page_behind l bs → AreLaid l from bs → AreLaid l to bs
laid_behind l from to [] h a = tt
laid_behind l from to (b ∷ bs) h a = (record { huge = a.0.huge; behind = h; aligned = a.0.aligned; inside = a.0.inside }, a.1)

pub laid_without : (l : Limits) (from : ℕ) (xs : List LargeBlock) (b : LargeBlock) (ys : List LargeBlock) → AreLaid l from (xs ++ b ∷ ys) → AreLaid l from (xs ++ ys)
laid_without l from [] b ys a = let n = some_pages b.size a.0.huge in let k = a.0.behind in laid_lower l from (end_of l b) ys (omega arith) a.1
laid_without l from (x ∷ xs) b ys a = (a.0, laid_without l (end_of l x) xs b ys a.1)

pub behind_inside : (l : Limits) (from : ℕ) (bs : List LargeBlock) → AreLaid l from bs → page_behind l bs ≤ l.large_pages
behind_inside l from [] a = omega arith
behind_inside l from (b ∷ bs) a = let k = a.0.inside in omega arith

pub laid_resized : (l : Limits) (from : ℕ) (xs : List LargeBlock) (b : LargeBlock) (ys : List LargeBlock) (n : ℕ) → AreLaid l from (xs ++ b ∷ ys) → 520193 ≤ n → page_of l b + pages_of n ≤ page_behind l ys →
    AreLaid l from (xs ++ with_bytes n b ∷ ys)
laid_resized l from [] b ys n a h m =
    let i = behind_inside l (end_of l b) ys a.1 in
    (record { huge = h; behind = a.0.behind; aligned = a.0.aligned; inside = omega arith }, laid_behind l (end_of l b) (page_of l b + pages_of n) ys m a.1)
laid_resized l from (x ∷ xs) b ys n a h m = (a.0, laid_resized l (end_of l x) xs b ys n a.1 h m)

-- each takes 128 pages or more
pub laid_few : (l : Limits) (from : ℕ) (bs : List LargeBlock) → from ≤ l.large_pages → AreLaid l from bs → from + 128 * length bs ≤ l.large_pages
laid_few l from [] f a = omega arith
laid_few l from (b ∷ bs) f a =
    let n = some_pages b.size a.0.huge in
    let k = a.0.behind in
    let r = laid_few l (end_of l b) bs a.0.inside a.1 in
    omega arith

-- all together have no more bytes than the pages behind the first page
pub laid_bytes : (l : Limits) (from : ℕ) (bs : List LargeBlock) → from ≤ l.large_pages → AreLaid l from bs → 4096 * from + sum_by (λ b. b.size) bs ≤ 4096 * l.large_pages
laid_bytes l from [] f a = omega arith
laid_bytes l from (b ∷ bs) f a =
    let k = a.0.behind in
    let r = laid_bytes l (end_of l b) bs a.0.inside a.1 in
    let e = sum_by-cons (λ (b : LargeBlock). b.size) b bs in
    omega arith
