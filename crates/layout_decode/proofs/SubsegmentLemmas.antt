-- The blocks of a subsegment of the low-fragmentation front end.
use Rattle.std.proofs.Common.{◌≡◌, ℕ, zero, suc, ◌+◌, ◌-◌, ◌*◌, ◌/◌, ◌<◌, ◌≤◌, ◌&&◌, ◌==◌, not, true, ◌⊎◌, List, [], ◌∷◌, ◌++◌, length, Some, None, sym, ap, subst, refl, add-one, ◌∙◌, arith, inl, inr, length-append}
use Rattle.std.specs.Prelude.{slice_index}
use Rattle.std.specs.List.{find, AllByRecursion}
use Rattle.std.proofs.lemmas.Bool.{cases_Bool, and_parts, lt-leb, le-leb}
use Rattle.std.proofs.lemmas.Nat.{mul-le}
use Rattle.std.proofs.lemmas.List.Sums.{sum_by-cons}
use Rattle.std.proofs.Math.Nat.{div-mul-le_self}
use Rattle.heap_model.specs.declared.Block.{Block}
use Rattle.heap_model.specs.declared.Kind.TheVariants as kinds
use Rattle.heap_model.specs.declared.Layer.TheVariants as layers
use Rattle.heap_model.specs.declared.Limits.{Limits}
use Rattle.heap_model.specs.declared.Run.{Run}
use Rattle.heap_model.specs.Buckets.{block_size, block_count, block_address, bucket_pages}
use Rattle.claim_rule.specs.Places.{sizes_region}
use Rattle.lfh_buckets.specs.Blocks.{IsBucket}
use Rattle.lfh_buckets.proofs.BlockLemmas.{few_blocks}
use Rattle.lfh_buckets.proofs.Seats.{IsSeat, block_seat}
use Rattle.layout_decode.specs.declared.Image.{Image}
use Rattle.layout_decode.specs.Decode.{blocks_of, size_word_of, is_taken_in, block_at_bit, blocks_at_bits, is_at_or_after, total_of, IsOfBucket, BlocksFit}
use Rattle.layout_decode.proofs.Walk.{find_behind}

---- One block

pub bucket_is : (l : Limits) (r : Run) → IsOfBucket l r → IsBucket r.mark.bucket
bucket_is l r h = record { first = h.bucket.0; last = h.bucket.1 }

pub seat_of : (l : Limits) (r : Run) (i : ℕ) → IsOfBucket l r → i < block_count r.mark.bucket → IsSeat l r.first r.pages (block_size r.mark.bucket) (block_address r.mark.bucket r.first i)
seat_of l r i h below = block_seat l r.mark.bucket r.first r.pages i (bucket_is l r h) h.pages h.inside below

-- the block of a number, if it is taken
abbrev pub block : Image → Run → ℕ → Block
block image r i = record {
  addr = block_address r.mark.bucket r.first i;
  size = size_word_of image (block_address r.mark.bucket r.first i) - 1;
  layer = layers.Lfh;
}

pub none_or_one : (image : Image) (r : Run) (i : ℕ) → (block_at_bit image r i ≡ []) ⊎ ((is_taken_in image r i ≡ true) × (block image r i ∷ [] ≡ block_at_bit image r i))
none_or_one image r i = elim (cases_Bool (is_taken_in image r i && not (size_word_of image (block_address r.mark.bucket r.first i) == 0))) [
  | inl t ↦ inr ((and_parts (is_taken_in image r i) _ t).0, rw t refl)
  | inr t ↦ inl (rw t refl)
]

-- it begins where its number says
begins : (image : Image) (r : Run) (i : ℕ) (b : Block) → b ∷ [] ≡ block_at_bit image r i → b.addr ≡ block_address r.mark.bucket r.first i
begins image r i b e = elim (none_or_one image r i) [
  | inl none ↦ absurd (let z : b ∷ [] ≡ [] = e ∙ none in cc)
  | inr it ↦ let z : b ∷ [] ≡ block image r i ∷ [] = e ∙ sym it.1 in let same : b ≡ block image r i = cc in ap (λ (x : Block). x.addr) same
]

---- All blocks

-- the blocks from one on: it, if it is taken, and those behind it
next : (image : Image) (r : Run) (n i : ℕ) (bs : List Block) → i < n → bs ≡ block_at_bit image r i → blocks_at_bits image r (n - i) i ≡ bs ++ blocks_at_bits image r (n - suc i) (suc i)
next image r n i bs l e =
    let more : n - i ≡ suc (n - suc i) = omega arith in
    ap (λ (k : ℕ). blocks_at_bits image r k i) more ∙ ap (λ (cs : List Block). cs ++ blocks_at_bits image r (n - suc i) (suc i)) (sym e)

pub next_taken : (image : Image) (r : Run) (n i : ℕ) (b : Block) → i < n → b ∷ [] ≡ block_at_bit image r i → blocks_at_bits image r (n - i) i ≡ b ∷ blocks_at_bits image r (n - (i + 1)) (i + 1)
next_taken image r n i b l e = rw add-one (next image r n i (b ∷ []) l e)

pub next_free : (image : Image) (r : Run) (n i : ℕ) → i < n → [] ≡ block_at_bit image r i → blocks_at_bits image r (n - i) i ≡ blocks_at_bits image r (n - (i + 1)) (i + 1)
next_free image r n i l e = rw add-one (next image r n i [] l e)

pub none_left : (image : Image) (r : Run) (n i : ℕ) → n ≤ i → blocks_at_bits image r (n - i) i ≡ []
none_left image r n i l = let e : n - i ≡ 0 = omega arith in ap (λ (k : ℕ). blocks_at_bits image r k i) e

---- Searching

-- a block at an address or after it is found
pub found : (image : Image) (r : Run) (from n i : ℕ) (b : Block) → i < n → from ≤ block_address r.mark.bucket r.first i → b ∷ [] ≡ block_at_bit image r i
    → find (is_at_or_after from) (blocks_at_bits image r (n - i) i) ≡ Some b
found image r from n i b l high e =
    let at = begins image r i b e in
    let t = le-leb from b.addr (omega arith) in
    ap (find (is_at_or_after from)) (next_taken image r n i b l e) ∙ (rw t refl)

-- .. and one before it is not
passed : (image : Image) (r : Run) (from i : ℕ) → block_address r.mark.bucket r.first i < from → find (is_at_or_after from) (block_at_bit image r i) ≡ None
passed image r from i l = elim (none_or_one image r i) [
  | inl e ↦ rw e refl
  | inr it ↦
      let t = lt-leb from (block_address r.mark.bucket r.first i) l in
      sym (ap (find (is_at_or_after from)) it.1) ∙ (rw t refl)
]

-- a search may begin at a block behind those that lie before the address
pub begins_at : (image : Image) (r : Run) (from n k : ℕ) → k ≤ n → ((i : ℕ) → i < k → block_address r.mark.bucket r.first i < from)
    → find (is_at_or_after from) (blocks_at_bits image r (n - k) k) ≡ find (is_at_or_after from) (blocks_at_bits image r n 0)
begins_at image r from n zero l low = let e : n - 0 ≡ n = omega arith in ap (λ (k : ℕ). find (is_at_or_after from) (blocks_at_bits image r k 0)) e
begins_at image r from n (suc k) l low =
    let same = ap (find (is_at_or_after from)) (next image r n k (block_at_bit image r k) (omega arith) refl) in
    let behind = find_behind (is_at_or_after from) (block_at_bit image r k) (blocks_at_bits image r (n - suc k) (suc k)) (passed image r from k (low k (omega arith))) in
    sym (same ∙ behind) ∙ begins_at image r from n k (omega arith) (λ i b. low i (omega arith))

-- no block lies at the end of the pages or behind it
pub none_here : (image : Image) (r : Run) (from : ℕ) → IsOfBucket image.limits r → 4096 * (r.first + r.pages) ≤ from → find (is_at_or_after from) (blocks_of image r kinds.Lfh) ≡ None
none_here image r from h l =
    let n : ℕ = block_count r.mark.bucket in
    let all = begins_at image r from n n (omega arith) (λ i b. let s = seat_of image.limits r i h b in omega (arith, s.below, s.some)) in
    sym all ∙ ap (find (is_at_or_after from)) (none_left image r n n (omega arith))

---- Counting

few_bytes : (s : ℕ) (bs : List Block) → AllByRecursion (λ (b : Block). b.size ≤ s) bs → total_of bs ≤ length bs * s
few_bytes s [] all = omega arith
few_bytes s (b ∷ bs) all =
    let rest = few_bytes s bs all.1 in
    omega (arith, rest, all.0, sum_by-cons (λ (c : Block). c.size) b bs)

few_left : (image : Image) (r : Run) (n i : ℕ) → length (blocks_at_bits image r n i) ≤ n
few_left image r zero i = omega arith
few_left image r (suc n) i = elim (none_or_one image r i) [
  | inl e ↦ omega (arith, few_left image r n (suc i), length-append (block_at_bit image r i) (blocks_at_bits image r n (suc i)), ap (length {A = Block}) e)
  | inr it ↦ omega (arith, few_left image r n (suc i), length-append (block_at_bit image r i) (blocks_at_bits image r n (suc i)), ap (length {A = Block}) it.1)
]

-- blocks that fit are no more than the granules of the pages, and have no more bytes
pub few_here : (image : Image) (r : Run) → IsOfBucket image.limits r → BlocksFit image r kinds.Lfh → (length (blocks_of image r kinds.Lfh) ≤ 256 * r.pages) × (total_of (blocks_of image r kinds.Lfh) ≤ 4096 * r.pages)
few_here image r h fit =
    by (block_size r.mark.bucket) (bucket_pages r.mark.bucket) (length (blocks_of image r kinds.Lfh)) (total_of (blocks_of image r kinds.Lfh)) h.pages (few_left image r (block_count r.mark.bucket) 0) (few_blocks r.mark.bucket (bucket_is image.limits r h)) (few_bytes (block_size r.mark.bucket) (blocks_of image r kinds.Lfh) fit)
  where
    by : (s pages n bytes : ℕ) → r.pages ≡ pages → n ≤ (4096 * pages - 64) / s → (15 ≤ (4096 * pages - 64) / s) × ((4096 * pages - 64) / s ≤ 252) → bytes ≤ n * s → (n ≤ 256 * r.pages) × (bytes ≤ 4096 * r.pages)
    by s pages n bytes same few both most =
        let count : ℕ = (4096 * pages - 64) / s in
        let all = div-mul-le_self (4096 * pages - 64) s in
        let more = mul-le n s count s few (omega arith) in
        (omega arith, omega arith)

-- blocks fit where the size word of each that is taken tells at most the bytes of a block
pub fit_each : (image : Image) (r : Run) → ((i : ℕ) → i < block_count r.mark.bucket → is_taken_in image r i ≡ true → size_word_of image (block_address r.mark.bucket r.first i) ≤ block_size r.mark.bucket + 1) → BlocksFit image r kinds.Lfh
fit_each image r small = by (block_count r.mark.bucket) 0 (omega arith)
  where
    by : (n i : ℕ) → i + n ≤ block_count r.mark.bucket → AllByRecursion (λ (b : Block). b.size ≤ block_size r.mark.bucket) (blocks_at_bits image r n i)
    by zero i l = tt
    by (suc n) i l =
        let rest = by n (suc i) (omega arith) in
        elim (none_or_one image r i) [
          | inl e ↦ rw e rest
          | inr it ↦
              let least = small i (omega arith) it.0 in
              subst (λ (bs : List Block). AllByRecursion (λ (b : Block). b.size ≤ block_size r.mark.bucket) (bs ++ blocks_at_bits image r n (suc i))) it.1 (omega arith, rest)
        ]

-- .. as they do where each size word does
pub fit_small : (image : Image) (r : Run) → IsOfBucket image.limits r
    → ((k : ℕ) → k < (sizes_region image.limits).words → slice_index image.words ((sizes_region image.limits).from + k) ≤ block_size r.mark.bucket + 1) → BlocksFit image r kinds.Lfh
fit_small image r h small = fit_each image r (λ i l t. small (block_address r.mark.bucket r.first i / 16) (seat_of image.limits r i h l).granule)
