-- On the blocks at or after an address, among blocks in the order of their addresses.
use Rattle.std.proofs.Common.{◌≡◌, ℕ, zero, suc, ◌+◌, ◌*◌, ◌<◌, ◌≤◌, List, [], ◌∷◌, ◌++◌, length, map, Some, None, refl, sym, ap, subst, subst₂, arith, leb, inl, inr}
use Rattle.std.specs.Prelude.{filter, flat_map}
use Rattle.std.specs.List.{find, AllByRecursion}
use Rattle.std.proofs.lemmas.Bool.{cases_Bool, le-leb, lt-leb, leb-true}
use Rattle.heap_model.specs.declared.Block.{Block}
use Rattle.heap_model.specs.declared.Limits.{Limits}
use Rattle.heap_model.specs.declared.Kind.{Kind}
use Rattle.heap_model.specs.declared.Kind.TheVariants as kinds
use Rattle.heap_model.specs.declared.Run.{Run}
use Rattle.heap_model.specs.Buckets.{block_count, block_address}
use Rattle.large_blocks.specs.declared.LargeBlock.{LargeBlock}
use Rattle.large_blocks.specs.Table.{block_in}
use Rattle.large_blocks.specs.Sound.{page_of, end_of, AreLaid, IsSound}
use Rattle.large_blocks.proofs.Laid.{some_pages}
use Rattle.page_ranges.specs.Words.{runs_of}
use Rattle.page_ranges.specs.Ranges.{AreRuns}
use Rattle.page_ranges.proofs.Runs.{runs_le}
use Rattle.vs_headers.specs.declared.Head.{Head}
use Rattle.vs_split.specs.Chunks.{Chunks}
use Rattle.vs_split.specs.Tiles.{IsTiled}
use Rattle.vs_split.specs.Laws.{IsRow}
use Rattle.layout_decode.specs.declared.Image.{Image}
use Rattle.layout_decode.specs.Decode.{page_blocks, table_blocks, decode, head_told, blocks_of, blocks_at_bits, is_at_or_after, IsOfBucket, IsReadable}
use Rattle.layout_decode.proofs.Images.{Each, each}
use Rattle.layout_decode.proofs.OneRun.{IsReadableRun}
use Rattle.layout_decode.proofs.SubsegmentLemmas.{none_or_one, seat_of}
use Rattle.layout_decode.proofs.Rows.{row_blocks, row_le, chunks_are}
use Rattle.report_text.specs.Report.{block_line}
use Rattle.report_text.proofs.ReplyLemmas.{put_on, put_all}

abbrev pub blocks_from : ℕ → List Block → List Block
blocks_from from bs = filter (is_at_or_after from) bs

abbrev pub lines_from : ℕ → List Block → List ℕ
lines_from from bs = flat_map block_line (blocks_from from bs)

-- the blocks lie between two addresses, each behind the one before it
abbrev AreOrdered : ℕ → ℕ → List Block → Type 0
AreOrdered low high [] = Unit {0}
AreOrdered low high (b ∷ bs) = (low ≤ b.addr) × (b.addr < high) × AreOrdered (b.addr + 1) high bs

lower : (low from high : ℕ) (bs : List Block) → low ≤ from → AreOrdered from high bs → AreOrdered low high bs
lower low from high [] l a = tt
lower low from high (b ∷ bs) l a = (omega (arith, a.0), a.1, a.2)

append : (low mid high : ℕ) (xs ys : List Block) → low ≤ mid → mid ≤ high → AreOrdered low mid xs → AreOrdered mid high ys → AreOrdered low high (xs ++ ys)
append low mid high [] ys l m a b = lower low mid high ys l b
append low mid high (x ∷ xs) ys l m a b = (a.0, omega (arith, a.1), append (x.addr + 1) mid high xs ys (omega (arith, a.1)) m a.2 b)

-- the address behind the large area, which lies behind the pages
abbrev pub end_of_area : Image → ℕ
end_of_area image = 4096 * (length image.descs + image.limits.large_pages)

rows_ordered : (l : Limits) (from : ℕ) (bs : List LargeBlock) → AreLaid l from bs → AreOrdered (4096 * (256 * l.segments + from)) (4096 * (256 * l.segments + l.large_pages)) (map block_in bs)
rows_ordered l from [] a = tt
rows_ordered l from (b ∷ bs) a =
    let at = a.0.aligned in
    let behind = a.0.behind in
    let inside = a.0.inside in
    let some = some_pages b.size a.0.huge in
    let rest = rows_ordered l (end_of l b) bs a.1 in (
      low (page_of l b) behind at,
      high (page_of l b) (end_of l b) (omega arith) inside at,
      lower (b.addr + 1) (4096 * (256 * l.segments + end_of l b)) (4096 * (256 * l.segments + l.large_pages)) (map block_in bs) (next (page_of l b) (end_of l b) (omega arith) at) rest,
    )
  where
    low : (p : ℕ) → from ≤ p → b.addr ≡ 4096 * (256 * l.segments + p) → 4096 * (256 * l.segments + from) ≤ b.addr
    low p i e = omega arith

    high : (p q : ℕ) → p < q → q ≤ l.large_pages → b.addr ≡ 4096 * (256 * l.segments + p) → b.addr < 4096 * (256 * l.segments + l.large_pages)
    high p q i j e = omega arith

    next : (p q : ℕ) → p < q → b.addr ≡ 4096 * (256 * l.segments + p) → b.addr + 1 ≤ 4096 * (256 * l.segments + q)
    next p q i e = omega arith

row_ordered : (v : Chunks) (t : IsTiled v) (prev g to : ℕ) (hs : List Head) → IsRow v prev g to hs → AreOrdered (16 * g) (16 * to) (row_blocks g hs)
row_ordered v t prev g to [] row = tt
row_ordered v t prev g to (h ∷ hs) row =
    let rest = row_ordered v t h.units (g + h.units) to hs row.2 in
    let some = (t.tiles g h row.0).some in
    let le = row_le v h.units (g + h.units) to hs row.2 in
    elim (cases_Bool h.busy) [
      | inl b ↦ rw b (omega arith, omega arith, lower (16 * g + 16 + 1) (16 * (g + h.units)) (16 * to) (row_blocks (g + h.units) hs) (omega arith) rest)
      | inr b ↦ rw b (lower (16 * g) (16 * (g + h.units)) (16 * to) (row_blocks (g + h.units) hs) (omega arith) rest)
    ]

module _ (image : Image) (readable : IsReadable image) (t : IsTiled image.heads) where
  seats_ordered : (r : Run) → IsOfBucket image.limits r → (n i : ℕ) → i + n ≤ block_count r.mark.bucket → AreOrdered (block_address r.mark.bucket r.first i) (4096 * (r.first + r.pages)) (blocks_at_bits image r n i)
  seats_ordered r h zero i l = tt
  seats_ordered r h (suc n) i l =
      let at : ℕ = block_address r.mark.bucket r.first i in
      let behind : ℕ = block_address r.mark.bucket r.first (suc i) in
      let end : ℕ = 4096 * (r.first + r.pages) in
      let left : List Block = blocks_at_bits image r n (suc i) in
      let s = seat_of image.limits r i h (omega arith) in
      let rest = seats_ordered r h n (suc i) (omega arith) in
      elim (none_or_one image r i) [
        | inl e ↦ rw e (lower at behind end left (omega (arith, s.some)) rest)
        | inr it ↦ subst (λ (bs : List Block). AreOrdered at end (bs ++ left)) it.1 (omega arith, omega (arith, s.below, s.some), lower (at + 1) behind end left (omega (arith, s.some)) rest)
      ]

  run_ordered : (r : Run) (k : Kind) → IsReadableRun image r k → 0 < r.pages → AreOrdered (4096 * r.first) (4096 * (r.first + r.pages)) (blocks_of image r k)
  run_ordered r kinds.Header q some = tt
  run_ordered r kinds.Free q some = tt
  run_ordered r kinds.Lfh q some = lower (4096 * r.first) (block_address r.mark.bucket r.first 0) (4096 * (r.first + r.pages)) (blocks_of image r kinds.Lfh) (omega arith) (seats_ordered r q.subsegment (block_count r.mark.bucket) 0 (omega arith))
  run_ordered r kinds.Back q some = (omega arith, omega arith, tt)
  run_ordered r kinds.Vs q some =
      let front : ℕ = 256 * r.first + 3 in
      let end : ℕ = 256 * (r.first + r.pages) in
      let same = chunks_are image.heads t (head_told image) readable.told (256 * r.pages) 0 front end q.chunks.0 q.chunks.1 (omega arith) in
      let high : 16 * end ≡ 4096 * (r.first + r.pages) = omega arith in
      let row = lower (4096 * r.first) (16 * front) (16 * end) (row_blocks front q.chunks.0) (omega arith) (row_ordered image.heads t 0 front end q.chunks.0 q.chunks.1) in
      subst (λ n. AreOrdered (4096 * r.first) n (blocks_of image r kinds.Vs)) high (subst (λ (bs : List Block). AreOrdered (4096 * r.first) (16 * end) bs) (sym same) row)

  runs_ordered : (words : List ℕ) (from to : ℕ) (rs : List Run) → AreRuns words from to rs → AllByRecursion (Each image) rs → AreOrdered (4096 * from) (4096 * to) (flat_map (λ r. blocks_of image r r.mark.kind) rs)
  runs_ordered words from to [] a all = tt
  runs_ordered words from to (r ∷ rs) a all =
      let first = subst (λ n. AreOrdered (4096 * n) (4096 * (n + r.pages)) (blocks_of image r r.mark.kind)) a.0 (run_ordered r r.mark.kind all.0 a.1.some) in
      let le = runs_le words (from + r.pages) to rs a.2 in
      append (4096 * from) (4096 * (from + r.pages)) (4096 * to) (blocks_of image r r.mark.kind) (flat_map (λ (x : Run). blocks_of image x x.mark.kind) rs) (omega arith) (omega arith) first (runs_ordered words (from + r.pages) to rs a.2 all.1)

  pages_ordered : AreOrdered 0 (4096 * length image.descs) (page_blocks image)
  pages_ordered = runs_ordered image.descs 0 (length image.descs) (runs_of image.descs) readable.whole (each image readable)

  blocks_ordered : IsSound image.large → AreOrdered 0 (end_of_area image) (decode image)
  blocks_ordered sound =
      let l = image.large.limits in
      let front : 4096 * (256 * l.segments + 0) ≡ 4096 * length image.descs = omega (arith, readable.pages, ap (λ (x : Limits). x.segments) readable.large) in
      let end : 4096 * (256 * l.segments + l.large_pages) ≡ end_of_area image = omega (arith, readable.pages, ap (λ (x : Limits). x.segments) readable.large, ap (λ (x : Limits). x.large_pages) readable.large) in
      let rows : AreOrdered (4096 * length image.descs) (end_of_area image) (table_blocks image.large) = subst₂ (λ (low high : ℕ). AreOrdered low high (table_blocks image.large)) front end (rows_ordered l 0 image.large.blocks sound.laid) in
      append 0 (4096 * length image.descs) (end_of_area image) (page_blocks image) (table_blocks image.large) (omega arith) (omega arith) pages_ordered rows

-- where all lie at or after two addresses, either gives the same
all_behind : (low high from other : ℕ) (bs : List Block) → AreOrdered low high bs → from ≤ low → other ≤ low → blocks_from from bs ≡ blocks_from other bs
all_behind low high from other [] a l k = refl
all_behind low high from other (b ∷ bs) a l k =
    let e = le-leb from b.addr (omega (arith, a.0)) in
    let f = le-leb other b.addr (omega (arith, a.0)) in
    rw (e, f) (ap (λ (xs : List Block). b ∷ xs) (all_behind (b.addr + 1) high from other bs a.2 (omega (arith, a.0)) (omega (arith, a.0))))

-- What follows the first block at or after an address.
pub record Step (high from : ℕ) (bs : List Block) (b : Block) : Type 0 where
  pub above : from ≤ b.addr
  pub below : b.addr < high
  pub picked : blocks_from from bs ≡ b ∷ blocks_from (b.addr + 1) bs

step_from : (low high from : ℕ) (bs : List Block) (b : Block) → AreOrdered low high bs → find (is_at_or_after from) bs ≡ Some b → Step high from bs b × (low ≤ b.addr)
step_from low high from [] b a f = absurd (let z : ⊥ = cc in z)
step_from low high from (x ∷ xs) b a f = elim (cases_Bool (leb from x.addr)) [
  | inl e ↦
      let is : Some x ≡ Some b = rw e at f in
      let same : x ≡ b = cc in
      let l = leb-true from x.addr e in
      let behind = all_behind (x.addr + 1) high from (x.addr + 1) xs a.2 (omega arith) (omega arith) in
      let under = lt-leb (x.addr + 1) x.addr (omega arith) in
      let S : Block → Type 0 = λ y. Step high from (x ∷ xs) y × (low ≤ y.addr) in
      subst S same (record { above = l; below = a.1; picked = rw (under, e) (ap (λ (ys : List Block). x ∷ ys) behind) }, a.0)
  | inr e ↦
      let rest = step_from (x.addr + 1) high from xs b a.2 (rw e at f) in
      let under = lt-leb (b.addr + 1) x.addr (omega (arith, rest.1)) in
      (record { above = rest.0.above; below = rest.0.below; picked = rw (e, under) rest.0.picked }, omega (arith, a.0, rest.1))
]

pub step : (image : Image) → IsReadable image → IsTiled image.heads → IsSound image.large → (from : ℕ) (b : Block) → Some b ≡ find (is_at_or_after from) (decode image) → Step (end_of_area image) from (decode image) b
step image readable t sound from b f = (step_from 0 (end_of_area image) from (decode image) b (blocks_ordered image readable t sound) (sym f)).0

-- addresses have room for one more
pub few_addresses : (image : Image) → IsReadable image → IsSound image.large → length image.descs ≤ 4096 → end_of_area image ≤ 33554432
few_addresses image readable sound few = omega (arith, few, sound.limits.large_pages, ap (λ (x : Limits). x.large_pages) readable.large)

none_from : (from : ℕ) (bs : List Block) → find (is_at_or_after from) bs ≡ None → blocks_from from bs ≡ []
none_from from [] f = refl
none_from from (x ∷ xs) f = elim (cases_Bool (leb from x.addr)) [
  | inl e ↦ let z : Some x ≡ None = rw e at f in absurd (let y : ⊥ = cc in y)
  | inr e ↦ rw e (none_from from xs (rw e at f))
]

all_from : (bs : List Block) → blocks_from 0 bs ≡ bs
all_from [] = refl
all_from (b ∷ bs) = let e = le-leb 0 b.addr (omega arith) in rw e (ap (λ (xs : List Block). b ∷ xs) (all_from bs))

pub all_lines : (bs : List Block) → lines_from 0 bs ≡ flat_map block_line bs
all_lines bs = ap (flat_map block_line) (all_from bs)

pub block_put : (from next : ℕ) (bs : List Block) (b : Block) (old new whole : List ℕ) → blocks_from from bs ≡ b ∷ blocks_from next bs → new ≡ old ++ block_line b → old ++ lines_from from bs ≡ whole → new ++ lines_from next bs ≡ whole
block_put from next bs b old new whole e p w = put_on old new (block_line b) (lines_from next bs) (lines_from from bs) whole p (ap (flat_map block_line) e) w

pub none_left : (from : ℕ) (bs : List Block) (old whole : List ℕ) → None ≡ find (is_at_or_after from) bs → old ++ lines_from from bs ≡ whole → old ≡ whole
none_left from bs old whole f w = put_all old (lines_from from bs) whole (ap (flat_map block_line) (none_from from bs (sym f))) w
