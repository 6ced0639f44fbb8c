-- The blocks of a row of chunks.
use Rattle.std.proofs.Common.{◌≡◌, ℕ, zero, suc, ◌+◌, ◌*◌, ◌<◌, ◌≤◌, true, false, List, [], ◌∷◌, ◌++◌, length, Option, Some, None, sym, ap, subst, refl, ◌∙◌, arith, ◌/◌, ltb, inl, inr}
use Rattle.std.specs.List.{find}
use Rattle.std.proofs.lemmas.List.Sums.{sum_by-cons}
use Rattle.std.proofs.lemmas.Bool.{cases_Bool, cases_order, le-leb, lt-leb, lt-ltb, le-ltb}
use Rattle.heap_model.specs.declared.Block.{Block}
use Rattle.vs_headers.specs.declared.Head.{Head}
use Rattle.vs_split.specs.Chunks.{Chunks, head_at, chunk_at}
use Rattle.vs_split.specs.Tiles.{IsTiled}
use Rattle.vs_split.specs.Laws.{IsRow}
use Rattle.vs_split.proofs.TileLemmas.{same_head, none_or_some}
use Rattle.vs_split.proofs.TiledLemmas.{chunk_there}
use Rattle.layout_decode.specs.Decode.{place_block, block_if, chunk_blocks, is_at_or_after, total_of}

abbrev pub row_blocks : ℕ → List Head → List Block
row_blocks g [] = []
row_blocks g (h ∷ hs) = block_if g h ++ row_blocks (g + h.units) hs

pub row_le : (v : Chunks) (prev from to : ℕ) (hs : List Head) → IsRow v prev from to hs → from ≤ to
row_le v prev from to [] row = omega (arith, row)
row_le v prev from to (h ∷ hs) row = omega (arith, row_le v h.units (from + h.units) to hs row.2)

-- the chunks that are found one by one are those of the row
module _ (v : Chunks) (t : IsTiled v) (told : ℕ → Option Head) (tells : (g : ℕ) (h : Head) → head_at v g ≡ Some h → told g ≡ Some h) where
  pub chunks_are : (n prev from to : ℕ) (hs : List Head) → IsRow v prev from to hs → to ≤ from + n → chunk_blocks told n from to ≡ row_blocks from hs
  chunks_are zero prev from to [] row l = refl
  chunks_are zero prev from to (h ∷ hs) row l = absurd (omega (arith, (t.tiles from h row.0).some, row_le v h.units (from + h.units) to hs row.2))
  chunks_are (suc n) prev from to [] row l = let e : ltb from to ≡ false = le-ltb from to (omega (arith, row)) in rw e refl
  chunks_are (suc n) prev from to (h ∷ hs) row l =
      let some = (t.tiles from h row.0).some in
      let e : ltb from to ≡ true = lt-ltb from to (omega (arith, some, row_le v h.units (from + h.units) to hs row.2)) in
      let is : told from ≡ Some h = tells from h row.0 in
      rw (e, is) (ap (λ (bs : List Block). block_if from h ++ bs) (chunks_are n h.units (from + h.units) to hs row.2 (omega (arith, some))))

-- a block before an address is not found
pub passed_one : (from g : ℕ) (h : Head) (bs : List Block) → (h.busy ≡ true → 16 * g + 16 < from) → find (is_at_or_after from) (block_if g h ++ bs) ≡ find (is_at_or_after from) bs
passed_one from g h bs l = elim (cases_Bool h.busy) [
  | inl b ↦ let e = lt-leb from (16 * g + 16) (l b) in rw (b, e) refl
  | inr b ↦ rw b refl
]

pub took_one : (from g : ℕ) (h : Head) (bs : List Block) → h.busy ≡ true → from ≤ 16 * g + 16 → find (is_at_or_after from) (block_if g h ++ bs) ≡ Some (place_block g h)
took_one from g h bs b l = let e = le-leb from (16 * g + 16) l in rw (b, e) refl

module _ (v : Chunks) where
  -- What a search that has come to a chunk knows: a row from there on, in which it finds what it seeks.
  pub record IsAt (from to : ℕ) (sought : Option Block) (k : ℕ) : Type 0 where
    pub prev : ℕ
    pub rest : List Head
    pub row : IsRow v prev k to rest
    pub same : sought ≡ find (is_at_or_after from) (row_blocks k rest)

  -- What a search does with the chunk that it has come to.
  pub record Turn (from to : ℕ) (sought : Option Block) (k : ℕ) (h : Head) : Type 0 where
    pub took : h.busy ≡ true → from ≤ 16 * k + 16 → sought ≡ Some (place_block k h)
    pub passed : (h.busy ≡ true → 16 * k + 16 < from) → IsAt from to sought (k + h.units)
    pub below : k + h.units ≤ to
    pub some : 2 ≤ h.units

  -- What a count that has come to a chunk knows: a row from there on, whose blocks are still to be counted.
  pub record IsCounted (all_blocks all_bytes to k blocks bytes : ℕ) : Type 0 where
    pub prev : ℕ
    pub rest : List Head
    pub row : IsRow v prev k to rest
    pub blocks_are : blocks + length (row_blocks k rest) ≡ all_blocks
    pub bytes_are : bytes + total_of (row_blocks k rest) ≡ all_bytes

  -- What a count does with the chunk that it has come to.
  pub record CountTurn (all_blocks all_bytes to k blocks bytes : ℕ) (h : Head) : Type 0 where
    pub if_busy : h.busy ≡ true → IsCounted all_blocks all_bytes to (k + h.units) (blocks + 1) (bytes + (place_block k h).size)
    pub if_free : h.busy ≡ false → IsCounted all_blocks all_bytes to (k + h.units) blocks bytes
    pub more : h.busy ≡ true → blocks + 1 ≤ all_blocks
    pub larger : h.busy ≡ true → bytes + (place_block k h).size ≤ all_bytes
    pub below : k + h.units ≤ to
    pub some : 2 ≤ h.units

module _ (v : Chunks) (t : IsTiled v) where
  pub none_in_row : (from prev g to : ℕ) (hs : List Head) → IsRow v prev g to hs → 16 * to ≤ from → find (is_at_or_after from) (row_blocks g hs) ≡ None
  none_in_row from prev g to [] row l = refl
  none_in_row from prev g to (h ∷ hs) row l =
      let some = (t.tiles g h row.0).some in
      let le = row_le v h.units (g + h.units) to hs row.2 in
      passed_one from g h (row_blocks (g + h.units) hs) (λ _. omega arith) ∙ none_in_row from h.units (g + h.units) to hs row.2 l

  -- a row has its first chunk, but at the end
  first_there : (prev k to : ℕ) (hs : List Head) → IsRow v prev k to hs → k < to → head_at v k ≡ None → ⊥
  first_there prev k to [] row l none = absurd (omega (arith, row))
  first_there prev k to (x ∷ xs) row l none = none_or_some (head_at v k) x none row.0

  -- .. where it has none
  ended : (prev k to : ℕ) (hs : List Head) → IsRow v prev k to hs → to ≤ k → row_blocks k hs ≡ []
  ended prev k to [] row l = refl
  ended prev k to (x ∷ xs) row l = absurd (omega (arith, (t.tiles k x row.0).some, row_le v x.units (k + x.units) to xs row.2))

  ---- Searching

  -- it may begin at any chunk below the address
  pub begins : (from prev g to : ℕ) (hs : List Head) (k : ℕ) (h : Head) → IsRow v prev g to hs → g ≤ k → k < to → head_at v k ≡ Some h → 16 * k ≤ from
      → IsAt v from to (find (is_at_or_after from) (row_blocks g hs)) k
  begins from prev g to [] k h row low high is l = absurd (omega (arith, row))
  begins from prev g to (x ∷ xs) k h row low high is l = elim (cases_order k g) [
    | inl here ↦ subst (IsAt v from to (find (is_at_or_after from) (row_blocks g (x ∷ xs)))) (sym here) (record { prev = prev; rest = x ∷ xs; row = row; same = refl })
    | inr (inl less) ↦ absurd (omega arith)
    | inr (inr more) ↦
        let tile = t.tiles g x row.0 in
        let some = tile.some in
        let apart = tile.apart k h more is in
        let rest = begins from x.units (g + x.units) to xs k h row.2 apart high is l in
        record {
          prev = rest.prev;
          rest = rest.rest;
          row = rest.row;
          same = passed_one from g x (row_blocks (g + x.units) xs) (λ _. omega arith) ∙ rest.same;
        }
  ]

  pub turn : (from to : ℕ) (sought : Option Block) (k : ℕ) (h : Head) → IsAt v from to sought k → k < to → head_at v k ≡ Some h → Turn v from to sought k h
  turn from to sought k h a l is = by a.prev a.rest a.row a.same
    where
      by : (prev : ℕ) (hs : List Head) → IsRow v prev k to hs → sought ≡ find (is_at_or_after from) (row_blocks k hs) → Turn v from to sought k h
      by prev [] row same = absurd (omega (arith, row))
      by prev (x ∷ xs) row same =
          let e : x ≡ h = same_head x h (sym row.0 ∙ is) in
          subst (Turn v from to sought k) e (record {
            took = λ b le. same ∙ took_one from k x (row_blocks (k + x.units) xs) b le;
            passed = λ less. record { prev = x.units; rest = xs; row = row.2; same = same ∙ passed_one from k x (row_blocks (k + x.units) xs) less };
            below = row_le v x.units (k + x.units) to xs row.2;
            some = (t.tiles k x row.0).some;
          })

  -- a chunk starts where the search has come to
  pub starts : (from to : ℕ) (sought : Option Block) (k : ℕ) → IsAt v from to sought k → k < to → head_at v k ≡ None → ⊥
  starts from to sought k a l none = first_there a.prev k to a.rest a.row l none

  -- nothing is found at the end
  pub ends : (from to : ℕ) (sought : Option Block) (k : ℕ) → IsAt v from to sought k → to ≤ k → sought ≡ None
  ends from to sought k a l = a.same ∙ ap (find (is_at_or_after from)) (ended a.prev k to a.rest a.row l)

  ---- Counting

  pub count_turn : (all_blocks all_bytes to k blocks bytes : ℕ) (h : Head) → IsCounted v all_blocks all_bytes to k blocks bytes → k < to → head_at v k ≡ Some h → CountTurn v all_blocks all_bytes to k blocks bytes h
  count_turn all_blocks all_bytes to k blocks bytes h a l is = by a.prev a.rest a.row a.blocks_are a.bytes_are
    where
      by : (prev : ℕ) (hs : List Head) → IsRow v prev k to hs → blocks + length (row_blocks k hs) ≡ all_blocks → bytes + total_of (row_blocks k hs) ≡ all_bytes
          → CountTurn v all_blocks all_bytes to k blocks bytes h
      by prev [] row e f = absurd (omega (arith, row))
      by prev (x ∷ xs) row e f =
          let same : x ≡ h = same_head x h (sym row.0 ∙ is) in
          let more : x.busy ≡ true → blocks + suc (length (row_blocks (k + x.units) xs)) ≡ all_blocks = λ b. (rw b at e) in
          let larger : x.busy ≡ true → bytes + ((place_block k x).size + total_of (row_blocks (k + x.units) xs)) ≡ all_bytes =
          λ b. ap (λ n. bytes + n) (sym (sum_by-cons (λ (c : Block). c.size) (place_block k x) (row_blocks (k + x.units) xs))) ∙ (rw b at f) in
          subst (CountTurn v all_blocks all_bytes to k blocks bytes) same (record {
            if_busy = λ b. record { prev = x.units; rest = xs; row = row.2; blocks_are = omega (arith, more b); bytes_are = omega (arith, larger b) };
            if_free = λ b. record { prev = x.units; rest = xs; row = row.2; blocks_are = (rw b at e); bytes_are = (rw b at f) };
            more = λ b. omega (arith, more b);
            larger = λ b. omega (arith, larger b);
            below = row_le v x.units (k + x.units) to xs row.2;
            some = (t.tiles k x row.0).some;
          })

  pub count_starts : (all_blocks all_bytes to k blocks bytes : ℕ) → IsCounted v all_blocks all_bytes to k blocks bytes → k < to → head_at v k ≡ None → ⊥
  count_starts all_blocks all_bytes to k blocks bytes a l none = first_there a.prev k to a.rest a.row l none

  -- nothing is left at the end
  pub count_ends : (all_blocks all_bytes to k blocks bytes : ℕ) → IsCounted v all_blocks all_bytes to k blocks bytes → to ≤ k → (blocks ≡ all_blocks) × (bytes ≡ all_bytes)
  count_ends all_blocks all_bytes to k blocks bytes a l =
      let none = ended a.prev k to a.rest a.row l in
      (omega (arith, a.blocks_are, ap (length {A = Block}) none), omega (arith, a.bytes_are, ap total_of none))

  -- blocks are no more than the granules, and have no more bytes
  pub bounds : (prev g to : ℕ) (hs : List Head) → IsRow v prev g to hs → (length (row_blocks g hs) + g ≤ to) × (total_of (row_blocks g hs) + 16 * g ≤ 16 * to)
  bounds prev g to [] row = (omega (arith, row), omega (arith, row))
  bounds prev g to (h ∷ hs) row =
      let rest = bounds h.units (g + h.units) to hs row.2 in
      let some = (t.tiles g h row.0).some in
      elim (cases_Bool h.busy) [
        | inl b ↦
            let e = sum_by-cons (λ (c : Block). c.size) (place_block g h) (row_blocks (g + h.units) hs) in
            rw b (omega (arith, rest.0), omega (arith, rest.1, e))
        | inr b ↦ rw b (omega (arith, rest.0), omega (arith, rest.1))
      ]

-- the chunk at the address of a granule
pub chunk_of_granule : (v : Chunks) (g : ℕ) → chunk_at v (16 * g) ≡ head_at v g
chunk_of_granule v g = let same : 16 * g / 16 ≡ g = omega arith in chunk_there v (16 * g) (omega arith) ∙ ap (head_at v) same

-- .. as it was read there
pub read_at : (v : Chunks) (g n : ℕ) (read o : Option Head) → n ≡ g → read ≡ chunk_at v (16 * n) → read ≡ o → head_at v g ≡ o
read_at v g n read o same is e = sym (chunk_of_granule v g) ∙ ap (λ k. chunk_at v (16 * k)) (sym same) ∙ sym is ∙ e
