-- The blocks of one run.
use Rattle.std.proofs.Common.{◌≡◌, ℕ, ◌+◌, ◌*◌, ◌<◌, ◌≤◌, ◌⊎◌, inl, inr, false, not, List, [], length, Option, Some, None, sym, ap, subst, refl, ◌∙◌, arith}
use Rattle.std.specs.List.{find}
use Rattle.std.proofs.lemmas.Bool.{cases_lt, lt-leb}
use Rattle.heap_model.specs.declared.Block.{Block}
use Rattle.heap_model.specs.declared.Kind.{Kind}
use Rattle.heap_model.specs.declared.Kind.TheVariants as kinds
use Rattle.heap_model.specs.declared.Run.{Run}
use Rattle.heap_model.specs.State.{is_kind}
use Rattle.vs_headers.specs.declared.Head.{Head}
use Rattle.vs_split.specs.Chunks.{head_at}
use Rattle.vs_split.specs.Tiles.{IsTiled}
use Rattle.layout_decode.specs.declared.Image.{Image}
use Rattle.layout_decode.specs.Decode.{head_told, blocks_of, is_at_or_after, total_of, IsRunOfChunks, IsRunOfBlocks, BlocksFit, AreTold}
use Rattle.layout_decode.proofs.SubsegmentLemmas as subsegments
use Rattle.layout_decode.proofs.Rows.{row_blocks, chunks_are, none_in_row, IsAt, begins, IsCounted, bounds}

module _ (image : Image) (t : IsTiled image.heads) (told : AreTold image) where
  module _ (r : Run) (chunks : IsRunOfChunks image.heads r kinds.Vs) where
    abbrev pub front : ℕ
    front = 256 * r.first + 3

    abbrev pub end : ℕ
    end = 256 * (r.first + r.pages)

    abbrev pub blocks : List Block
    blocks = blocks_of image r kinds.Vs

    -- the blocks are those of the row
    blocks_are : blocks ≡ row_blocks front chunks.0
    blocks_are = chunks_are image.heads t (head_told image) told (256 * r.pages) 0 front end chunks.0 chunks.1 (omega arith)

    pub none_here : (from : ℕ) → 16 * end ≤ from → find (is_at_or_after from) blocks ≡ None
    none_here from l = ap (find (is_at_or_after from)) blocks_are ∙ none_in_row image.heads t from 0 front end chunks.0 chunks.1 l

    -- a search may begin at the nearest chunk below the address, or at the front
    pub begins_here : (from k : ℕ) → front ≤ k → (front < k → 16 * k ≤ from) → from < 16 * end → (k ≡ front) ⊎ ((h : Head) × (head_at image.heads k ≡ Some h))
        → IsAt image.heads from end (find (is_at_or_after from) blocks) k
    begins_here from k low high l at = elim (cases_lt front k) [
      | inl more ↦ elim at [
        | inl same ↦ absurd (omega arith)
        | inr it ↦ subst (λ (o : Option Block). IsAt image.heads from end o k) (sym found)
            (begins image.heads t from 0 front end chunks.0 k it.0 chunks.1 low (omega (arith, high more)) it.1 (high more))
      ]
      | inr less ↦ let here : front ≡ k = omega arith in subst (IsAt image.heads from end (find (is_at_or_after from) blocks)) here first
    ]
      where
        found : find (is_at_or_after from) blocks ≡ find (is_at_or_after from) (row_blocks front chunks.0)
        found = ap (find (is_at_or_after from)) blocks_are

        first : IsAt image.heads from end (find (is_at_or_after from) blocks) front
        first = record { prev = 0; rest = chunks.0; row = chunks.1; same = found }

    pub counts_here : IsCounted image.heads (length blocks) (total_of blocks) end front 0 0
    counts_here = record {
      prev = 0;
      rest = chunks.0;
      row = chunks.1;
      blocks_are = omega (arith, ap (length {A = Block}) blocks_are);
      bytes_are = omega (arith, ap total_of blocks_are);
    }

    pub few_here : (length blocks ≤ 256 * r.pages) × (total_of blocks ≤ 4096 * r.pages)
    few_here =
        let b = bounds image.heads t 0 front end chunks.0 chunks.1 in
        (omega (arith, b.0, ap (length {A = Block}) blocks_are), omega (arith, b.1, ap total_of blocks_are))

-- What a walk knows of a run of an image that can be read.
pub record IsReadableRun (image : Image) (r : Run) (k : Kind) : Type 0 where
  pub chunks : IsRunOfChunks image.heads r k
  pub subsegment : IsRunOfBlocks image.limits r k
  pub fit : BlocksFit image r k

module _ (image : Image) (t : IsTiled image.heads) (told : AreTold image) where
  -- the blocks of a run of any kind, as a walk takes them
  abbrev pub of_run : Run → List Block
  of_run r = blocks_of image r r.mark.kind

  abbrev pub Readable : Run → Type 0
  Readable r = IsReadableRun image r r.mark.kind

  -- a run that ends at an address or before it has no block there or behind
  none_of_kind : (from : ℕ) (r : Run) (k : Kind) → IsReadableRun image r k → 0 < r.pages → 4096 * (r.first + r.pages) ≤ from → find (is_at_or_after from) (blocks_of image r k) ≡ None
  none_of_kind from r kinds.Header q some l = refl
  none_of_kind from r kinds.Free q some l = refl
  none_of_kind from r kinds.Lfh q some l = subsegments.none_here image r from q.subsegment l
  none_of_kind from r kinds.Back q some l = let e = lt-leb from (4096 * r.first) (omega arith) in rw e refl
  none_of_kind from r kinds.Vs q some l = none_here image t told r q.chunks from (omega arith)

  pub none_before : (from page : ℕ) → 4096 * page ≤ from → (r : Run) → Readable r → 0 < r.pages → r.first + r.pages ≤ page → find (is_at_or_after from) (of_run r) ≡ None
  none_before from page low r q some l = none_of_kind from r r.mark.kind q some (omega arith)

  few_of_kind : (r : Run) (k : Kind) → IsReadableRun image r k → 0 < r.pages → (length (blocks_of image r k) ≤ 256 * r.pages) × (total_of (blocks_of image r k) ≤ 4096 * r.pages)
  few_of_kind r kinds.Header q some = (omega arith, omega arith)
  few_of_kind r kinds.Free q some = (omega arith, omega arith)
  few_of_kind r kinds.Lfh q some = subsegments.few_here image r q.subsegment q.fit
  few_of_kind r kinds.Back q some = (omega arith, omega arith)
  few_of_kind r kinds.Vs q some = few_here image t told r q.chunks

  pub few : (r : Run) → Readable r → 0 < r.pages → (length (of_run r) ≤ 256 * r.pages) × (total_of (of_run r) ≤ 4096 * r.pages)
  few r q some = few_of_kind r r.mark.kind q some

-- a header page has no block
none_of_header : (image : Image) (r : Run) (k : Kind) → not (is_kind k kinds.Header) ≡ false → blocks_of image r k ≡ []
none_of_header image r kinds.Header e = refl
none_of_header image r kinds.Free e = absurd (let z : ⊥ = cc in z)
none_of_header image r kinds.Vs e = absurd (let z : ⊥ = cc in z)
none_of_header image r kinds.Lfh e = absurd (let z : ⊥ = cc in z)
none_of_header image r kinds.Back e = absurd (let z : ⊥ = cc in z)

pub headers : (image : Image) (r : Run) → not (is_kind r.mark.kind kinds.Header) ≡ false → blocks_of image r r.mark.kind ≡ []
headers image r e = none_of_header image r r.mark.kind e
