-- The blocks of a run of the variable-size layer.
use Rattle.std.proofs.Common.{◌≡◌, ℕ, ◌+◌, ◌*◌, ◌<◌, ◌≤◌, ◌⊎◌, inl, inr, Option, Some, None, sym, ap, subst, ◌∙◌, arith}
use Rattle.std.specs.List.{find}
use Rattle.std.proofs.lemmas.Bool.{cases_lt}
use Rattle.heap_model.specs.declared.Block.{Block}
use Rattle.heap_model.specs.declared.Kind.TheVariants as kinds
use Rattle.heap_model.specs.declared.Run.{Run}
use Rattle.vs_headers.specs.declared.Head.{Head}
use Rattle.vs_split.specs.Chunks.{Chunks, head_at}
use Rattle.vs_split.specs.Tiles.{IsTiled}
use Rattle.layout_decode.specs.declared.Image.{Image}
use Rattle.layout_decode.specs.Decode.{head_told, blocks_of, is_at_or_after, IsRunOfChunks, AreTold}
use Rattle.layout_decode.proofs.Rows.{row_blocks, chunks_are, none_in_row, IsAt, begins}
use Rattle.walk_calls.specs.Seen.{chunks_in}

module _ (v : Chunks) (t : IsTiled v) (r : Run) (chunks : IsRunOfChunks v r kinds.Vs) where
  abbrev pub front : ℕ
  front = 256 * r.first + 3

  abbrev pub end : ℕ
  end = 256 * (r.first + r.pages)

  -- the blocks are those of the row
  blocks_are : chunks_in v r ≡ row_blocks front chunks.0
  blocks_are = chunks_are v t (head_at v) (λ g h e. e) (256 * r.pages) 0 front end chunks.0 chunks.1 (omega arith)

  pub none_here : (from : ℕ) → 16 * end ≤ from → find (is_at_or_after from) (chunks_in v r) ≡ None
  none_here from l = ap (find (is_at_or_after from)) blocks_are ∙ none_in_row v t from 0 front end chunks.0 chunks.1 l

  -- a search may begin at the nearest chunk below the address, or at the front
  pub begins_here : (from k : ℕ) → front ≤ k → (front < k → 16 * k ≤ from) → from < 16 * end → (k ≡ front) ⊎ ((h : Head) × (head_at v k ≡ Some h)) → IsAt v from end (find (is_at_or_after from) (chunks_in v r)) k
  begins_here from k low high l at = elim (cases_lt front k) [
    | inl more ↦ elim at [
      | inl same ↦ absurd (omega arith)
      | inr it ↦ subst (λ (o : Option Block). IsAt v from end o k) (sym found) (begins v t from 0 front end chunks.0 k it.0 chunks.1 low (omega (arith, high more)) it.1 (high more))
    ]
    | inr less ↦ let here : front ≡ k = omega arith in subst (IsAt v from end (find (is_at_or_after from) (chunks_in v r))) here first
  ]
    where
      found : find (is_at_or_after from) (chunks_in v r) ≡ find (is_at_or_after from) (row_blocks front chunks.0)
      found = ap (find (is_at_or_after from)) blocks_are

      first : IsAt v from end (find (is_at_or_after from) (chunks_in v r)) front
      first = record { prev = 0; rest = chunks.0; row = chunks.1; same = found }

-- They are those of an image with these chunks.
pub as_told : (image : Image) (v : Chunks) → image.heads ≡ v → IsTiled v → AreTold image → (r : Run) → IsRunOfChunks v r kinds.Vs → chunks_in v r ≡ blocks_of image r kinds.Vs
as_told image v same t told r chunks = ap (λ (w : Chunks). chunks_in w r) (sym same) ∙ here (subst IsTiled (sym same) t) (subst (λ (w : Chunks). IsRunOfChunks w r kinds.Vs) (sym same) chunks)
  where
    here : IsTiled image.heads → IsRunOfChunks image.heads r kinds.Vs → chunks_in image.heads r ≡ blocks_of image r kinds.Vs
    here k cs =
        blocks_are image.heads k r cs ∙ sym (chunks_are image.heads k (head_told image) told (256 * r.pages) 0 (256 * r.first + 3) (256 * (r.first + r.pages)) cs.0 cs.1 (omega arith))
