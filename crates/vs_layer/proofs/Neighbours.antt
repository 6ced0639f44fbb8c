-- Where the chunks beside a chunk lie, by address.
use Rattle.std.proofs.Common.{◌≡◌, ℕ, ◌+◌, ◌-◌, ◌*◌, ◌/◌, ◌<◌, ◌≤◌, false, Option, Some, None, if◌then◌else◌, sym, ap, subst, ◌∙◌, arith}
use Rattle.std.proofs.lemmas.Bool.{ne_eqb}
use Rattle.vs_headers.specs.declared.Head.{Head}
use Rattle.vs_split.specs.Chunks.{Chunks, head_at, chunk_at, joined_chunk}
use Rattle.vs_split.specs.Tiles.{IsTiled}
use Rattle.vs_split.proofs.TiledLemmas.{chunk_of, chunk_there, end_within, few_granules, prev_below, prev_chunk}
use Rattle.vs_free_tree.specs.Gaps.{GapIndex}
use Rattle.vs_layer.specs.Steps.{if_free, without_gap, IsTakenInto, IsTakenBefore}

-- a chunk ends far below the end of the address space
pub end_fits : (v : Chunks) → IsTiled v → (addr : ℕ) (h : Head) → chunk_at v addr ≡ Some h → addr + 16 * h.units ≤ 16777216
end_fits v t addr h there =
    let c = chunk_of v addr h there in
    omega (arith, c.aligned, end_within v t (addr / 16) h c.head, few_granules v t)

-- the chunk in front
pub front_there : (v : Chunks) → IsTiled v → (addr : ℕ) (h : Head) → chunk_at v addr ≡ Some h → 0 < h.prev → (p : Head) × (chunk_at v (addr - 16 * h.prev) ≡ Some p)
front_there v t addr h there some =
    let n = prev_chunk v t addr h there some (addr - 16 * h.prev) (omega (arith, prev_below v t addr h there)) in
    (n.head, n.there)

pub front_granule : (v : Chunks) → IsTiled v → (addr : ℕ) (h : Head) → chunk_at v addr ≡ Some h → (addr - 16 * h.prev) / 16 ≡ addr / 16 - h.prev
front_granule v t addr h there =
    let c = chunk_of v addr h there in
    omega (arith, c.aligned, prev_below v t addr h there)

pub front_at : (v : Chunks) → IsTiled v → (addr : ℕ) (h : Head) → chunk_at v addr ≡ Some h → chunk_at v (addr - 16 * h.prev) ≡ head_at v (addr / 16 - h.prev)
front_at v t addr h there =
    let c = chunk_of v addr h there in
    chunk_there v (addr - 16 * h.prev) (omega (arith, c.aligned, prev_below v t addr h there)) ∙ ap (head_at v) (front_granule v t addr h there)

---- A free chunk and the gap in front of it

pub free_there : (o : Option Head) (p : Head) → o ≡ Some p → p.busy ≡ false → if_free o ≡ Some p
free_there o p is free = ap if_free is ∙ ap (λ b. if b then None else Some p) free

pub taken_before : (v w : Chunks) (x y : GapIndex) (start answer : ℕ) (h p : Head) → IsTiled v → chunk_at v start ≡ Some h → 0 < h.prev
    → chunk_at v (start - 16 * h.prev) ≡ Some p → p.busy ≡ false → answer + 16 * h.prev ≡ start
    → w ≡ joined_chunk v (answer / 16) p h.units → y ≡ without_gap x p.units ((start - 16 * h.prev) / 16) → IsTakenBefore v w x y (start / 16) h answer
taken_before v w x y start answer h p t there some front free from joined removed =
    let c = chunk_of v start h there in
    let at : answer / 16 ≡ start / 16 - h.prev = omega (arith, c.aligned) in
    let found = ap (λ b. if b then None else if_free (head_at v (start / 16 - h.prev))) (ne_eqb h.prev 0 (λ z. omega arith))
    ∙ free_there (head_at v (start / 16 - h.prev)) p (sym (front_at v t start h there) ∙ front) free in
    subst (IsTakenInto v w x y (start / 16) h answer) (sym found) (
      joined ∙ ap (λ g. joined_chunk v g p h.units) at,
      removed ∙ ap (without_gap x p.units) (front_granule v t start h there),
      omega (arith, c.aligned, prev_below v t start h there),
    )
