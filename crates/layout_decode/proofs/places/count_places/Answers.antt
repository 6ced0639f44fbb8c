use Rattle.std.proofs.Common.{◌≡◌, ℕ, Some, None, arith}
use Rattle.vs_split.specs.Chunks.{head_at}
use Rattle.layout_decode.proofs.Rows.{read_at, count_turn, count_starts, count_ends}
use Rattle.layout_decode.proofs.OneRun.{counts_here, few_here}
use Rattle.layout_decode.proofs.places.count_places.Goals as goal
use Rattle.layout_decode.proofs.places.count_places.Goals.{then-head, else-head}

pub loop-granule-init : goal.loop-granule-init
loop-granule-init c = counts_here c.args.image.now c.requires.tiled c.requires.told c.args.run.now c.requires.chunks

pub returns-in_default-clause-blocks : goal.returns-in_default-clause-blocks
returns-in_default-clause-blocks c =
    let v = c.args.image.now.heads in
    let g : ℕ = c.loop-granule.granule in
    let none : head_at v g ≡ None =
    read_at v g _ _ _ c.from.ensures c.chunk_at.ensures.head c.in_default.is in
    absurd (count_starts v c.requires.tiled _ _ _ g c.loop-granule.blocks c.loop-granule.bytes c.loop-granule.invariant c.loop-granule-test.true none)

pub returns-in_default-clause-bytes : goal.returns-in_default-clause-bytes
returns-in_default-clause-bytes c =
    let v = c.args.image.now.heads in
    let g : ℕ = c.loop-granule.granule in
    let none : head_at v g ≡ None =
    read_at v g _ _ _ c.from.ensures c.chunk_at.ensures.head c.in_default.is in
    absurd (count_starts v c.requires.tiled _ _ _ g c.loop-granule.blocks c.loop-granule.bytes c.loop-granule.invariant c.loop-granule-test.true none)

pub overflow_add-blocks : goal.overflow_add-blocks
overflow_add-blocks c =
    let v = c.args.image.now.heads in
    let g : ℕ = c.loop-granule.granule in
    let at : head_at v g ≡ Some c.in-Some.head =
    read_at v g _ _ _ c.from.ensures c.chunk_at.ensures.head c.in-Some.is in
    let t = count_turn v c.requires.tiled _ _ _ g c.loop-granule.blocks c.loop-granule.bytes c.in-Some.head c.loop-granule.invariant c.loop-granule-test.true at in
    let few = few_here c.args.image.now c.requires.tiled c.requires.told c.args.run.now c.requires.chunks in
    omega (arith, t.more c.if-head.true, few.0, c.requires.inside)

pub overflow_add-bytes : goal.overflow_add-bytes
overflow_add-bytes c =
    let v = c.args.image.now.heads in
    let g : ℕ = c.loop-granule.granule in
    let at : head_at v g ≡ Some c.in-Some.head =
    read_at v g _ _ _ c.from.ensures c.chunk_at.ensures.head c.in-Some.is in
    let t = count_turn v c.requires.tiled _ _ _ g c.loop-granule.blocks c.loop-granule.bytes c.in-Some.head c.loop-granule.invariant c.loop-granule-test.true at in
    let few = few_here c.args.image.now c.requires.tiled c.requires.told c.args.run.now c.requires.chunks in
    rw c.block_of-bytes.ensures (omega (arith, t.larger c.if-head.true, few.1, c.requires.inside))

pub loop-granule-smaller : goal.loop-granule-smaller
loop-granule-smaller c =
    let v = c.args.image.now.heads in
    let g : ℕ = c.loop-granule.granule in
    let at : head_at v g ≡ Some c.in-Some.head =
    read_at v g _ _ _ c.from.ensures c.chunk_at.ensures.head c.in-Some.is in
    let t = count_turn v c.requires.tiled _ _ _ g c.loop-granule.blocks c.loop-granule.bytes c.in-Some.head c.loop-granule.invariant c.loop-granule-test.true at in
    omega (arith, t.below, t.some, c.from-granule.ensures)

pub loop-granule-preserved : goal.loop-granule-preserved
loop-granule-preserved c =
    let v = c.args.image.now.heads in
    let g : ℕ = c.loop-granule.granule in
    let at : head_at v g ≡ Some c.in-Some.head =
    read_at v g _ _ _ c.from.ensures c.chunk_at.ensures.head c.in-Some.is in
    let t = count_turn v c.requires.tiled _ _ _ g c.loop-granule.blocks c.loop-granule.bytes c.in-Some.head c.loop-granule.invariant c.loop-granule-test.true at in
    elim c.if-head.branch [
      | then-head w ↦ rw (c.from-granule.ensures, w.blocks-is, w.bytes-is, w.block_of-bytes.ensures) (t.if_busy w.if-head.true)
      | else-head w ↦ rw (c.from-granule.ensures, w.blocks-is, w.bytes-is) (t.if_free w.if-head.false)
    ]

pub returns-clause-blocks : goal.returns-clause-blocks
returns-clause-blocks c =
    (count_ends c.args.image.now.heads c.requires.tiled _ _ _ c.loop-granule.granule c.loop-granule.blocks c.loop-granule.bytes c.loop-granule.invariant c.loop-granule-test.false).0

pub returns-clause-bytes : goal.returns-clause-bytes
returns-clause-bytes c =
    (count_ends c.args.image.now.heads c.requires.tiled _ _ _ c.loop-granule.granule c.loop-granule.blocks c.loop-granule.bytes c.loop-granule.invariant c.loop-granule-test.false).1
