use Rattle.std.proofs.Common.{◌≡◌, ℕ, ◌+◌, ◌*◌, ◌<◌, true, false, inl, inr, Some, None, sym, ap, ◌∙◌, arith}
use Rattle.heap_model.specs.declared.Block.{Block}
use Rattle.vs_headers.specs.declared.Head.{Head}
use Rattle.vs_split.specs.Chunks.{head_at}
use Rattle.layout_decode.proofs.Rows.{read_at, turn, starts, ends}
use Rattle.walk_calls.proofs.Chunks.{none_here, begins_here}
use Rattle.walk_calls.proofs.places.next_place.Goals as goal

pub returns-then-at-from : goal.returns-then-at-from
returns-then-at-from c =
    let r = c.args.run.now in
    sym (none_here c.args.heads.now c.requires.tiled r c.requires.chunks c.args.from (omega (arith, c.from.ensures, c.if-at-from.true)))

pub loop-granule-init : goal.loop-granule-init
loop-granule-init c =
    let start = c.chunk_before-granule in
    let below = start.ensures.below in
    let most = c.max.ensures in
    begins_here c.args.heads.now c.requires.tiled c.args.run.now c.requires.chunks c.args.from start.result start.ensures.above (λ more. omega (arith, below, most, more))
    (omega (arith, c.from.ensures, c.if-at-from.false)) start.ensures.start

pub returns-in_err-head : goal.returns-in_err-head
returns-in_err-head c =
    let v = c.args.heads.now in
    let g : ℕ = c.loop-granule.granule in
    let none : head_at v g ≡ None =
    read_at v g _ _ _ c.from-in-loop-granule.ensures c.chunk_at.ensures.head c.in_err-head.was in
    absurd (starts v c.requires.tiled c.args.from _ _ g c.loop-granule.invariant c.loop-granule-test.true none)

pub returns-then-block-from : goal.returns-then-block-from
returns-then-block-from c =
    let v = c.args.heads.now in
    let g : ℕ = c.loop-granule.granule in
    let at : head_at v g ≡ Some c.in_ok-head.head =
    read_at v g _ _ _ c.from-in-loop-granule.ensures c.chunk_at.ensures.head c.in_ok-head.was in
    let t = turn v c.requires.tiled c.args.from _ _ g c.in_ok-head.head c.loop-granule.invariant c.loop-granule-test.true at in
    let low = c.if-block-from.true in
    ap (λ (b : Block). Some b) c.block_of-block.ensures ∙ sym (t.took c.if-head.true (rw c.block_of-block.ensures at low))

pub loop-granule-smaller : goal.loop-granule-smaller
loop-granule-smaller c =
    let v = c.args.heads.now in
    let g : ℕ = c.loop-granule.granule in
    let at : head_at v g ≡ Some c.in_ok-head.head =
    read_at v g _ _ _ c.from-in-loop-granule.ensures c.chunk_at.ensures.head c.in_ok-head.was in
    let t = turn v c.requires.tiled c.args.from _ _ g c.in_ok-head.head c.loop-granule.invariant c.loop-granule-test.true at in
    omega (arith, t.below, t.some, c.from-granule.ensures)

pub loop-granule-preserved : goal.loop-granule-preserved
loop-granule-preserved c =
    let v = c.args.heads.now in
    let g : ℕ = c.loop-granule.granule in
    let h : Head = c.in_ok-head.head in
    let at : head_at v g ≡ Some h =
    read_at v g _ _ _ c.from-in-loop-granule.ensures c.chunk_at.ensures.head c.in_ok-head.was in
    let t = turn v c.requires.tiled c.args.from _ _ g h c.loop-granule.invariant c.loop-granule-test.true at in
    let passed : h.busy ≡ true → 16 * g + 16 < c.args.from = λ b. elim c.else-head.either [
      | inl k ↦ let low = k.1 in (rw c.block_of-block.ensures at low)
      | inr f ↦ let z : true ≡ false = sym b ∙ f in absurd (let y : ⊥ = cc in y)
    ] in
    rw c.from-granule.ensures (t.passed passed)

pub returns : goal.returns
returns c = sym (ends c.args.heads.now c.requires.tiled c.args.from _ _ c.loop-granule.granule c.loop-granule.invariant c.loop-granule-test.false)
