-- A block's number is the quotient of its offset.
use Rattle.std.proofs.Common.{◌≡◌, ℕ, ◌*◌, ◌/◌, ◌%◌, ◌<◌, Some, arith, ap, sym, ◌∙◌}
use Rattle.std.proofs.Math.Nat.{mul-div_left, mul-mod_left}
use Rattle.heap_model.specs.Buckets.{block_size}
use Rattle.lfh_buckets.proofs.BlockLemmas.{size_in_granules}
use Rattle.lfh_buckets.proofs.index_of.Goals as goal
use Rattle.lfh_buckets.proofs.index_of.Goals.{else-offset-size-eq0-via-then-offset-size-eq0+else-index-from, else-offset-size-eq0-via-else-offset-size-eq0}

-- the offset of block i has i as its quotient, and no remainder
quotient : (offset size i : ℕ) → 0 < size → offset ≡ i * size → (offset / size ≡ i) × (offset % size ≡ 0)
quotient offset size i p e = (ap (λ x. x / size) e ∙ mul-div_left i p, ap (λ x. x % size) e ∙ mul-mod_left i size)

pub returns-then-index-from-clause-each : goal.returns-then-index-from-clause-each
returns-then-index-from-clause-each c = λ i at.
    let size : block_size c.args.bucket ≡ c.from-size.result = sym (c.from-size.ensures ∙ c.block_size.ensures) in
    let some : 0 < c.from-size.result = omega (arith, (size_in_granules c.args.bucket c.requires.bucket).1, size) in
    let offset : c.in_ok-offset.offset ≡ i * c.from-size.result =
    omega (arith, at.address, ap (λ x. i * x) size, c.in_ok-offset.ensures, c.first_block.ensures) in
    ap Some (quotient c.in_ok-offset.offset c.from-size.result i some offset).0

pub returns-else-offset-size-eq0-clause-each : goal.returns-else-offset-size-eq0-clause-each
returns-else-offset-size-eq0-clause-each c = λ i at.
    let size : block_size c.args.bucket ≡ c.from-size.result = sym (c.from-size.ensures ∙ c.block_size.ensures) in
    let some : 0 < c.from-size.result = omega (arith, (size_in_granules c.args.bucket c.requires.bucket).1, size) in
    let offset : c.in_ok-offset.offset ≡ i * c.from-size.result =
    omega (arith, at.address, ap (λ x. i * x) size, c.in_ok-offset.ensures, c.first_block.ensures) in
    let parts = quotient c.in_ok-offset.offset c.from-size.result i some offset in
    elim c.else-offset-size-eq0.branch [
      | else-offset-size-eq0-via-then-offset-size-eq0+else-index-from w ↦ absurd (omega (arith, parts.0, at.index, w.count.ensures, w.from.ensures, w.if-index-from.false))
      | else-offset-size-eq0-via-else-offset-size-eq0 w ↦ absurd (w.if-offset-size-eq0.false parts.1)
    ]
