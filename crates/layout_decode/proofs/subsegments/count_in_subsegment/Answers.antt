use Rattle.std.proofs.Common.{◌≡◌, ℕ, ◌+◌, ◌-◌, List, ◌∷◌, length, ap, arith}
use Rattle.std.proofs.lemmas.List.Sums.{sum_by-cons}
use Rattle.heap_model.specs.declared.Block.{Block}
use Rattle.heap_model.specs.Buckets.{block_count}
use Rattle.layout_decode.specs.Decode.{blocks_at_bits, total_of}
use Rattle.layout_decode.proofs.SubsegmentLemmas.{next_taken, next_free, none_left, few_here}
use Rattle.layout_decode.proofs.subsegments.count_in_subsegment.Goals as goal
use Rattle.layout_decode.proofs.subsegments.count_in_subsegment.Goals.{in-Some, in_default}

-- a block that is taken is counted
one_more : (b : Block) (bs cs : List Block) → bs ≡ b ∷ cs → (length bs ≡ 1 + length cs) × (total_of bs ≡ b.size + total_of cs)
one_more b bs cs e = (omega (arith, ap (length {A = Block}) e), omega (arith, ap total_of e, sum_by-cons (λ (x : Block). x.size) b cs))

pub overflow_add-blocks : goal.overflow_add-blocks
overflow_add-blocks c =
    let image = c.args.image.now in
    let r = c.args.run.now in
    let n : ℕ = block_count r.mark.bucket in
    let i : ℕ = c.loop-index.index in
    let one = one_more c.in-Some.block (blocks_at_bits image r (n - i) i) (blocks_at_bits image r (n - (i + 1)) (i + 1)) (next_taken image r n i c.in-Some.block (omega arith) c.in-Some.ensures) in
    let few = few_here image r c.requires.subsegment c.requires.fit in
    omega (arith, one.0, few.0, c.requires.subsegment.inside, c.requires.words.limits.segments)

pub overflow_add-bytes : goal.overflow_add-bytes
overflow_add-bytes c =
    let image = c.args.image.now in
    let r = c.args.run.now in
    let n : ℕ = block_count r.mark.bucket in
    let i : ℕ = c.loop-index.index in
    let one = one_more c.in-Some.block (blocks_at_bits image r (n - i) i) (blocks_at_bits image r (n - (i + 1)) (i + 1)) (next_taken image r n i c.in-Some.block (omega arith) c.in-Some.ensures) in
    let few = few_here image r c.requires.subsegment c.requires.fit in
    omega (arith, one.1, few.1, c.requires.subsegment.inside, c.requires.words.limits.segments)

pub loop-index-preserved : goal.loop-index-preserved
loop-index-preserved c =
    let image = c.args.image.now in
    let r = c.args.run.now in
    let n : ℕ = block_count r.mark.bucket in
    let i : ℕ = c.loop-index.index in
    elim c.match-block_of.branch [
      | in-Some w ↦
          let one = one_more w.in-Some.block (blocks_at_bits image r (n - i) i) (blocks_at_bits image r (n - (i + 1)) (i + 1)) (next_taken image r n i w.in-Some.block (omega arith) w.in-Some.ensures) in
          record { blocks = omega (arith, one.0, w.blocks-is, c.loop-index.invariant.blocks); bytes = omega (arith, one.1, w.bytes-is, c.loop-index.invariant.bytes) }
      | in_default w ↦
          let none = next_free image r n i (omega arith) w.in_default.ensures in
          record { blocks = omega (arith, ap (length {A = Block}) none, w.blocks-is, c.loop-index.invariant.blocks); bytes = omega (arith, ap total_of none, w.bytes-is, c.loop-index.invariant.bytes) }
    ]

pub returns-clause-blocks : goal.returns-clause-blocks
returns-clause-blocks c =
    let none = none_left c.args.image.now c.args.run.now (block_count c.args.run.now.mark.bucket) c.loop-index.index (omega arith) in
    omega (arith, ap (length {A = Block}) none, c.loop-index.invariant.blocks)

pub returns-clause-bytes : goal.returns-clause-bytes
returns-clause-bytes c =
    let none = none_left c.args.image.now c.args.run.now (block_count c.args.run.now.mark.bucket) c.loop-index.index (omega arith) in
    omega (arith, ap total_of none, c.loop-index.invariant.bytes)
