-- The offset of block i is i blocks.
use Rattle.std.proofs.Common.{◌≡◌, ◌*◌, ◌<◌, ◌-◌, ◌/◌, sym, ◌∙◌, arith}
use Rattle.std.proofs.Math.Nat.{mul-div_left}
use Rattle.heap_model.specs.Buckets.{block_size}
use Rattle.lfh_buckets.proofs.BlockLemmas.{size_in_granules}
use Rattle.lfh_claims.proofs.blocks.number_at.Goals as goal

pub returns : goal.returns
returns c = λ i at.
    let some : 0 < block_size c.args.tag.bucket = omega (arith, (size_in_granules c.args.tag.bucket c.requires.bucket).1) in
    let offset : c.args.addr - c.block_at.result ≡ i * block_size c.args.tag.bucket = omega (arith, at.address, c.block_at.ensures) in
    sym ((λ j. offset j / c.block_size.ensures j) ∙ mul-div_left i some)
