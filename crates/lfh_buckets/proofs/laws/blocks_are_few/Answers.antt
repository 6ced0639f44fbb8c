-- The counts of all 128 buckets are evaluated.
use Rattle.std.proofs.Common.{arith}
use Rattle.lfh_buckets.proofs.BlockLemmas.{few_blocks}
use Rattle.lfh_buckets.proofs.laws.blocks_are_few.Goals as goal

pub returns : goal.returns
returns c = λ b h. let few = few_blocks b h in record { least = few.0; most = few.1; words = omega (arith, few.1) }
