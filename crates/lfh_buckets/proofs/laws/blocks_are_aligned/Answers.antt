-- Block sizes are multiples of 16, as is the address of the first block.
use Rattle.lfh_buckets.proofs.Seats.{aligned}
use Rattle.lfh_buckets.proofs.laws.blocks_are_aligned.Goals as goal

pub returns : goal.returns
returns c = λ b head i h. aligned b head i h
