use Rattle.std.proofs.Common.{◌-◌, ◌*◌, ◌<◌}
use Rattle.backend_fit.proofs.Bits.{IsTail}
use Rattle.backend_fit.proofs.page_bits.first_in.Given as goal

abbrev pub invariant-loop-word : goal.invariant-loop-word
invariant-loop-word l = record { inside : 64 * l.index < l.to; tail : IsTail l.bits l.from l.index l.word }

abbrev pub decreases-loop-word : goal.decreases-loop-word
decreases-loop-word l = l.to - 64 * l.index
