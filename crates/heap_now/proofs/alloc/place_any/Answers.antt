use Rattle.std.proofs.Common.{arith}
use Rattle.heap_now.proofs.LateAllocs.{big_late}
use Rattle.heap_now.proofs.alloc.place_any.Goals as goal

pub returns-else-n-le131072-clause-late : goal.returns-else-n-le131072-clause-late
returns-else-n-le131072-clause-late c = big_late c.args.c.now c.place_big.new.c c.args.n (omega (arith, c.if-n-le131072.false))

pub returns-then-n-le131072-clause-backs : goal.returns-then-n-le131072-clause-backs
returns-then-n-le131072-clause-backs c few = c.place_little.ensures.backs

pub returns-else-n-le131072-clause-backs : goal.returns-else-n-le131072-clause-backs
returns-else-n-le131072-clause-backs c few = let big = c.if-n-le131072.false in absurd (omega (arith, few, big))
