use Rattle.std.proofs.Common.{◌/◌, arith}
use Rattle.backend_fit.proofs.Bits.{tail_begins, tail_low, tail_there, tail_first}
use Rattle.backend_fit.proofs.page_bits.first_in.Goals as goal

pub loop-word-init : goal.loop-word-init
loop-word-init c = record { inside = omega arith; tail = tail_begins c.args.bits.now c.args.from (omega (arith, c.type_inv.bits (c.args.from / 64))) }

pub returns-then-page-to : goal.returns-then-page-to
returns-then-page-to c =
    let t = c.loop-word.invariant.tail in
    let bits = c.args.bits.now in
    record {
      low = tail_low bits c.args.from c.loop-word.index c.loop-word.word t c.loop-word-test.false;
      high = c.if-page-to.true;
      there = tail_there bits c.args.from c.loop-word.index c.loop-word.word t c.loop-word-test.false;
      first = tail_first bits c.args.from c.loop-word.index c.loop-word.word t c.loop-word-test.false;
    }

pub returns-else-page-to : goal.returns-else-page-to
returns-else-page-to c = λ page l h.
    tail_first c.args.bits.now c.args.from c.loop-word.index c.loop-word.word c.loop-word.invariant.tail c.loop-word-test.false page l (omega arith)
