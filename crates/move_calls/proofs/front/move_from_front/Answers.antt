use Rattle.move_calls.proofs.Carrying.{carries}
use Rattle.move_calls.proofs.front.move_from_front.Goals as goal

pub move_carried-requires-clause-carrying : goal.move_carried-requires-clause-carrying
move_carried-requires-clause-carrying c =
    let z = c.requires.taken in let k = c.args.c.now in
    (z.0, carries z.0 k c.args.addr c.args.size c.args.n c.args.flags c.args.tag z.1 z.2 (c.taken_has.ensures z.0 k c.args.addr c.args.size c.args.n c.args.flags c.args.tag z.1 c.requires.may z.2 c.check.ensures.stands c.check.ensures.legal))

pub returns : goal.returns
returns c = λ first v t.
    let k = c.args.c.now in
    c.move_carried.ensures first (carries first k c.args.addr c.args.size c.args.n c.args.flags c.args.tag v t (c.taken_has.ensures first k c.args.addr c.args.size c.args.n c.args.flags c.args.tag v c.requires.may t c.check.ensures.stands c.check.ensures.legal))
