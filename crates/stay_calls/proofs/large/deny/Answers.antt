use Rattle.stay_calls.proofs.LargeStays.{same_tells, large_none}
use Rattle.stay_calls.proofs.large.deny.Goals as goal

pub give_large_denying-requires-clause-tells : goal.give_large_denying-requires-clause-tells
give_large_denying-requires-clause-tells c =
    let x = c.requires.large.has in same_tells c.args.c.now x.0 c.args.large x.1 c.check.ensures.stands c.blocks-blocks.ensures.sound c.args.addr

pub give_large_denying-requires-clause-none : goal.give_large_denying-requires-clause-none
give_large_denying-requires-clause-none c =
    let x = c.requires.large.has in large_none c.args.c.now x.0 c.args.large x.1 c.check.ensures.stands c.blocks-blocks.ensures.sound c.args.addr c.requires.none c.requires.large.behind
