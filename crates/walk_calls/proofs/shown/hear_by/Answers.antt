use Rattle.std.proofs.Common.{arith}
use Rattle.claim_rule.specs.Plays.{number_of}
use Rattle.walk_calls.proofs.Hearing.{hears}
use Rattle.walk_calls.proofs.shown.hear_by.Goals as goal

pub load-requires : goal.load-requires
load-requires g c =
    let p = c.args.place.now in let w = c.requires.table.1 in
    (c.requires.table.0, omega arith, hears g.T.Stands.stands c.args.top.now.key c.args.top.now.table_id.slots p.id (number_of p.me.0.role) 0 p.me g.E.Carried.entries c.requires.ready)
