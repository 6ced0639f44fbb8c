use Rattle.std.proofs.Common.{arith}
use Rattle.claim_rule.proofs.Gate.{leaves}
use Rattle.claim_rule.specs.Plays.{number_of}
use Rattle.heap_gate.proofs.steps.leave_as.Goals as goal

pub fetch_sub-requires : goal.fetch_sub-requires
fetch_sub-requires g c =
    let p = c.args.place.now in let w = c.requires.table.1 in
    (c.requires.table.0, omega arith, leaves g.T.Stands.stands c.args.top.now.key c.args.top.now.table_id.slots p.id (number_of p.me.0.role) p.me g.E.Carried.entries c.requires.ready c.requires.may)
