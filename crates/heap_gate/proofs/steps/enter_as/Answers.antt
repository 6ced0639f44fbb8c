use Rattle.std.proofs.Common.{arith}
use Rattle.claim_rule.proofs.Gate.{enters}
use Rattle.claim_rule.specs.Plays.{number_of}
use Rattle.heap_gate.proofs.steps.enter_as.Goals as goal

pub fetch_add-requires : goal.fetch_add-requires
fetch_add-requires g c =
    let p = c.args.place.now in let w = c.requires.table.1 in
    (c.requires.table.0, omega arith, enters g.T.Stands.stands c.args.top.now.key c.args.top.now.table_id.slots p.id (number_of p.me.0.role) p.me g.E.Carried.entries c.requires.ready c.requires.may)
