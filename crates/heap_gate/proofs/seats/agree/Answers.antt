use Rattle.claim_rule.proofs.Seats.{agrees}
use Rattle.heap_gate.proofs.seats.agree.Goals as goal

pub load-requires : goal.load-requires
load-requires g c =
    let p = c.args.place.now in
    (c.requires.table.0, c.requires.table.1, agrees g.T.Stands.stands c.args.top.now.key c.args.top.now.table_id.slots p.id c.requires.caller.0 0 p.me c.requires.caller.1)
