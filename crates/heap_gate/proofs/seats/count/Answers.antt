use Rattle.claim_rule.proofs.Seats.{numbers}
use Rattle.heap_gate.proofs.seats.count.Goals as goal

pub fetch_add-requires : goal.fetch_add-requires
fetch_add-requires g c =
    let p = c.args.place.now in let r = c.requires.root in
    (c.requires.table.0, c.requires.table.1, numbers g.T.Stands.stands c.args.top.now.key c.args.top.now.table_id.slots p.id p.me r.0 r.1 r.2 r.3)
