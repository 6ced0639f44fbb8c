use Rattle.claim_rule.proofs.Seats.{hears}
use Rattle.heap_gate.proofs.seats.hear.Goals as goal

pub load-requires : goal.load-requires
load-requires g c =
    let p = c.args.place.now in
    (c.requires.table.0, c.requires.table.1, hears g.T.Stands.stands c.args.top.now.key c.args.top.now.table_id.slots p.id 0 p.me c.requires.root.0 c.requires.root.1)
