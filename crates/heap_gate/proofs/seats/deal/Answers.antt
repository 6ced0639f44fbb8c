use Rattle.claim_rule.proofs.Seats.{deals}
use Rattle.heap_gate.proofs.seats.deal.Goals as goal

pub split_seat-requires : goal.split_seat-requires
split_seat-requires g c =
    let p = c.args.place.now in let r = c.requires.root in
    (c.requires.table.0, c.requires.table.1, deals g.T.Stands.stands c.args.top.now.key g.A.Assigned.assignment p.id p.me.0 r.0 r.1 r.2 r.3)
