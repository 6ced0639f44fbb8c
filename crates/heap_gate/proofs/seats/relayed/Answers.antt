use Rattle.claim_rule.proofs.Seats.{relays}
use Rattle.heap_gate.proofs.seats.relayed.Goals as goal

pub split_seat-requires : goal.split_seat-requires
split_seat-requires g c =
    let p = c.args.place.now in
    (c.requires.table.0, c.requires.table.1, relays g.T.Stands.stands c.args.top.now.key p.id p.me.0)
