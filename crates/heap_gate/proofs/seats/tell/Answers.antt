use Rattle.claim_rule.proofs.Seats.{tells}
use Rattle.heap_gate.proofs.seats.tell.Goals as goal

pub join_seat-requires : goal.join_seat-requires
join_seat-requires g c =
    let p = c.args.place.now in
    (c.requires.table.0, c.requires.table.1, c.requires.table.2, c.requires.table.3, tells g.T.Stands.stands c.args.top.now.key p.id p.me.0 c.args.other.id c.args.other.me.0 c.requires.caller.0 c.requires.caller.1)
