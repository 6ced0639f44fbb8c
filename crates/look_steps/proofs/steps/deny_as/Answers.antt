use Rattle.claim_rule.specs.Plays.{number_of}
use Rattle.look_steps.proofs.Denials.{deny_law}
use Rattle.look_steps.proofs.steps.deny_as.Goals as goal

pub load-requires : goal.load-requires
load-requires g c =
    let p = c.args.place.now in
    (c.requires.table.0, c.requires.table.1, deny_law g.T.Stands.stands c.args.top.now.key c.args.top.now.table_id.slots p.id (number_of p.me.0.role) g.B.Target.number c.args.word p.me g.E.Carried.entries c.requires.ready c.requires.may)
