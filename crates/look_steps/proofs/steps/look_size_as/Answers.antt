use Rattle.std.proofs.Common.{ℕ, subst, sym}
use mathlib.Core.Option.{none}
use Rattle.atomic_table.specs.Table.{step, Allows}
use Rattle.claim_rule.specs.Rule.{IsRuled}
use Rattle.claim_rule.specs.Plays.{number_of}
use Rattle.look_steps.specs.Looks.{looked_size}
use Rattle.look_steps.proofs.Looks.{look_size_law}
use Rattle.look_steps.proofs.steps.look_size_as.Goals as goal

pub load-requires : goal.load-requires
load-requires g c =
    let p = c.args.place.now in
    let slots = c.args.top.now.table_id.slots in
    let P : ℕ → Type 0 = λ z. Allows (IsRuled g.T.Stands.stands c.args.top.now.key) slots p.id p.me z (λ x. x) (looked_size g.E.Carried.entries g.B.Target.number (step slots z 0 0 none) p.me) in
    (c.requires.table.0, c.requires.table.1, subst P (sym c.requires.word) (look_size_law g.T.Stands.stands c.args.top.now.key slots p.id (number_of p.me.0.role) g.B.Target.number p.me g.E.Carried.entries c.requires.ready c.requires.part))
