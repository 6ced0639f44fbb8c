use Rattle.std.proofs.Common.{ℕ, subst, sym}
use mathlib.Core.Option.{none}
use Rattle.atomic_table.specs.Table.{step, Allows}
use Rattle.claim_rule.specs.Rule.{IsRuled}
use Rattle.claim_rule.specs.Plays.{number_of}
use Rattle.span_steps.specs.Retires.{retired}
use Rattle.span_steps.proofs.Retires.{retire_law}
use Rattle.span_steps.proofs.steps.retire_as.Goals as goal

pub store-requires : goal.store-requires
store-requires g c =
    let p = c.args.place.now in
    let slots = c.args.top.now.table_id.slots in
    let P : ℕ → Type 0 = λ z. Allows (IsRuled g.T.Stands.stands c.args.top.now.key) slots p.id p.me z (λ _. c.args.value) (λ _. retired g.E.Carried.entries g.B.Target.head g.B.Target.number g.B.Target.bucket g.B.Target.slot (step slots z c.args.value 0 none) p.me c.args.value) in
    (c.requires.table.0, c.requires.table.1, subst P (sym c.requires.word) (retire_law g.T.Stands.stands c.args.top.now.key slots p.id (number_of p.me.0.role) g.B.Target.head g.B.Target.number g.B.Target.bucket g.B.Target.slot c.args.value p.me g.E.Carried.entries c.requires.ready c.requires.bucket.0 c.requires.bucket.1 c.requires.bucket.2 c.requires.may))
