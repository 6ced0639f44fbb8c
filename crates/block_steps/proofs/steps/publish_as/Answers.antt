use Rattle.std.proofs.Common.{ℕ, subst, sym}
use mathlib.Core.Option.{none}
use Rattle.atomic_table.specs.Table.{step, Allows}
use Rattle.claim_rule.specs.Rule.{IsRuled}
use Rattle.claim_rule.specs.Plays.{number_of}
use Rattle.block_steps.specs.Blocks.{published}
use Rattle.block_steps.proofs.BlockLaws.{publish_law}
use Rattle.block_steps.proofs.steps.publish_as.Goals as goal

pub store-requires : goal.store-requires
store-requires g c =
    let p = c.args.place.now in
    let slots = c.args.top.now.table_id.slots in
    let P : ℕ × ℕ → Type 0 = λ z. Allows (IsRuled g.T.Stands.stands c.args.top.now.key) slots p.id p.me z.0 (λ _. z.1) (λ _. published g.E.Carried.entries g.B.Target.number g.B.Target.size (step slots z.0 z.1 0 none) p.me z.1) in
    (c.requires.table.0, c.requires.table.1, subst P (λ i. (sym c.requires.word i, sym c.requires.value i)) (publish_law g.T.Stands.stands c.args.top.now.key slots p.id (number_of p.me.0.role) g.B.Target.number g.B.Target.size p.me g.E.Carried.entries c.requires.ready c.requires.may))
