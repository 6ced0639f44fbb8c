use Rattle.std.proofs.Common.{ℕ, subst, sym}
use mathlib.Core.Option.{none}
use Rattle.atomic_table.specs.Table.{step, Allows}
use Rattle.claim_rule.specs.Rule.{IsRuled}
use Rattle.claim_rule.specs.Plays.{number_of}
use Rattle.block_steps.specs.Blocks.{taken_block}
use Rattle.block_steps.proofs.BlockLaws.{take_block_law}
use Rattle.block_steps.proofs.steps.take_block_as.Goals as goal

pub swap-requires : goal.swap-requires
swap-requires g c =
    let p = c.args.place.now in
    let slots = c.args.top.now.table_id.slots in
    let P : ℕ → Type 0 = λ z. Allows (IsRuled g.T.Stands.stands c.args.top.now.key) slots p.id p.me z (λ _. 0) (taken_block g.E.Carried.entries g.B.Target.head g.B.Target.bucket g.B.Target.number (step slots z 0 0 none) p.me) in
    (c.requires.table.0, c.requires.table.1, subst P (sym c.requires.word) (take_block_law g.T.Stands.stands c.args.top.now.key slots p.id (number_of p.me.0.role) g.B.Target.head g.B.Target.bucket g.B.Target.slot g.B.Target.number p.me g.E.Carried.entries c.requires.ready c.requires.may))
