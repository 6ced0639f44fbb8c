use Rattle.std.proofs.Common.{ℕ, subst, sym, bit_or}
use mathlib.Core.Option.{none}
use Rattle.atomic_table.specs.Table.{step, Allows}
use Rattle.claim_rule.specs.Rule.{IsRuled}
use Rattle.claim_rule.specs.Plays.{number_of}
use Rattle.block_steps.specs.Claims.{claimed}
use Rattle.block_steps.proofs.Claims.{claim_law}
use Rattle.block_steps.proofs.steps.claim_as.Goals as goal

pub fetch_or-requires : goal.fetch_or-requires
fetch_or-requires g c =
    let p = c.args.place.now in
    let slots = c.args.top.now.table_id.slots in
    let P : ℕ × ℕ → Type 0 = λ z. Allows (IsRuled g.T.Stands.stands c.args.top.now.key) slots p.id p.me z.0 (λ x. bit_or x z.1) (claimed g.E.Carried.entries g.B.Target.head g.B.Target.bucket g.B.Target.slot g.B.Target.index g.B.Target.back g.B.Target.hint (step slots z.0 z.1 0 none) p.me) in
    (c.requires.table.0, c.requires.table.1, subst P (λ i. (sym c.requires.word i, sym c.requires.bit i)) (claim_law g.T.Stands.stands c.args.top.now.key slots p.id (number_of p.me.0.role) g.B.Target.head g.B.Target.bucket g.B.Target.slot g.B.Target.index g.B.Target.back g.B.Target.hint p.me g.E.Carried.entries c.requires.ready c.requires.slot c.requires.may))
