use Rattle.std.proofs.Common.{ℕ, subst, sym, bit_and}
use mathlib.Core.Option.{none}
use Rattle.atomic_table.specs.Table.{step, Allows}
use Rattle.claim_rule.specs.Rule.{IsRuled}
use Rattle.claim_rule.specs.Plays.{number_of}
use Rattle.heap_model.specs.Buckets.{block_address}
use Rattle.block_steps.specs.Blocks.{cleared}
use Rattle.block_steps.proofs.BlockLaws.{clear_law}
use Rattle.block_steps.proofs.steps.clear_as.Goals as goal

pub fetch_and-requires : goal.fetch_and-requires
fetch_and-requires g c =
    let p = c.args.place.now in
    let slots = c.args.top.now.table_id.slots in
    let P : ℕ × ℕ → Type 0 = λ z. Allows (IsRuled g.T.Stands.stands c.args.top.now.key) slots p.id p.me z.0 (λ x. bit_and x z.1) (cleared g.E.Carried.entries (block_address g.B.Target.bucket g.B.Target.head g.B.Target.index) (step slots z.0 z.1 0 none) p.me) in
    (c.requires.table.0, c.requires.table.1, subst P (λ i. (sym c.requires.word i, sym c.requires.others i)) (clear_law g.T.Stands.stands c.args.top.now.key slots p.id (number_of p.me.0.role) g.B.Target.head g.B.Target.bucket g.B.Target.slot g.B.Target.index p.me g.E.Carried.entries c.requires.ready c.requires.may))
