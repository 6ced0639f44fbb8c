use Rattle.std.proofs.Common.{arith, ℕ, ◌+◌, ◌-◌, ◌%◌, ◌^◌, subst, sym}
use mathlib.Core.Option.{none}
use Rattle.atomic_table.specs.Table.{step, Allows}
use Rattle.claim_rule.proofs.HeapLock.{unlocks}
use Rattle.claim_rule.specs.Rule.{IsRuled}
use Rattle.claim_rule.specs.Plays.{number_of, unlocked}
use Rattle.heap_gate.proofs.steps.unlock_as.Goals as goal

pub fetch_sub-requires : goal.fetch_sub-requires
fetch_sub-requires g c =
    let p = c.args.place.now in
    let slots = c.args.top.now.table_id.slots in
    let P : ℕ → Type 0 = λ t. Allows (IsRuled g.T.Stands.stands c.args.top.now.key) slots p.id p.me 1 (λ x. (x + (2 ^ 64 - t)) % 2 ^ 64) (unlocked g.E.Carried.entries (step slots 1 t 0 none) p.me) in
    let w = c.requires.table.1 in
    (c.requires.table.0, omega arith, subst P (sym c.requires.tag) (unlocks g.T.Stands.stands c.args.top.now.key slots p.id (number_of p.me.0.role) p.me g.E.Carried.entries c.requires.ready c.requires.may))
