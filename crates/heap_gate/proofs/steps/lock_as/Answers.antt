use Rattle.std.proofs.Common.{arith, ℕ, ◌==◌, subst, sym}
use mathlib.Core.Option.{none}
use prog.Atomic.{either}
use Rattle.atomic_table.specs.Table.{step, Allows}
use Rattle.claim_rule.proofs.HeapLock.{locks}
use Rattle.claim_rule.specs.Rule.{IsRuled}
use Rattle.claim_rule.specs.Plays.{number_of, locked}
use Rattle.heap_gate.proofs.steps.lock_as.Goals as goal

pub compare_exchange-requires : goal.compare_exchange-requires
compare_exchange-requires g c =
    let p = c.args.place.now in
    let slots = c.args.top.now.table_id.slots in
    let P : ℕ → Type 0 = λ t. Allows (IsRuled g.T.Stands.stands c.args.top.now.key) slots p.id p.me 1 (λ x. either (x == 0) t x) (locked g.E.Carried.entries (step slots 1 0 t none) p.me) in
    let w = c.requires.table.1 in
    (c.requires.table.0, omega arith, subst P (sym c.requires.tag) (locks g.T.Stands.stands c.args.top.now.key slots p.id (number_of p.me.0.role) p.me g.E.Carried.entries c.requires.ready c.requires.may))
