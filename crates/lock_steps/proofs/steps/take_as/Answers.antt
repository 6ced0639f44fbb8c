use Rattle.std.proofs.Common.{ℕ, ◌<◌, ◌==◌, List, ◌∷◌, Option, Some, subst, sym, ap, ◌∙◌}
use mathlib.Core.Option.{none}
use prog.Atomic.{either}
use Rattle.atomic_table.specs.Table.{step, rest, Allows}
use Rattle.claim_rule.specs.Rule.{IsRuled}
use Rattle.claim_rule.specs.Plays.{number_of}
use Rattle.lock_steps.specs.Locks.{took}
use Rattle.lock_steps.proofs.Locks.{take_law, lock_below}
use Rattle.lock_steps.proofs.steps.take_as.Goals as goal

pub compare_exchange-found-requires : goal.compare_exchange-found-requires
compare_exchange-found-requires g c =
    let p = c.args.place.now in
    let slots = c.args.top.now.table_id.slots in
    let P : ℕ × ℕ → Type 0 = λ z. Allows (IsRuled g.T.Stands.stands c.args.top.now.key) slots p.id p.me z.0 (λ x. either (x == 0) z.1 x) (took g.T.Stands.stands g.G.Guards.what g.E.Carried.entries (step slots z.0 0 z.1 none) p.me) in (
      c.requires.table.0,
      subst (λ (w : ℕ). w < c.args.top.now.table_id.words) (sym c.requires.lock.1) (lock_below g.G.Guards.what c.args.top.now.table_id.words c.requires.lock.0 c.requires.table.1),
      subst P (λ i. (sym c.requires.lock.1 i, sym c.requires.tag i)) (take_law g.T.Stands.stands c.args.top.now.key slots p.id (number_of p.me.0.role) g.G.Guards.what p.me g.E.Carried.entries c.requires.lock.0 c.requires.ready c.requires.may),
    )

pub exchange-requires : goal.exchange-requires
exchange-requires g c =
    let t = c.compare_exchange-found.ensures.2.taken c.if-found-eq0.true in
    let at = c.compare_exchange-found.new.seat in (
      c.compare_exchange-found.ensures.0 ∙ c.requires.table.0,
      (Some t.state, t.slot ∙ (λ i. (sym c.requires.lock.2 i, Some t.state) ∷ sym (ap (λ (l : List (ℕ × Option g.row.T.Denot)). rest l) t.slot) i)),
    )
