use Rattle.std.proofs.Common.{◌≡◌, ℕ, ◌<◌, List, ◌∷◌, Option, Some, subst, sym, ◌∙◌, refl}
use mathlib.Core.Option.{none}
use Rattle.atomic_table.specs.Table.{Me, step, rest, Allows}
use Rattle.claim_rule.specs.declared.views.View.{View}
use Rattle.claim_rule.specs.Rule.{IsRuled}
use Rattle.claim_rule.specs.Plays.{number_of}
use Rattle.claim_rule.specs.Home.{slot_of}
use Rattle.look_steps.specs.Denials.{denied_gave}
use Rattle.lock_steps.proofs.Locks.{lock_below}
use Rattle.look_steps.proofs.Denials.{deny_give_law}
use Rattle.look_steps.proofs.steps.deny_give_as.Goals as goal

pub store-requires : goal.store-requires
store-requires g c =
    let p = c.args.place.now in
    let slots = c.args.top.now.table_id.slots in
    let x = c.exchange-empty.new.seat in
    let more : List (ℕ × Option g.row.T.Denot) = rest p.me.1 in
    let me : Me (Option g.row.T.Denot) View = (p.me.0, (slot_of g.G.Guards.what, Some c.args.state) ∷ more) in
    let is : x.me ≡ me = c.exchange-empty.ensures.3 ∙ (λ i. (p.me.0, (c.requires.lock.2 i, Some c.args.state) ∷ more)) in
    let P : ℕ × (ℕ × Me (Option g.row.T.Denot) View) → Type 0 = λ z. Allows (IsRuled g.T.Stands.stands c.args.top.now.key) slots z.1.0 z.1.1 z.0 (λ _. 0) (λ _. denied_gave g.G.Guards.what g.E.Carried.entries g.B.Target.number (step slots z.0 0 0 none) z.1.1 0) in (
      c.exchange-empty.ensures.0 ∙ c.requires.table.0,
      subst (λ (w : ℕ). w < c.args.top.now.table_id.words) (sym c.requires.lock.1) (lock_below g.G.Guards.what c.args.top.now.table_id.words c.requires.lock.0 c.requires.table.1),
      subst P (λ i. (sym c.requires.lock.1 i, (sym c.exchange-empty.ensures.1 i, sym is i))) (deny_give_law g.T.Stands.stands c.args.top.now.key slots p.id (number_of p.me.0.role) g.B.Target.number g.G.Guards.what me g.E.Carried.entries c.args.state more c.requires.lock.0 c.requires.ready refl c.requires.paid c.requires.may c.requires.none),
    )
