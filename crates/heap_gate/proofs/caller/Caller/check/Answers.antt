use Rattle.std.proofs.Common.{ℕ, ◌<◌, sym, subst}
use Rattle.claim_rule.specs.Entries.{IsLegalWith, slot_at}
use Rattle.heap_gate.specs.Token.{Token, IsStanding, IsEven}
use Rattle.heap_gate.proofs.caller.Caller.check.Goals as goal

pub returns-clause-stands : goal.returns-clause-stands
returns-clause-stands g c = subst IsStanding c.self.view_is c.self.invariant.at

pub returns-clause-even : goal.returns-clause-even
returns-clause-even g c = subst IsEven c.self.view_is c.self.invariant.even

pub returns-clause-legal : goal.returns-clause-legal
returns-clause-legal g c = subst (λ (t : Token). IsLegalWith t.opening t.roll t.seen) c.self.view_is c.self.invariant.legal

pub returns-clause-few : goal.returns-clause-few
returns-clause-few g c = subst (λ (t : Token). t.number < t.opening.limits.callers) c.self.view_is c.self.invariant.few

pub returns-clause-slot : goal.returns-clause-slot
returns-clause-slot g c =
    let i = c.self.invariant in
    subst (λ (t : Token). slot_at t.roll t.number < t.opening.limits.slots) c.self.view_is (subst (λ (x : ℕ). x < c.self.inside.place.me.0.opening.limits.slots) (sym i.slot_is) i.slot_few)
