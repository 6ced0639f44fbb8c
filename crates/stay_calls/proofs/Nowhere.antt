-- An address where no block begins, and what is prepared where one may.
use Rattle.std.proofs.Common.{◌≡◌, ℕ, ◌*◌, ◌/◌, ◌≤◌, [], ◌∙◌, ap, arith, inl, inr}
use Rattle.std.specs.Prelude.{is_some}
use Rattle.heap_model.specs.declared.Call.{Call}
use Rattle.look_steps.specs.Denials.{MayDeny}
use Rattle.heap_gate.specs.Token.{Token, Always, now, IsStanding}
use Rattle.call_parts.specs.Calls.{IsServing}
use Rattle.address_calls.specs.declared.look.Found.{Found}
use Rattle.address_calls.specs.declared.look.Found.TheVariants as founds
use Rattle.address_calls.specs.Finds.{IsFound, IsNone}

pub may_deny_none : (c : Token) (addr : ℕ) (call : Call) → IsServing c call [] → IsStanding c → IsNone c.opening.limits addr → Always c (λ s. MayDeny c.opening.limits (now s c) c.number addr)
may_deny_none c addr call v st (inl off) s q =
    let a = st s q in
    record { begun = ap is_some (a.call ∙ v.call_is); inside = a.entered ∙ v.inside; lfh = inl (inl off); vs = inl (inl off); back = inl (inl off); large = inl (inl off) }
may_deny_none c addr call v st (inr far) s q =
    let a = st s q in
    let behind : 256 * c.opening.limits.segments ≤ addr / 4096 = omega (arith, far) in
    record { begun = ap is_some (a.call ∙ v.call_is); inside = a.entered ∙ v.inside; lfh = inl (inr (inl behind)); vs = inl (inr (inl behind)); back = inl (inr (inl behind)); large = inl (inr (inr far)) }

-- a caller that has found where the block would be has prepared nothing
pub none_prepared : (c : Token) (addr : ℕ) (found : Found) → IsFound c addr found → c.prepared ≡ []
none_prepared c addr (founds.Front tag) h = h.free.1.prepared
none_prepared c addr (founds.Vs vs) h = h.has.holds.serving.prepared
none_prepared c addr (founds.Back vs back) h = h.has.holds.serving.prepared
none_prepared c addr (founds.Large large) h = h.has.1.serving.prepared
none_prepared c addr founds.Nowhere h = h.0.1.prepared
