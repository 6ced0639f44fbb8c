-- A block of the variable-size layer that is given back, or not.
use Rattle.std.proofs.Common.{ℕ, true, refl, sym, subst}
use Rattle.heap_model.specs.declared.Busy.{Busy}
use Rattle.heap_gate.specs.Token.{Token}
use Rattle.vs_layer.specs.Kept.{VsKept}
use Rattle.paged_calls.specs.Parts.{Drops}
use Rattle.vs_calls.specs.Parts.{HasFreed, KeepsBlock}
use Rattle.address_calls.specs.Answers.{MayGuard, MeetsOn}
use Rattle.address_calls.specs.Finds.{IsOfVs}

pub vs_dropped : (a b : Token) (vs : VsKept) (addr : ℕ) → HasFreed a b vs addr → Drops a b addr true
vs_dropped a b vs addr x = (x.size, x.made)

-- the lock of the back end, which another has
pub vs_kept : (a b : Token) (vs : VsKept) (addr : ℕ) (busy : Busy) → IsOfVs a addr vs → KeepsBlock a b vs addr busy → MeetsOn a b addr busy
vs_kept a b vs addr busy h x =
    let m = x.busy h.has.call h.has.holds.serving.call_is in
    record {
      guards = subst (MayGuard a.opening.limits addr) (sym m.what_is) h.below;
      met = λ call e. let k = x.busy call e in record { made = k.made; what_is = refl; another = k.another };
    }
