-- Callers between calls that wait.
use Rattle.std.proofs.Common.{◌≡◌, ℕ, ◌∙◌, sym, subst}
use Rattle.std.specs.Prelude.{Result, Ok, Err, OnOk, OnErr}
use Rattle.heap_model.specs.declared.Call.{Call}
use Rattle.heap_model.specs.declared.Reply.{Reply}
use Rattle.heap_gate.specs.Token.{HeapToken, Token}
use Rattle.heap_gate.specs.Roots.{RootToken, fresh_caller}
use Rattle.heap_now.specs.Calls.{IsCallerOf}
use Rattle.heap_now.specs.Callers.{IsRootOf}
use Rattle.heap_now.proofs.Callers.{fresh_free}
use Rattle.heap_api.specs.AtLast.{GetsAtLast}
use Rattle.heap_api.specs.Locks.{IsLockedAtLast}
use Rattle.heap_api.proofs.Made.{made_at_last}

-- a new caller
pub fresh_is : (h : HeapToken) (r : RootToken) (slot stream : ℕ) (c : Token) → IsRootOf h r → c ≡ fresh_caller r slot stream → IsCallerOf h c
fresh_is h r slot stream c k e = (fresh_free h r slot stream c k e).caller

-- .. behind a call
pub caller_at_last : (h : HeapToken) (a b : Token) (call : Call) (reply : Reply) → IsCallerOf h a → GetsAtLast a b call reply → IsCallerOf h b
caller_at_last h a b call reply k x =
    let m = made_at_last a b call reply x in
    record { table = m.follows.table ∙ k.table; opening = m.follows.opening ∙ k.opening; is_ready = m.ready }

-- .. behind one that takes the heap lock
pub locked_at_last : {A E : Type 0} (h : HeapToken) (a b : Token) (q : Result A E) → IsCallerOf h a → OnOk q (IsLockedAtLast a b) → OnErr q ((a.depth ≡ 65535) × (b ≡ a)) → IsCallerOf h b
locked_at_last h a b (Ok done) k x y = record { table = x.table ∙ k.table; opening = x.opening ∙ k.opening; is_ready = x.ready }
locked_at_last h a b (Err why) k x y = subst (IsCallerOf h) (sym y.1) k
